-- What the steps of starting, adding and filing promise each other. Assumes nothing.
use Rattle.std.specs.Prelude.{◌≡◌, List, ℕ, suc, ◌≤◌, ◌<◌, ℤ, length, get_or, take}
use Rattle.image.specs.Fields.{wells_of, metric_of, count_of, spare_at, size_of}
use Rattle.image.specs.Strains.{Strain, strains_of}
use Rattle.content.specs.Content.{Kept, nth, first_of, content_of}
use Rattle.content.specs.Headed.{Headed}
use Rattle.content.specs.Adding.{started, distance_to, parent_for, added}
use Rattle.content.specs.Filing.{by_code, grown_of}
use Rattle.adding.specs.declared.seat.Seat.{Seat}

-- a seat tells of record v: its number, its distance to x, its code
pub record Seated (metric : ℕ) (x : List ℤ) (at : ℕ → Kept) (seat : Seat) (v : ℕ) : Type 0 where
  pub parent : seat.parent ≡ v
  pub distance : seat.distance ≡ distance_to metric x (at v)
  pub code : seat.code ≡ (at v).strain.code

-- the seat that a strain can have in a library where no record has its profile
pub record SeatFor (xs : List ℕ) (profile : List ℤ) (seat : Seat) : Type 0 where
  pub wells : length profile ≡ wells_of xs
  pub away : 0 < seat.distance
  pub seated : Seated (metric_of xs) profile (nth (content_of xs).records) seat (parent_for (content_of xs) profile)

-- record k was added: the records before it are as they were but for the root's level, and so are the header and all behind the layout
pub record Hung (xs ys : List ℕ) (size k : ℕ) (s : Strain) : Type 0 where
  pub says : first_of ys (suc k) ≡ added (first_of xs k) s
  pub long : length ys ≡ length xs
  pub header : (j : ℕ) → j < 16 → get_or ys j 0 ≡ get_or xs j 0
  pub behind : (j : ℕ) → size ≤ j → get_or ys j 0 ≡ get_or xs j 0
  pub spare : (i : ℕ) → i < k → spare_at ys i ≡ spare_at xs i
  pub new_spare : spare_at ys k ≡ 0

-- a library of so many strains was begun with its root
pub record Begun (xs ys : List ℕ) (wells metric count : ℕ) (s : Strain) : Type 0 where
  pub headed : Headed ys wells metric count 0
  pub says : first_of ys 1 ≡ started wells metric s
  pub long : length ys ≡ length xs
  pub behind : (j : ℕ) → size_of wells count ≤ j → get_or ys j 0 ≡ get_or xs j 0
  pub spare : (i : ℕ) → i < 1 → spare_at ys i ≡ 0

-- the first k strains of a library, in order of code, are filed into a buffer
pub record Filing (image buffer ys : List ℕ) (k : ℕ) : Type 0 where
  pub headed : Headed ys (wells_of image) (metric_of image) (count_of image) 0
  pub says : first_of ys k ≡ grown_of (wells_of image) (metric_of image) (take k (by_code (strains_of image)))
  pub long : length ys ≡ length buffer
  pub room : length image ≤ length buffer
  pub behind : (j : ℕ) → length image ≤ j → get_or ys j 0 ≡ get_or buffer j 0
  pub spare : (i : ℕ) → i < k → spare_at ys i ≡ 0
