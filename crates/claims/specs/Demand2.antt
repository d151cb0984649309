-- Demand 2: what is accepted, what the searches give, and what an addition leaves. Said of the contracts that the calls' code is proved to meet, in the
-- words of document 01: neither a sort nor a rank is named here, and a walk only in the signed sentence. Assumes nothing.
use Rattle.std.specs.Prelude.{Ok, ◌≡◌, ◌↔◌, ◌⊎◌, ℕ, ◌+◌, ◌*◌, ◌%◌, ◌≤◌, ◌<◌, min, ℤ, length, take, drop}
use Rattle.search.specs.Answer.{counted, Served, Gathered}
use mathlib.Core.List.{List, [], ◌∷◌, ◌++◌, map, Memᴰ}
use Rattle.profile.specs.Distance.{Wells, distance}
use Rattle.profile.specs.Level.{reach}
use Rattle.ranking.specs.Sort.{itself}
use Rattle.ranking.specs.Order.{Distinct}
use Rattle.ranking.specs.Found.{Found}
use Rattle.tree.specs.Tree.{Other, CoverCondition, PairsApart, CoverTree, Below}
use Rattle.tree.specs.Grow.{CanTake, NearestTaker, Grown}
use Rattle.image.specs.Fields.{wells_of, metric_of, count_of, root_of, code_at, parent_at, level_at, profile_at, distance_at}
use Rattle.image.specs.Strains.{Strain, strains_of, strain_of}
use Rattle.image.specs.Library.{Layout, tree_of, Library}
use Rattle.checker.specs.Check.{Checked, CheckGives}
use Rattle.content.specs.Bytes.{Bytes}
use Rattle.content.specs.Content.{content_of}
use Rattle.content.specs.Adding.{started}
use Rattle.walk.specs.Weighed.{weighed}
use Rattle.build.specs.Calls.{StartGives, AddGives}
use Rattle.search.specs.Ranked.{plates_in, plate_at, places}
use Rattle.search.specs.Calls.{code_in, distance_in, SittingGives, WithinGives}
use Rattle.search.specs.Weighing.{EveryStrainWeighed}

-- ---- which libraries are accepted

pub record Acceptance : Type 0 where
  -- accepted exactly when its layout and the root, cover and separation conditions of the published definition hold
  pub exactly : (image : List ℕ) {r : Checked} → CheckGives image r → (r ≡ Ok tt) ↔ Library image
  -- of these conditions the root's follows from cover, and separation is what document 01 says of pairs
  pub conditions : (image : List ℕ) → Layout image
      → CoverTree (distance (metric_of image)) (count_of image) (tree_of image)
      ↔ (CoverCondition (distance (metric_of image)) (tree_of image) × PairsApart (distance (metric_of image)) (tree_of image))
  -- reach: every descendant of a node at level L lies within 2 ^ (L + 1) - 1 of it
  pub reaches : (image : List ℕ) → Library image → (p k q : ℕ) → p < count_of image → Below (tree_of image) p k q → distance_at image p q ≤ reach (level_at image p)

-- ---- what the searches give

-- f comes before g: it is nearer or, as near, has the lower code
abbrev pub Before : (f g : Found) → Type 0
Before f g = (f.distance < g.distance) ⊎ ((f.distance ≡ g.distance) × (f.code < g.code))

-- each comes before all that follow
pub data InOrder : List Found → Type 0 where
  none : InOrder []
  next : {f : Found} {fs : List Found} → ((g : Found) → Memᴰ g fs → Before f g) → InOrder fs → InOrder (f ∷ fs)

-- f is a strain of the library, weighed against the plate
abbrev pub StrainOf : (image : List ℕ) (plate : List ℤ) (f : Found) → Type 0
StrainOf image plate f = (s : Strain) × Memᴰ s (strains_of image) × (f ≡ weighed (metric_of image) plate s)

-- the k nearest strains of a library: k, or all if there are fewer, in order, and every strain left out comes behind each of them
pub record NearestStrains (image : List ℕ) (k : ℕ) (plate : List ℤ) (fs : List Found) : Type 0 where
  pub many : length fs ≡ min k (count_of image)
  pub strain : (f : Found) → Memᴰ f fs → StrainOf image plate f
  pub order : InOrder fs
  pub others : (g : Found) → StrainOf image plate g → (Memᴰ g fs → ⊥) → (f : Found) → Memᴰ f fs → Before f g

-- the strains within a radius: exactly those, in order
pub record StrainsWithin (image : List ℕ) (radius : ℕ) (plate : List ℤ) (fs : List Found) : Type 0 where
  pub exactly : (f : Found) → Memᴰ f fs ↔ (StrainOf image plate f × (f.distance ≤ radius))
  pub order : InOrder fs

-- document 01's rule on what is measured: the root is; another exactly when its parent is, and the parent's distance is at most R + reach of its level
pub data Measured (image : List ℕ) (radius : ℕ) (plate : List ℤ) : ℕ → Type 0 where
  root : Measured image radius plate (root_of image)
  child : {i : ℕ} → Other (tree_of image) i → Measured image radius plate (parent_at image i)
      → distance (metric_of image) (profile_at image (parent_at image i)) plate ≤ radius + reach (level_at image (parent_at image i)) → Measured image radius plate i

-- a sitting that is not refused: each plate's k places hold its nearest strains and then 0, the places behind the last plate are as they were, and the
-- result is how many are filled
pub record SittingHas (image : List ℕ) (plates : List ℤ) (k : ℕ) (codes distances : List ℕ) (filled : ℕ) (codes' distances' : List ℕ) : Type 0 where
  pub library : Library image
  pub count : filled ≡ min k (count_of image)
  pub plate : (j : ℕ) → j < plates_in image plates
      → (fs : List Found) × NearestStrains image k (plate_at image plates j) fs
      × (take k (drop (j * k) codes') ≡ places k code_in fs) × (take k (drop (j * k) distances') ≡ places k distance_in fs)
  pub codes_stay : drop (plates_in image plates * k) codes' ≡ drop (plates_in image plates * k) codes
  pub distances_stay : drop (plates_in image plates * k) distances' ≡ drop (plates_in image plates * k) distances

-- a search within a radius that is not refused: the strains inside stand in front, all other places are as they were, and the result is how many they
-- are and how many profiles were measured
pub record WithinHas (image : List ℕ) (plate : List ℤ) (radius : ℕ) (codes distances : List ℕ) (many measured : ℕ) (codes' distances' : List ℕ) : Type 0 where
  pub library : Library image
  pub inside : (fs : List Found) × StrainsWithin image radius plate fs × (many ≡ length fs)
      × (codes' ≡ map code_in fs ++ drop many codes) × (distances' ≡ map distance_in fs ++ drop many distances)
  -- the records measured, each once
  pub profiles : (ms : List ℕ) × Distinct itself ms × ((i : ℕ) → Memᴰ i ms ↔ ((i < count_of image) × Measured image radius plate i)) × (measured ≡ length ms)

-- whole plates, 1 to 64; 1 to 32 neighbours; and room for them in both slices
pub record SittingFits (image : List ℕ) (plates : List ℤ) (k : ℕ) (codes distances : List ℕ) : Type 0 where
  pub whole : length plates % wells_of image ≡ 0
  pub some_plates : 1 ≤ plates_in image plates
  pub most_plates : plates_in image plates ≤ 64
  pub some : 1 ≤ k
  pub most : k ≤ 32
  pub codes_room : plates_in image plates * k ≤ length codes
  pub distances_room : plates_in image plates * k ≤ length distances

pub record Searching : Type 0 where
  -- for every accepted library a sitting is served
  pub served : (image : List ℕ) (plates : List ℤ) (k : ℕ) (codes distances : List ℕ) (r : Served) (codes' distances' : List ℕ) → Library image
      → SittingFits image plates k codes distances → SittingGives image plates k codes distances r codes' distances' → r ≡ Ok (min k (count_of image))
  -- and then each plate gets its true nearest strains by distance and then code
  pub nearest : (image : List ℕ) (plates : List ℤ) (k : ℕ) (codes distances : List ℕ) (filled : ℕ) (codes' distances' : List ℕ) → Bytes image
      → SittingGives image plates k codes distances (Ok filled) codes' distances' → SittingHas image plates k codes distances filled codes' distances'
  -- these words leave one list only
  pub nearest_one : (image : List ℕ) → Bytes image → Library image → (k : ℕ) (plate : List ℤ) (fs gs : List Found)
      → NearestStrains image k plate fs → NearestStrains image k plate gs → fs ≡ gs
  -- for every accepted library a search within a radius is made
  pub gathered : (image : List ℕ) (plate : List ℤ) (radius : ℕ) (codes distances : List ℕ) (r : Gathered) (codes' distances' : List ℕ) → Library image
      → length plate ≡ wells_of image → count_of image ≤ length codes → count_of image ≤ length distances
      → WithinGives image plate radius codes distances r codes' distances' → (n : ℕ) × (m : ℕ) × (r ≡ counted n m)
  -- and then it lists exactly the strains inside the radius
  pub within : (image : List ℕ) (plate : List ℤ) (radius : ℕ) (codes distances : List ℕ) (many measured : ℕ) (codes' distances' : List ℕ) → Bytes image
      → WithinGives image plate radius codes distances (counted many measured) codes' distances'
      → WithinHas image plate radius codes distances many measured codes' distances'
  -- these words too leave one list only
  pub within_one : (image : List ℕ) → Bytes image → Library image → (radius : ℕ) (plate : List ℤ) (fs gs : List Found)
      → StrainsWithin image radius plate fs → StrainsWithin image radius plate gs → fs ≡ gs
  -- the signed sentence: every strain is weighed in every match
  pub every_strain : (image : List ℕ) → Bytes image → Library image → (plate : List ℤ) → length plate ≡ wells_of image → (k : ℕ) → 1 ≤ k → EveryStrainWeighed image plate k

-- ---- what an addition leaves

-- in place of the image `old` stands `new`, with the old strains and the new one behind them, hung in as document 01 says
pub record AddedTo (old new : List ℕ) (code : ℕ) (profile : List ℤ) : Type 0 where
  pub was : Library old
  pub is : Library new
  pub wells : wells_of new ≡ wells_of old
  pub metric : metric_of new ≡ metric_of old
  pub strains : strains_of new ≡ strains_of old ++ (strain_of code profile ∷ [])
  -- under the nearest node that can take it, of equally near ones that with the lowest code
  pub parent : ℕ
  pub taker : NearestTaker (distance (metric_of old)) (tree_of old) profile parent
  pub lowest : (u : ℕ) → CanTake (distance (metric_of old)) (tree_of old) profile u
      → distance (metric_of old) (profile_at old u) profile ≡ distance (metric_of old) (profile_at old parent) profile → code_at old parent ≤ code_at old u
  -- at the fitting level of that distance; the root's level is raised if need be, all other levels and all parents stay
  pub grown : Grown (distance (metric_of old)) (tree_of old) (tree_of new) profile parent (count_of old)

pub record Adding : Type 0 where
  -- a start that is not refused leaves an accepted library with the one strain, a lone root at level 0
  pub starts : (wells metric code : ℕ) (profile : List ℤ) (buffer : List ℕ) (n : ℕ) (buffer' : List ℕ) → code < 4294967296 → Wells profile
      → StartGives wells metric code profile buffer (Ok n) buffer'
      → Library (take n buffer') × (content_of (take n buffer') ≡ started wells metric (strain_of code profile)) × (drop n buffer' ≡ drop n buffer)
  -- an addition that is not refused leaves an accepted library with the old strains and the new one, unaltered
  pub added : (buffer : List ℕ) (stated code : ℕ) (profile : List ℤ) (n : ℕ) (buffer' : List ℕ) → Bytes buffer → code < 4294967296 → Wells profile
      → AddGives buffer stated code profile (Ok n) buffer' → AddedTo (take stated buffer) (take n buffer') code profile × (drop n buffer' ≡ drop n buffer)

pub record Demand2 : Type 0 where
  pub acceptance : Acceptance
  pub searching : Searching
  pub adding : Adding
