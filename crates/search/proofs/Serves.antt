-- The places of a sitting's plates, filled one plate after the other. Assumes nothing.
use mathlib.Core.Path.{◌≡◌, refl, sym, ap, ◌∙◌, transport}
use mathlib.Core.List.{List, ◌++◌, map, map-append, append_assoc, append-nil, Memᴰ}
use mathlib.Core.Logic.{◌↔◌}
use mathlib.Core.List.Memᴰ
use Prim.Native.Nat.{ℕ, zero, suc, ◌+◌, ◌*◌, ◌-◌, ◌≤◌, ◌<◌}
use native.Mathlib.Nat.{mul_comm, suc-mul, zero-mul, le-div_iff_mul-le}
use native.Mathlib.Decide.{ℕ_discrete}
use native.Mathlib.Omega.{arith}
use Rattle.std.proofs.Common.{drop-drop}
use lib.IntN.{ℤ}
use lib.ListN.{length, take, drop, replicate, length-append, length-map, length-replicate, length-take, length-drop, take-append-drop}
use lib.Seq.{sets, sets-eq, take_at, drop_at}
use Rattle.ranking.specs.Found.{Found, rank, distance_of, code_of}
use Rattle.ranking.specs.Best.{best_of, places_of}
use Rattle.ranking.specs.declared.best.Best.{Best}
use Rattle.ranking.proofs.Ranks.{rank_distance, rank_code}
use Rattle.image.specs.Fields.{wells_of}
use Rattle.image.specs.Library.{Library}
use Rattle.image.proofs.Sizes.{row_in}
use Rattle.image.proofs.Runs.{sets_append}
use Rattle.content.specs.Bytes.{Bytes}
use Rattle.search.specs.Ranked.{ranked, nearest, plates_in, plate_at, places, rows}
use Rattle.search.specs.Calls.{code_in, distance_in, served}
use Rattle.search.proofs.Lists.{ranked_codes}
use Rattle.search.proofs.Walked.{parts}

-- the places of the first j plates are filled, and nothing else is changed
pub record Serving (xs : List ℕ) (plates : List ℤ) (k : ℕ) (part : Found → ℕ) (lent : List ℕ) (j : ℕ) (slice : List ℕ) : Type 0 where
  pub filled : slice ≡ sets lent 0 (rows xs k part plates 0 j)

-- a row of w before row n ends before it
row_room : (w : ℕ) {j many : ℕ} → j < many → j * w + w ≤ many * w
row_room w {j} {many} h = rw (mul_comm j w, mul_comm many w) (row_in w h)

row_next : (w j : ℕ) → suc j * w ≡ j * w + w
row_next w j = suc-mul j w

-- ---- a plate's places

module _ (k : ℕ) (part : Found → ℕ) where
  places_length : (fs : List Found) → length fs ≤ k → length (places k part fs) ≡ k
  unfolding places
  places_length fs h = simp (length-append, length-map, length-replicate) (omega arith)

abbrev zeros : ℕ → List ℕ
zeros many = replicate many 0

-- in a running list of k they stand as ranks, and 0 behind them
module _ (part : ℕ → ℕ) (is : Found → ℕ) (zero_is : part 0 ≡ 0) where
  zeros_part : (many : ℕ) → map part (zeros many) ≡ zeros many
  zeros_part zero = refl
  zeros_part (suc many) = cc (zero_is, zeros_part many)

  pub best_places : (k : ℕ) (fs : List Found) → ((f : Found) → Memᴰ f fs → part (rank f) ≡ is f)
      → map part (places_of k (map rank fs)) ≡ places k is fs
  unfolding places
  best_places k fs same = rw (map-append, zeros_part, parts part is fs same, length-map fs rank)

nearest_few : (xs : List ℕ) (k : ℕ) (plate : List ℤ) → length (nearest xs k plate) ≤ k
unfolding nearest
nearest_few xs k plate = rw length-take (omega arith)

pub nearest_places : (xs : List ℕ) (k : ℕ) (plate : List ℤ) (part : Found → ℕ) → length (places k part (nearest xs k plate)) ≡ k
nearest_places xs k plate part = places_length k part (nearest xs k plate) (nearest_few xs k plate)

module _ (xs : List ℕ) (plates : List ℤ) (k : ℕ) (part : Found → ℕ) where
  -- one plate more
  rows_last : (j many : ℕ) → rows xs k part plates j (suc many) ≡ rows xs k part plates j many ++ places k part (nearest xs k (plate_at xs plates (j + many)))
  unfolding rows
  rows_last j zero = let e : j + 0 ≡ j = omega arith in rw (e, append-nil)
  rows_last j (suc many) =
      let e : suc j + many ≡ j + suc many = omega arith in
      ap (λ (r : List ℕ). places k part (nearest xs k (plate_at xs plates j)) ++ r) (rows_last (suc j) many)
      ∙ rw e (sym (append_assoc (places k part (nearest xs k (plate_at xs plates j))) (rows xs k part plates (suc j) many) _))

  pub rows_length : (j many : ℕ) → length (rows xs k part plates j many) ≡ many * k
  unfolding rows
  rows_length j zero = omega arith
  rows_length j (suc many) = simp length-append (omega (arith, nearest_places xs k (plate_at xs plates j) part, rows_length (suc j) many, row_next k many))

  module _ (lent : List ℕ) where
    pub serving_none : Serving xs plates k part lent 0 lent
    unfolding rows
    serving_none = record { filled = refl }

    module _ {j : ℕ} {slice : List ℕ} (s : Serving xs plates k part lent j slice) where
      pub serving_more : {at : ℕ} {plate : List ℤ} {slice' : List ℕ} → at ≡ j * k → plate ≡ plate_at xs plates j
          → slice' ≡ sets slice at (places k part (nearest xs k plate)) → Serving xs plates k part lent (j + 1) slice'
      serving_more {at} {plate} {slice'} is_at is_plate e = record { filled = more }
        where
          new : List ℕ
          new = places k part (nearest xs k (plate_at xs plates j))

          more : slice' ≡ sets lent 0 (rows xs k part plates 0 (j + 1))
          more =
              let one : j + 1 ≡ suc j = omega arith in
              let none : 0 + j ≡ j = omega arith in
              let behind : at ≡ 0 + length (rows xs k part plates 0 j) = omega (arith, is_at, rows_length 0 j) in
              e
              ∙ ap (λ (p : List ℤ). sets slice at (places k part (nearest xs k p))) is_plate
              ∙ ap (λ (l : List ℕ). sets l at new) s.filled
              ∙ ap (λ (i : ℕ). sets (sets lent 0 (rows xs k part plates 0 j)) i new) behind
              ∙ sym (sets_append lent (rows xs k part plates 0 j) new 0)
              ∙ ap (λ (i : ℕ). sets lent 0 (rows xs k part plates 0 j ++ places k part (nearest xs k (plate_at xs plates i)))) (sym none)
              ∙ ap (sets lent 0) (sym (rows_last 0 j) ∙ ap (rows xs k part plates 0) (sym one))

      pub serving_all : j ≡ plates_in xs plates → plates_in xs plates * k ≤ length lent → slice ≡ served xs plates k part lent
      serving_all e h =
          let n : 0 + length (rows xs k part plates 0 (plates_in xs plates)) ≡ plates_in xs plates * k = omega (arith, rows_length 0 (plates_in xs plates)) in
          (rw e at s.filled) ∙ sets-eq (rows xs k part plates 0 (plates_in xs plates)) lent 0 (omega arith) ∙ rw n

-- ---- what a turn of the sitting is given and gives

take_mem : {A : Type 0} (k : ℕ) (l : List A) {a : A} → Memᴰ a (take k l) → Memᴰ a l
take_mem {A} k l {a} m = transport (λ i. Memᴰ a (take-append-drop k l i)) (Memᴰ.append_left (drop k l) m)

module _ {xs : List ℕ} (b : Bytes xs) (l : Library xs) (k : ℕ) (plate : List ℤ) where
  nearest_code : {f : Found} → Memᴰ f (nearest xs k plate) → f.code < 4294967296
  unfolding nearest
  nearest_code m = ranked_codes xs plate b l (take_mem k (ranked xs plate) m)

  module _ {best : Best} (e : best ≡ best_of k (map rank (nearest xs k plate))) {ranks : List ℕ} (r : ranks ≡ places_of best.asked best.kept) where
    pub ranks_long : length ranks ≡ k
    ranks_long = rw (r, e) (simp (length-append, length-replicate, length-map) (omega (arith, nearest_few xs k plate)))

    pub code_places : map code_of ranks ≡ places k code_in (nearest xs k plate)
    code_places = rw (r, e) (best_places code_of code_in refl k (nearest xs k plate) (λ f m. rank_code f (nearest_code m)))

    pub distance_places : map distance_of ranks ≡ places k distance_in (nearest xs k plate)
    distance_places = rw (r, e) (best_places distance_of distance_in refl k (nearest xs k plate) (λ f m. rank_distance f (nearest_code m)))

-- the plates that are left, from plate j on
pub record Left (xs : List ℕ) (plates : List ℤ) (j : ℕ) (rest : List ℤ) (wells : ℕ) : Type 0 where
  pub low : j ≤ plates_in xs plates
  pub is_rest : rest ≡ drop (j * wells_of xs) plates
  pub is_wells : wells ≡ wells_of xs

-- plate j is taken, and these are left
pub record Taken (xs : List ℕ) (plates : List ℤ) (j : ℕ) (plate rest : List ℤ) (wells : ℕ) : Type 0 where
  pub there : j < plates_in xs plates
  pub is_plate : plate ≡ plate_at xs plates j
  pub left : Left xs plates (j + 1) rest wells

pub left_all : {xs : List ℕ} {plates rest : List ℤ} {wells : ℕ} → rest ≡ plates → wells ≡ wells_of xs → Left xs plates 0 rest wells
left_all {xs} {plates} r w = record { low = omega arith; is_rest = r ∙ ap (λ (i : ℕ). drop i plates) (sym (zero-mul (wells_of xs))); is_wells = w }

module _ {xs : List ℕ} (l : Library xs) {plates : List ℤ} {j : ℕ} {rest : List ℤ} {wells : ℕ} (t : Left xs plates j rest wells) where
  some : 0 < wells_of xs
  some = omega (arith, l.layout.wells.0)

  long : length rest ≡ length plates - j * wells_of xs
  long = ap length t.is_rest ∙ length-drop (j * wells_of xs) plates

  -- there are as many as fit into the values
  one_more : (suc j ≤ plates_in xs plates) ↔ (suc j * wells_of xs ≤ length plates)
  one_more = le-div_iff_mul-le some

  pub left_more : {plate rest' : List ℤ} {wells' : ℕ} → rest ≡ plate ++ rest' → length plate ≡ wells → wells' ≡ wells → Taken xs plates j plate rest' wells'
  unfolding plate_at
  left_more {plate} {rest'} e n w =
      let there : j < plates_in xs plates =
      one_more.1 (omega (arith, row_next (wells_of xs) j, long, ap length e, length-append plate rest', n, t.is_wells, some)) in
      record {
        there = there;
        is_plate = sym (take_at plate rest' (wells_of xs) (n ∙ t.is_wells)) ∙ ap (take (wells_of xs)) (sym e ∙ t.is_rest);
        left = record {
          low = omega (arith, there);
          is_rest =
              sym (drop_at plate rest' (wells_of xs) (n ∙ t.is_wells))
              ∙ ap (drop (wells_of xs)) (sym e ∙ t.is_rest)
              ∙ drop-drop (wells_of xs) (j * wells_of xs) plates
              ∙ ap (λ (i : ℕ). drop i plates) (omega (arith, row_next (wells_of xs) j));
          is_wells = w ∙ t.is_wells;
        };
      }

  pub left_none : length rest < wells → j ≡ plates_in xs plates
  left_none h = by (ℕ_discrete j (plates_in xs plates))
    where
      by : Dec (j ≡ plates_in xs plates) → j ≡ plates_in xs plates
      by (yes e) = e
      by (no ne) = absurd (omega (arith, row_next (wells_of xs) j, long, t.is_wells, one_more.0 (omega (arith, t.low, ne))))

-- a turn's places lie in a slice that has room for all
pub turn_room : (k : ℕ) {many j room : ℕ} → j < many → many * k ≤ room → j * k + k ≤ room
turn_room k h r = omega (arith, row_room k h)
