-- The records of a content with a strain more. Assumes nothing.
use mathlib.Core.Path.{◌≡◌, refl, ◌∙◌, ap}
use mathlib.Core.Logic.{◌≢◌}
use mathlib.Core.List.{List, [], ◌∷◌, ◌++◌, map}
use Prim.Native.Nat.{ℕ, suc, ◌<◌}
use native.Mathlib.Omega.{arith}
use lib.ListN.{length, set, length-set, length-append, get_or-append}
use lib.Seq.{get_or-set_same, get_or-set_other, get_or_at, map-set_same}
use Rattle.image.specs.Strains.{Strain}
use Rattle.content.specs.Content.{Kept, Content, nth, no_record, strains}
use Rattle.content.specs.Adding.{parent_for, level_for, raised, added}

map_append : {A B : Type 0} (f : A → B) (xs ys : List A) → map f (xs ++ ys) ≡ map f xs ++ map f ys
map_append f [] ys = λ i. map f ys
map_append {B = B} f (x ∷ xs) ys = ap (λ (r : List B). f x ∷ r) (map_append f xs ys)

-- the strains are the old ones, and the new one behind them
pub added_strains : (c : Content) (s : Strain) → strains (added c s) ≡ strains c ++ (s ∷ [])
unfolding added raised
added_strains c s =
    let olds : List Kept = set c.records c.root (raised (level_for c s.profile) (nth c.records c.root)) in
    let new : Kept = record { strain = s; parent = parent_for c s.profile; level = level_for c s.profile } in
    let joined : strains (added c s) ≡ map (λ (r : Kept). r.strain) olds ++ (s ∷ []) = map_append (λ (r : Kept). r.strain) olds (new ∷ []) in
    let kept : map (λ (r : Kept). r.strain) olds ≡ strains c = map-set_same (λ (r : Kept). r.strain) c.records c.root _ no_record refl in
    joined ∙ ap (λ (r : List Strain). r ++ (s ∷ [])) kept

module _ (c : Content) (s : Strain) where
  -- the root, with its level raised
  top : Kept
  top = raised (level_for c s.profile) (nth c.records c.root)

  olds : List Kept
  olds = set c.records c.root top

  new : Kept
  new = record { strain = s; parent = parent_for c s.profile; level = level_for c s.profile }

  added_is : (added c s).records ≡ olds ++ (new ∷ [])
  unfolding added olds top new
  added_is = λ i. olds ++ (new ∷ [])

  olds_length : length olds ≡ length c.records
  unfolding olds
  olds_length = length-set c.records c.root top

  pub added_length : length (added c s).records ≡ suc (length c.records)
  added_length = rw added_is (omega (arith, length-append olds (new ∷ []), olds_length))

  old_is : (i : ℕ) → i < length c.records → nth (added c s).records i ≡ nth olds i
  old_is i h = rw added_is (get_or-append olds (new ∷ []) no_record i (omega (arith, olds_length)))

  -- the old records but the root
  pub added_old : (i : ℕ) → i < length c.records → i ≢ c.root → nth (added c s).records i ≡ nth c.records i
  unfolding olds
  added_old i h ne = old_is i h ∙ get_or-set_other c.records c.root i top no_record ne

  -- the root
  pub added_root : c.root < length c.records → nth (added c s).records c.root ≡ raised (level_for c s.profile) (nth c.records c.root)
  unfolding olds top
  added_root h = old_is c.root h ∙ get_or-set_same c.records c.root top no_record h

  -- the new record
  pub added_new : nth (added c s).records (length c.records) ≡ record { strain = s; parent = parent_for c s.profile; level = level_for c s.profile }
  unfolding new
  added_new = rw added_is (get_or_at olds new [] no_record (length c.records) olds_length)
