-- Document 01's cases C1 to C12 as one table, and what each of its rows says of the definitions. Assumes nothing.
use Rattle.std.specs.Prelude.{◌≡◌, List, [], ◌∷◌, ◌++◌, map, ℕ, min, ◌≤◌, ◌<◌, ℤ, pos, neg_ℤ, length, drop}
use Rattle.profile.specs.Distance.{distance}
use Rattle.profile.specs.Level.{cover_limit, fitting_level}
use Rattle.ranking.specs.Found.{Found}
use Rattle.tree.specs.Grow.{CanTake}
use Rattle.image.specs.declared.refusal.Place.{Place}
use Rattle.image.specs.Fields.{metric_of, count_of, code_at, parent_at, level_at, distance_at}
use Rattle.image.specs.Library.{tree_of}
use Rattle.image.specs.Strains.{Strain, each}
use Rattle.image.specs.Verdict.{refused}
use Rattle.image.specs.Answer.{given, denied}
use Rattle.checker.specs.Check.{check_of}
use Rattle.content.specs.Content.{record_at}
use Rattle.content.specs.Adding.{distance_to}
use Rattle.search.specs.Calls.{code_in, distance_in, listed, sitting_of, within_of}
use Rattle.build.specs.Calls.{add_of, file_of}
use Rattle.claims.specs.Example.{example_with, example, reversed, with105}
use Rattle.claims.specs.Growing.{one_well, grown_in_order}

-- ---- the table

-- a strain found, by code and distance
infix 68 ◌at◌
abbrev pub ◌at◌ : (code distance : ℕ) → Found
code at distance = record { distance = distance; code = code }

-- what is asked, of the example library where no other is named, and what document 01 answers
pub data Case : Type 0 where
  -- a plate and k: its k places
  sitting : (plate : ℤ) (k : ℕ) → List Found → Case
  -- within a radius of a plate: the strains, and how many profiles were measured
  within : (radius : ℕ) (plate : ℤ) → List Found → (measured : ℕ) → Case
  -- adding a strain gives these bytes: its parent's code and its level; and the code of a record that is nearer but cannot take it
  adding : Strain → (image : List ℕ) → (parent : ℕ) (level : ℤ) → (nearer : ℕ) → Case
  -- adding a strain is refused: the number, and the record told
  adding_refused : Strain → (number place : ℕ) → Case
  -- the fitting level of a distance
  fitting : (distance : ℕ) (level : ℤ) → Case
  -- starting with a strain and adding others gives these bytes: each record's level, and its parent's code; its filing form is the example library
  growing : (first : Strain) (rest : List Strain) → (image : List ℕ) → (levels : List ℤ) (parents : List ℕ) → Case
  -- with 102's level byte set, which is this level: the refusal's number, the record told, and its distance to its parent, which is above its cover limit
  level_byte_set : (byte : ℕ) (level : ℤ) → (number place : ℕ) → (distance limit : ℕ) → Case

pub data Row : Type 0 where
  C : (number : ℕ) → List Case → Row

unfoldable pub cases : List Row
cases =
    C 1 (sitting (pos 7) 3 (103 at 3 ∷ 102 at 4 ∷ 104 at 4 ∷ []) ∷ [])
    ∷ C 2 (sitting (pos 7) 2 (103 at 3 ∷ 102 at 4 ∷ []) ∷ [])
    ∷ C 3 (sitting (pos 7) 5 (103 at 3 ∷ 102 at 4 ∷ 104 at 4 ∷ 101 at 7 ∷ 0 at 0 ∷ []) ∷ [])
    ∷ C 4 (within 4 (pos 7) (103 at 3 ∷ 102 at 4 ∷ 104 at 4 ∷ []) 4 ∷ [])
    ∷ C 5 (within 0 (neg_ℤ (pos 31)) [] 3 ∷ [])
    ∷ C 6 (within 0 (neg_ℤ (pos 40)) [] 1 ∷ [])
    ∷ C 7 (adding (one_well 105 (pos 12)) with105 103 (pos 0) 104 ∷ [])
    ∷ C 8 (adding_refused (one_well 105 (pos 10)) 19 2 ∷ [])
    ∷ C 9 (fitting 1 (neg_ℤ (pos 1)) ∷ fitting 2 (pos 0) ∷ fitting 3 (pos 1) ∷ fitting 4 (pos 1) ∷ fitting 5 (pos 2) ∷ [])
    ∷ C 10 (fitting 1048560 (pos 19) ∷ [])
    ∷ C 11 (growing (one_well 104 (pos 11)) (one_well 103 (pos 10) ∷ one_well 102 (pos 3) ∷ one_well 101 (pos 0) ∷ []) reversed
    (pos 3 ∷ neg_ℤ (pos 1) ∷ pos 2 ∷ pos 1 ∷ []) (104 ∷ 104 ∷ 104 ∷ 102 ∷ []) ∷ [])
    ∷ C 12 (level_byte_set 1 (pos 0) 12 1 3 2 ∷ [])
    ∷ []

-- ---- what the table says. Every case is said of whatever memory is lent, if it is long enough; what is not written stays

-- of a library's records, the one with a code lies nearer to x than the parent chosen, and cannot take x
pub record TooLow (image : List ℕ) (x : List ℤ) (code parent : ℕ) : Type 0 where
  pub number : ℕ
  pub is_record : number < count_of image
  pub is_code : code_at image number ≡ code
  pub is_nearer : distance_to (metric_of image) x (record_at image number) < distance_to (metric_of image) x (record_at image parent)
  pub cannot : CanTake (distance (metric_of image)) (tree_of image) x number → ⊥

-- the new record is the fifth, number 4, and takes ten bytes
pub record AddingHolds (s : Strain) (image : List ℕ) (parent : ℕ) (level : ℤ) (nearer : ℕ) : Type 0 where
  pub written : (rest : List ℕ) → 10 ≤ length rest
      → add_of (example ++ rest) 56 s.code s.profile ≡ record { answer = given 66; buffer = image ++ drop 10 rest }
  pub is_code : code_at image 4 ≡ s.code
  pub is_parent : code_at image (parent_at image 4) ≡ parent
  pub is_level : level_at image 4 ≡ level
  pub too_low : TooLow example s.profile nearer (parent_at image 4)

pub record GrowingHolds (first : Strain) (rest : List Strain) (image : List ℕ) (levels : List ℤ) (parents : List ℕ) : Type 0 where
  pub written : (buffer : List ℕ) → 56 ≤ length buffer
      → grown_in_order 1 1 first rest buffer ≡ record { answer = given 56; buffer = image ++ drop 56 buffer }
  pub is_levels : each (level_at image) 0 4 ≡ levels
  pub is_parents : each (λ i. code_at image (parent_at image i)) 0 4 ≡ parents
  pub is_filed : (room : List ℕ) → 56 ≤ length room → file_of image room ≡ record { answer = given 56; buffer = example ++ drop 56 room }

pub record LevelByteHolds (image : List ℕ) (level : ℤ) (number place distance limit : ℕ) : Type 0 where
  pub is_refused : check_of image ≡ refused number (Place.Record place)
  pub is_code : code_at image place ≡ 102
  pub is_level : level_at image place ≡ level
  pub is_distance : distance_at image (parent_at image place) place ≡ distance
  pub is_limit : cover_limit level ≡ limit
  pub above : limit < distance

unfoldable pub CaseHolds : Case → Type 0
CaseHolds (sitting plate k found) = (codes distances : List ℕ) → k ≤ length codes → k ≤ length distances
    → sitting_of example (plate ∷ []) k codes distances
    ≡ record { answer = given (min k 4); codes = map code_in found ++ drop k codes; distances = map distance_in found ++ drop k distances }
CaseHolds (within radius plate found measured) = (codes distances : List ℕ) → 4 ≤ length codes → 4 ≤ length distances
    → within_of example (plate ∷ []) radius codes distances
    ≡ record {
      answer = given (record { strains = length found; measured = measured });
      codes = listed found code_in codes;
      distances = listed found distance_in distances;
    }
CaseHolds (adding s image parent level nearer) = AddingHolds s image parent level nearer
CaseHolds (adding_refused s number place) = (rest : List ℕ)
    → add_of (example ++ rest) 56 s.code s.profile ≡ record { answer = denied number (Place.Record place); buffer = example ++ rest }
CaseHolds (fitting distance level) = fitting_level distance ≡ level
CaseHolds (growing first rest image levels parents) = GrowingHolds first rest image levels parents
CaseHolds (level_byte_set byte level number place distance limit) = LevelByteHolds (example_with byte) level number place distance limit

-- every case of a row holds, and every row of a table
pub data RowHolds : List Case → Type 0 where
  none : RowHolds []
  next : {c : Case} {cs : List Case} → CaseHolds c → RowHolds cs → RowHolds (c ∷ cs)

pub data TableHolds : List Row → Type 0 where
  none : TableHolds []
  next : {number : ℕ} {cs : List Case} {rows : List Row} → RowHolds cs → TableHolds rows → TableHolds (C number cs ∷ rows)
