-- A library's strains read one after the other, in order of code. Assumes nothing.
use mathlib.Core.Path.{◌≡◌, sym, ◌∙◌, ap}
use mathlib.Core.List.{List, [], ◌++◌, append-nil}
use Prim.Native.Nat.{ℕ, ◌≤◌, ◌<◌}
use native.Mathlib.Omega.{arith}
use lib.IntN.{ℤ}
use lib.ListN.{length, get_or, drop, drop_of_length-le}
use Rattle.profile.specs.Bytes.{wells_at}
use Rattle.image.specs.Fields.{code_at, profile_start, profile_at}
use Rattle.image.specs.declared.accepted.Accepted.{Accepted}
use Rattle.image.specs.Strains.{Strain, strain_of, strain_at, strains_of}
use Rattle.content.specs.Content.{no_record}
use Rattle.content.specs.Filing.{by_code}
use Rattle.order.specs.Key.{order_of}
use Rattle.order.proofs.Order.{order_strain, order_in}

-- what stands where there is no strain
abbrev pub nobody : Strain
nobody = no_record.strain

-- what was copied out of a library, over all of what was lent, is the strain of its record
pub copied : (a : Accepted) (i : ℕ) {code : ℕ} {xs : List ℤ} (lent : List ℤ) → code ≡ code_at a.records.image.now i
    → xs ≡ wells_at a.records.image.now (profile_start a.records.shape.count a.records.shape.wells i) a.records.shape.wells ++ drop a.records.shape.wells lent
    → length lent ≤ a.records.shape.wells
    → strain_of code xs ≡ strain_at a.records.image.now i
unfolding profile_at
copied a i {xs = xs} lent e q few =
    let none : drop a.records.shape.wells lent ≡ [] = drop_of_length-le lent {i = a.records.shape.wells} few in
    let p : xs ≡ profile_at a.records.image.now i = rw (none, append-nil, a.is_wells, a.is_count) at q in
    λ t. record { code = e t; profile = p t }

-- record `from`, the i-th in order of code
module _ (a : Accepted) {from : ℕ} (i : ℕ) (h : i < a.records.shape.count) (ef : from ≡ get_or (order_of a.records.image.now) i 0) where
  pub ordered_in : from < a.records.shape.count
  ordered_in = omega (arith, a.is_count, ef, order_in a.records.image.now i (omega (arith, a.is_count)))

  pub ordered_strain : strain_at a.records.image.now from ≡ get_or (by_code (strains_of a.records.image.now)) i nobody
  ordered_strain = ap (strain_at a.records.image.now) ef ∙ sym (order_strain a.records.image.now i nobody (omega (arith, a.is_count)))
