-- The values that the calls tell have 16 bits: lengths of libraries, counts of strains. The length of a listing has 32. Assumes nothing.
use mathlib.Core.Path.{◌≡◌}
use mathlib.Core.Bool.{Bool, true, false, cond}
use mathlib.Core.List.{List, [], ◌∷◌, ◌++◌, flat_map}
use Prim.Native.Nat.{ℕ, zero, suc, ◌+◌, ◌*◌, ◌≤◌, ◌<◌}
use native.Mathlib.Nat.{mul-le-mul}
use native.Mathlib.Omega.{arith}
use lib.Dec.{leb}
use lib.IntN.{ℤ, pos}
use lib.ListN.{length, length-append}
use Rattle.ranking.specs.Found.{Found}
use Rattle.image.specs.Fields.{count_of}
use Rattle.image.specs.Library.{Library}
use Rattle.image.specs.Verdict.{accepted, judge}
use Rattle.image.proofs.Verdicts.{judge_both}
use Rattle.checker.specs.Check.{check_rules, check_of}
use Rattle.checker.proofs.Accepted.{accepted_exactly}
use Rattle.content.specs.Content.{Kept, kept_of, no_record, nth}
use Rattle.content.specs.Bytes.{Bytes, bytes_of, header_bytes, node_bytes, profile_bytes}
use Rattle.content.specs.Adding.{started}
use Rattle.content.proofs.Blocks.{blocks_length}
use Rattle.content.proofs.Bytes.{header_length, node_length, profile_length}
use Rattle.image.specs.Strains.{strain_of}
use Rattle.walk.specs.Measured.{is_measured, measured_from, measured_count}
use Rattle.search.specs.Ranked.{ranked, inside, within_radius}
use Rattle.search.proofs.Lists.{ranked_length}
use Rattle.text.specs.Listing.{listing}
use Rattle.text.specs.Calls.{list_rules}
use Rattle.text.proofs.Fits.{listing_fits}

-- ---- lengths

-- the longest library
pub longest : {xs : List ℕ} → Library xs → length xs ≤ 40976
longest l = omega (arith, l.layout.size, mul-le-mul l.layout.wells.1 l.layout.count.1)

-- a lone root takes 24 bytes and its profile
pub started_length : (wells metric code : ℕ) (profile : List ℤ) → length (bytes_of (started wells metric (strain_of code profile))) ≡ 24 + 2 * length profile
unfolding bytes_of started
started_length wells metric code profile =
    let root = kept_of code profile 0 (pos 0) in
    let header = header_bytes wells metric 1 0 in
    let nodes = flat_map node_bytes (root ∷ []) in
    let profiles = flat_map (λ (r : Kept). profile_bytes r.strain.profile) (root ∷ []) in
    omega (
      arith,
      length-append (header ++ nodes) profiles,
      length-append header nodes,
      header_length wells metric 1 0,
      blocks_length no_record node_bytes 8 (root ∷ []) (λ i h. node_length (nth (root ∷ []) i)),
      blocks_length no_record (λ (r : Kept). profile_bytes r.strain.profile) (2 * length profile) (root ∷ []) alone,
    )
  where
    alone : (i : ℕ) → i < 1 → length (profile_bytes (nth (kept_of code profile 0 (pos 0) ∷ []) i).strain.profile) ≡ 2 * length profile
    alone zero h = profile_length profile
    alone (suc i) h = absurd (omega arith)

-- a listing that is given is a library's
pub listing_low : (xs : List ℕ) (room : ℕ) → Bytes xs → judge (list_rules xs room) ≡ accepted → length (listing xs) < 4294967296
unfolding list_rules check_of
listing_low xs room b e = omega (arith, listing_fits b ((accepted_exactly xs).0 (judge_both (check_rules xs) _ e).0))

-- ---- counts

-- a library's count has two bytes
pub count_low : {xs : List ℕ} → Bytes xs → count_of xs < 65536
count_low b = omega (arith, b.low 4, b.low 5)

inside_few : (radius : ℕ) (fs : List Found) → length (inside radius fs) ≤ length fs
unfolding inside
inside_few radius [] = omega arith
inside_few radius (f ∷ fs) = by (leb f.distance radius) (inside_few radius fs)
  where
    by : (t : Bool) → length (inside radius fs) ≤ length fs → length (cond t (f ∷ inside radius fs) (inside radius fs)) ≤ suc (length fs)
    by true h = omega arith
    by false h = omega arith

module _ (xs : List ℕ) (radius : ℕ) (plate : List ℤ) where
  -- no more strains within a radius than there are
  pub near_few : length (within_radius xs radius plate) ≤ count_of xs
  unfolding within_radius
  near_few = omega (arith, inside_few radius (ranked xs plate), ranked_length xs plate)

  measured_from_lem : (i many : ℕ) → measured_from xs radius plate i many ≤ many
  unfolding measured_from
  measured_from_lem i zero = omega arith
  measured_from_lem i (suc many) = by (is_measured xs radius plate i) (measured_from_lem (suc i) many)
    where
      by : (t : Bool) → measured_from xs radius plate (suc i) many ≤ many → cond t 1 0 + measured_from xs radius plate (suc i) many ≤ suc many
      by true h = omega arith
      by false h = omega arith

  -- no more profiles measured than there are
  pub measured_few : measured_count xs radius plate ≤ count_of xs
  unfolding measured_count
  measured_few = measured_from_lem 0 (count_of xs)
