-- The rules of start, add and filing find what their tables' lines say. Assumes nothing.
use mathlib.Core.Path.{◌≡◌}
use mathlib.Core.List.{List}
use Prim.Native.Nat.{ℕ, suc}
use lib.IntN.{ℤ}
use lib.ListN.{length, take}
use Rattle.image.specs.Fields.{wells_of, count_of, code_at, profile_at, size_of}
use Rattle.image.proofs.Tests.{Tells, tells_lt, tells_eq}
use Rattle.image.proofs.Faults.{Match, end, next, match_append, finds_whole, finds_first}
use Rattle.checker.proofs.Table.{tells_outside, tells_other, check_table}
use Rattle.build.specs.Rules.{code_taken, profile_held, start_rules, room_rules, strain_rules, add_rules, file_rules}
use Rattle.build.specs.Table.{start_table, strain_table, add_table, file_table}
use Rattle.build.proofs.Offers.{tells_alike}

tells_taken : (xs : List ℕ) (code i : ℕ) → Tells (code_taken xs code i) (code_at xs i ≡ code)
unfolding code_taken
tells_taken xs code i = tells_eq (code_at xs i) code

tells_held : (xs : List ℕ) (profile : List ℤ) (i : ℕ) → Tells (profile_held xs profile i) (profile_at xs i ≡ profile)
unfolding profile_held
tells_held xs profile i = tells_alike (profile_at xs i) profile

-- ---- start

module _ (wells metric code : ℕ) (profile : List ℤ) (room : ℕ) where
  pub start_table_lem : Match (start_rules wells metric code profile room) (start_table wells metric code profile room)
  unfolding start_rules start_table
  start_table_lem =
      next (finds_whole (tells_outside 1 16 wells))
      (next (finds_whole (tells_outside 1 2 metric))
      (next (finds_whole (tells_other (length profile) wells))
      (next (finds_whole (tells_eq code 0))
      (next (finds_whole (tells_lt room (size_of wells 1))) end))))

-- ---- add

strain_table_lem : (xs : List ℕ) (code : ℕ) (profile : List ℤ) (room : ℕ) → Match (strain_rules xs code profile room) (strain_table xs code profile room)
unfolding strain_rules room_rules strain_table
strain_table_lem xs code profile room =
    next (finds_whole (tells_other (length profile) (wells_of xs)))
    (next (finds_whole (tells_eq code 0))
    (next (finds_first (tells_taken xs code) (count_of xs))
    (next (finds_first (tells_held xs profile) (count_of xs))
    (next (finds_whole (tells_eq (count_of xs) 1024))
    (next (finds_whole (tells_lt room (size_of (wells_of xs) (suc (count_of xs))))) end)))))

module _ (buffer : List ℕ) (stated code : ℕ) (profile : List ℤ) where
  pub add_table_lem : Match (add_rules buffer stated code profile) (add_table buffer stated code profile)
  unfolding add_rules add_table
  add_table_lem =
      next (finds_whole (tells_lt (length buffer) stated))
      (match_append (check_table (take stated buffer)) (strain_table_lem (take stated buffer) code profile (length buffer)))

-- ---- filing

module _ (xs : List ℕ) (room : ℕ) where
  pub file_table_lem : Match (file_rules xs room) (file_table xs room)
  unfolding file_rules file_table
  file_table_lem = match_append (check_table xs) (next (finds_whole (tells_lt room (length xs))) end)
