-- The check's tests tell what the table's lines say. Assumes nothing.
use mathlib.Core.Path.{◌≡◌, sym, subst}
use mathlib.Core.Logic.{◌≢◌}
use mathlib.Core.Bool.{not}
use mathlib.Core.List.{List}
use Prim.Native.Nat.{ℕ, ◌*◌}
use native.Mathlib.Omega.{arith}
use lib.Dec.{T, ltb, leb, eqb}
use lib.IntN.{ℤ, suc_ℤ}
use lib.ListN.{length}
use borrow.Author.Tests.{ltb-true, ltb-false, leb-true, leb-false}
use lib.Signed.{le_z, ◌<ℤ◌}
use Rattle.profile.specs.Level.{◌>2^◌, ◌≤2^◌, lower, cover_limit}
use Rattle.profile.proofs.Levels.{more_than, at_most}
use Rattle.profile.proofs.Signs.{le_no, le_parts, lt_parts, parts_lt}
use Rattle.image.specs.Fields.{edition_of, wells_of, metric_of, count_of, root_of, code_at, parent_at, level_byte_at, level_at, spare_at, distance_at}
use Rattle.image.proofs.Tests.{Tells, tells_not, tells_or, tells_and, tells_lt, tells_le, tells_eq}
use Rattle.image.proofs.Faults.{Match, end, next, finds_whole, finds_first, finds_pair}
use Rattle.checker.specs.Tests.{outside, bad_node, bad_level, bad_cover, same_code, too_near}
use Rattle.checker.specs.Check.{tree_rules, record_rules, layout_rules, header_rules, check_rules}
use Rattle.checker.specs.Table.{Outside, NodeFault, LevelFault, CoverFault, SeparationFault, table}

pub tells_outside : (lo hi x : ℕ) → Tells (outside lo hi x) (Outside lo hi x)
tells_outside lo hi x = tells_or (tells_lt x lo) (tells_lt hi x)

pub tells_other : (a b : ℕ) → Tells (not (eqb a b)) (a ≢ b)
tells_other a b = tells_not (tells_eq a b)

pub tells_node : (xs : List ℕ) (i : ℕ) → Tells (bad_node xs i) (NodeFault xs i)
unfolding bad_node
tells_node xs i =
    tells_or
    (tells_or (tells_or (tells_eq (code_at xs i) 0) (tells_le (count_of xs) (parent_at xs i))) (tells_lt 21 (level_byte_at xs i)))
    (tells_other (spare_at xs i) 0)

-- a level that is not below another is at least that
tells_not_below : (a b : ℤ) → Tells (le_z b a) (a <ℤ b → ⊥)
tells_not_below a b = record {
  yes = λ e h. absurd (omega (arith, le_parts {x = b} {y = a} (record { le = subst T (sym e) tt }), lt_parts h));
  no = λ e f. f (parts_lt a b (omega (arith, le_no b a e)));
}

-- not further than a power, both sides doubled
tells_near_by : (d : ℕ) (m : ℤ) → Tells (leb (2 * d) (cover_limit m)) (d >2^ m → ⊥)
tells_near_by d m = record {
  yes = λ e h. absurd (omega (arith, leb-true (2 * d) (cover_limit m) e, (more_than d m).0 h));
  no = λ e f. f ((more_than d m).1 (leb-false (2 * d) (cover_limit m) e));
}

-- not within the cover limit
tells_beyond : (d : ℕ) (l : ℤ) → Tells (ltb (cover_limit l) d) (d ≤2^ suc_ℤ l → ⊥)
tells_beyond d l = record {
  yes = λ e h. absurd (omega (arith, ltb-true (cover_limit l) d e, (at_most d l).0 h));
  no = λ e f. f ((at_most d l).1 (ltb-false (cover_limit l) d e));
}

pub tells_level : (xs : List ℕ) (i : ℕ) → Tells (bad_level xs i) (LevelFault xs i)
unfolding bad_level
tells_level xs i =
    tells_or
    (tells_and (tells_eq i (root_of xs)) (tells_other (parent_at xs i) i))
    (tells_and (tells_other i (root_of xs)) (tells_not_below (level_at xs i) (level_at xs (parent_at xs i))))

pub tells_cover : (xs : List ℕ) (i : ℕ) → Tells (bad_cover xs i) (CoverFault xs i)
unfolding bad_cover
tells_cover xs i =
    tells_and (tells_other i (root_of xs)) (tells_beyond (distance_at xs (parent_at xs i) i) (level_at xs i))

pub tells_near : (xs : List ℕ) (later earlier : ℕ) → Tells (too_near xs later earlier) (SeparationFault xs later earlier)
unfolding too_near
tells_near xs later earlier = tells_near_by (distance_at xs later earlier) (lower (level_at xs later) (level_at xs earlier))

pub tells_code : (xs : List ℕ) (later earlier : ℕ) → Tells (same_code xs later earlier) (code_at xs later ≡ code_at xs earlier)
unfolding same_code
tells_code xs later earlier = tells_eq (code_at xs later) (code_at xs earlier)

-- each rule of the check finds what its line of the table says
pub check_table : (xs : List ℕ) → Match (check_rules xs) (table xs)
unfolding check_rules header_rules layout_rules record_rules tree_rules table
check_table xs =
    next (finds_whole (tells_outside 16 40976 (length xs)))
    (next (finds_whole (tells_other (edition_of xs) 1))
    (next (finds_whole (tells_outside 1 16 (wells_of xs)))
    (next (finds_whole (tells_outside 1 2 (metric_of xs)))
    (next (finds_whole (tells_outside 1 1024 (count_of xs)))
    (next (finds_whole (tells_or (tells_other _ _) (tells_other _ _)))
    (next (finds_whole (tells_other _ _))
    (next (finds_whole (tells_le (count_of xs) (root_of xs)))
    (next (finds_first (tells_node xs) (count_of xs))
    (next (finds_pair (tells_code xs) (count_of xs))
    (next (finds_first (tells_level xs) (count_of xs))
    (next (finds_first (tells_cover xs) (count_of xs))
    (next (finds_pair (tells_near xs) (count_of xs)) end))))))))))))
