-- Document 01's "Errors that look right": for each a case, worked out on the definitions, in which it goes wrong. Assumes nothing.
use mathlib.Core.Path.{◌≡◌, refl}
use mathlib.Core.Bool.{cond, ◌&&◌}
use mathlib.Core.List.{List, [], ◌∷◌}
use Rattle.std.specs.Prelude.{None}
use Prim.Native.Nat.{ℕ, ◌+◌, ◌-◌, ◌^◌, ◌≤◌, ◌<◌}
use native.Mathlib.Omega.{arith}
use lib.Dec.{leb, eqb}
use lib.IntN.{pos, negsuc, ◌-ℤ◌, nat_abs}
use lib.ListN.{length, set}
use mir.Syntax.{w16}
use mir.Val.{SFits, to_z, of_z}
use Rattle.profile.specs.Bytes.{signed, well_at, wells_at}
use Rattle.profile.specs.Distance.{gap, joined, distance}
use Rattle.profile.specs.Level.{Fitting, lower, bits, fitting_level, cover_limit, reach, Printed}
use Rattle.profile.proofs.Levels.{fitting_within}
use Rattle.profile.proofs.Wells.{not_in_16_bits}
use Rattle.ranking.specs.Sort.{insert, sort_by}
use Rattle.ranking.specs.Found.{Found, rank}
use Rattle.ranking.specs.First.{offered}
use Rattle.tree.specs.Tree.{Below, self, child}
use Rattle.image.specs.declared.refusal.Place.{Place}
use Rattle.image.specs.Fields.{count_of, parent_at, level_byte_at, level_at, profile_at, distance_at}
use Rattle.image.specs.First.{first_from, first_below, later_below}
use Rattle.image.specs.Library.{tree_of}
use Rattle.image.specs.Strains.{each, strains_of}
use Rattle.image.specs.Verdict.{accepted, refused, when, at_first, at_pair, judge}
use Rattle.checker.specs.Tests.{bad_node, bad_level, bad_cover, same_code, too_near}
use Rattle.checker.specs.Check.{tree_rules, record_rules, layout_rules, header_rules, check_rules, check_of}
use Rattle.walk.specs.Forest.{Forest, none as bare, grow, is_child, children_from, siblings, below_of, forest_of}
use Rattle.walk.specs.Walk.{worst, opens, measures}
use Rattle.walk.specs.Weighed.{weighed, found_at, reach_at}
use Rattle.search.specs.Ranked.{ranked, nearest, inside, within_radius}
use Rattle.claims.specs.Cases.{◌at◌}
use Rattle.claims.specs.Example.{example_with, with105}
use Rattle.claims.proofs.Example.{lower_refused}

-- ---- the level rounded down, as in source document 003

-- at distance 3 it is level 0, whose cover limit is 2: it does not fit, and the check refuses it (C12). It fits at powers of two alone
-- (`printed_fits` in crates/profile/proofs/Levels.antt)
pub rounded_down : Printed 3 (pos 0) × (Fitting 3 (pos 0) → ⊥) × (check_of (example_with 1) ≡ refused 12 (Place.Record 1))
unfolding cover_limit example_with
rounded_down = (
  record { log = 1; least = omega arith; next = omega arith; level = refl },
  (λ f. absurd (omega (arith, fitting_within f))),
  lower_refused,
)

-- ---- reach taken as 2 ^ level

-- one well, metric 1; strains 1, 2, 3 at 0, 2, 3, with levels 1, 0, -1, each below the one before
unfoldable pub line : List ℕ
line =
    1 ∷ 0 ∷ 1 ∷ 1 ∷ 3 ∷ 0 ∷ 0 ∷ 0 ∷ 40 ∷ 0 ∷ 0 ∷ 0 ∷ 16 ∷ 0 ∷ 0 ∷ 0
    ∷ 1 ∷ 0 ∷ 0 ∷ 0 ∷ 0 ∷ 0 ∷ 2 ∷ 0
    ∷ 2 ∷ 0 ∷ 0 ∷ 0 ∷ 0 ∷ 0 ∷ 1 ∷ 0
    ∷ 3 ∷ 0 ∷ 0 ∷ 0 ∷ 1 ∷ 0 ∷ 0 ∷ 0
    ∷ 0 ∷ 0 ∷ 2 ∷ 0 ∷ 3 ∷ 0 ∷ []

line_accepted : check_of line ≡ accepted
unfolding line signed well_at wells_at gap joined distance lower cover_limit profile_at distance_at first_from first_below later_below when at_first at_pair judge bad_node bad_level bad_cover same_code too_near tree_rules record_rules layout_rules header_rules check_rules check_of
line_accepted = refl

-- the root's grandchild lies 3 from it: further than 2 ^ 1, and within its reach
pub reach_as_power : (check_of line ≡ accepted)
    × Below (tree_of line) 0 2 2
    × (level_at line 0 ≡ pos 1)
    × (2 ^ 1 < distance_at line 0 2)
    × (distance_at line 0 2 ≤ reach_at line 0)
unfolding line signed well_at wells_at gap joined distance profile_at distance_at cover_limit reach reach_at
reach_as_power = (
  line_accepted,
  child {q = 2} (record { node = omega arith; not_root = λ e. absurd (omega arith) })
      (child {q = 1} (record { node = omega arith; not_root = λ e. absurd (omega arith) }) self),
  refl,
  omega arith,
  omega arith,
)

-- with 2 ^ level for the reach, a search for the grandchild's own profile would measure the root alone, and not find it. Level -1 counts as 0 here,
-- so that its power is 1 and not a half; the walk stops above it
pub grandchild_lost :
    (measures (found_at line (pos 3 ∷ [])) (λ v. 2 ^ (level_byte_at line v - 1)) 0 (forest_of line) ≡ 0 ∷ []) × (within_radius line 0 (pos 3 ∷ []) ≡ 3 at 0 ∷ [])
unfolding line signed well_at wells_at gap joined distance profile_at each strains_of insert sort_by weighed found_at is_child children_from siblings below_of forest_of opens measures ranked inside within_radius
grandchild_lost = (refl, refl)

-- ---- a subtree dropped when it could still tie

-- one well, metric 1; strains 1, 3, 4, 2 at 5, 0, 3, 2. Strain 2, at level -1, hangs below 4, at level 0; 3 and 4 hang below the root
unfoldable pub tied : List ℕ
tied =
    1 ∷ 0 ∷ 1 ∷ 1 ∷ 4 ∷ 0 ∷ 0 ∷ 0 ∷ 48 ∷ 0 ∷ 0 ∷ 0 ∷ 16 ∷ 0 ∷ 0 ∷ 0
    ∷ 1 ∷ 0 ∷ 0 ∷ 0 ∷ 0 ∷ 0 ∷ 4 ∷ 0
    ∷ 3 ∷ 0 ∷ 0 ∷ 0 ∷ 0 ∷ 0 ∷ 3 ∷ 0
    ∷ 4 ∷ 0 ∷ 0 ∷ 0 ∷ 0 ∷ 0 ∷ 1 ∷ 0
    ∷ 2 ∷ 0 ∷ 0 ∷ 0 ∷ 2 ∷ 0 ∷ 0 ∷ 0
    ∷ 5 ∷ 0 ∷ 0 ∷ 0 ∷ 3 ∷ 0 ∷ 2 ∷ 0 ∷ []

-- the walk (crates/walk/specs/Walk.antt), but for `≤` in place of `<`: what hangs below v is dropped also where it could tie
unfoldable pub walk_dropping_ties : (found : ℕ → Found) (reach : ℕ → ℕ) (k : ℕ) → Forest → List Found → List Found
walk_dropping_ties found reach k bare kept = kept
walk_dropping_ties found reach k (grow v below behind) kept =
    let now = offered rank k (found v) kept in
    let drops = eqb (length now) k && leb (worst k now + reach v) (found v).distance in
    walk_dropping_ties found reach k behind (cond drops now (walk_dropping_ties found reach k below now))

-- to plate 1, strains 2 and 3 are equally near, and 2 has the lower code; that walk gives 3
pub tie_dropped : (check_of tied ≡ accepted)
    × (nearest tied 1 (pos 1 ∷ []) ≡ 2 at 1 ∷ [])
    × (walk_dropping_ties (found_at tied (pos 1 ∷ [])) (reach_at tied) 1 (forest_of tied) [] ≡ 3 at 1 ∷ [])
unfolding tied walk_dropping_ties signed well_at wells_at gap joined distance lower cover_limit reach profile_at distance_at first_from first_below later_below when at_first at_pair judge bad_node bad_level bad_cover same_code too_near tree_rules record_rules layout_rules header_rules check_rules check_of each strains_of insert sort_by offered weighed found_at reach_at is_child children_from siblings below_of forest_of ranked nearest
tie_dropped = (refl, refl, refl)

-- ---- separation tried among siblings only

-- one well, metric 1; strains 1 to 4 at 0, 2, 5, 3, with levels 3, 0, 2, 0. Strain 4 hangs below 3; 2 and 3 hang below the root
unfoldable pub crowded : List ℕ
crowded =
    1 ∷ 0 ∷ 1 ∷ 1 ∷ 4 ∷ 0 ∷ 0 ∷ 0 ∷ 48 ∷ 0 ∷ 0 ∷ 0 ∷ 16 ∷ 0 ∷ 0 ∷ 0
    ∷ 1 ∷ 0 ∷ 0 ∷ 0 ∷ 0 ∷ 0 ∷ 4 ∷ 0
    ∷ 2 ∷ 0 ∷ 0 ∷ 0 ∷ 0 ∷ 0 ∷ 1 ∷ 0
    ∷ 3 ∷ 0 ∷ 0 ∷ 0 ∷ 0 ∷ 0 ∷ 3 ∷ 0
    ∷ 4 ∷ 0 ∷ 0 ∷ 0 ∷ 2 ∷ 0 ∷ 1 ∷ 0
    ∷ 0 ∷ 0 ∷ 2 ∷ 0 ∷ 5 ∷ 0 ∷ 3 ∷ 0 ∷ []

-- no two records with one parent are too near, but records 1 and 3 are
pub siblings_only :
    (at_pair (count_of crowded) (λ later earlier. eqb (parent_at crowded later) (parent_at crowded earlier) && too_near crowded later earlier) ≡ None)
    × (check_of crowded ≡ refused 13 (Place.Pair 1 3))
unfolding crowded signed well_at wells_at gap joined distance lower cover_limit profile_at distance_at first_from first_below later_below when at_first at_pair judge bad_node bad_level bad_cover same_code too_near tree_rules record_rules layout_rules header_rules check_rules check_of
siblings_only = (refl, refl)

-- ---- the nearest node made parent though its level is too low

-- C7's strain 105, hung below 104 in place of 103, at the level that fits their distance 1
unfoldable pub below104 : List ℕ
below104 = set (set with105 52 3) 54 0

-- 104 is nearer than 103, but its own level is -1, and the level that fits is not below that
pub nearest_too_low : (distance_at below104 3 4 < distance_at below104 2 4)
    × (parent_at below104 4 ≡ 3)
    × (level_at below104 4 ≡ fitting_level (distance_at below104 3 4))
    × (check_of below104 ≡ refused 11 (Place.Record 4))
unfolding below104 with105 signed well_at wells_at gap joined distance lower bits fitting_level cover_limit profile_at distance_at first_from first_below later_below when at_first at_pair judge bad_node bad_level bad_cover same_code too_near tree_rules record_rules layout_rules header_rules check_rules check_of
nearest_too_low = (omega arith, refl, refl, refl)

-- ---- the difference of two wells kept in 16 bits

-- of the highest and the lowest well: it does not fit, and what 16 bits keep of it would make their distance 1
pub in_16_bits : (SFits w16 (pos 32767 -ℤ negsuc 32767) → ⊥)
    × (distance 1 (pos 32767 ∷ []) (negsuc 32767 ∷ []) ≡ 65535)
    × (nat_abs (to_z w16 (of_z w16 (pos 32767 -ℤ negsuc 32767))) ≡ 1)
unfolding gap joined distance
in_16_bits = (not_in_16_bits, refl, refl)
