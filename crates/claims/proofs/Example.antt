-- Document 01's example library and C11's are accepted, and so is the example with another code; with the level byte that C12 sets it is not.
-- By computation. Assumes nothing.
use mathlib.Core.Path.{◌≡◌, refl}
use mathlib.Core.List.{List}
use Prim.Native.Nat.{ℕ}
use lib.ListN.{set}
use Rattle.profile.specs.Bytes.{signed, well_at, wells_at}
use Rattle.profile.specs.Distance.{gap, joined, distance}
use Rattle.profile.specs.Level.{lower, cover_limit}
use Rattle.image.specs.declared.refusal.Place.{Place}
use Rattle.image.specs.Fields.{profile_at, distance_at}
use Rattle.image.specs.First.{first_from, first_below, later_below}
use Rattle.image.specs.Library.{Library}
use Rattle.image.specs.Verdict.{accepted, refused, when, at_first, at_pair, judge}
use Rattle.checker.specs.Tests.{bad_node, bad_level, bad_cover, same_code, too_near}
use Rattle.checker.specs.Check.{tree_rules, record_rules, layout_rules, header_rules, check_rules, check_of}
use Rattle.checker.proofs.Accepted.{accepted_exactly}
use Rattle.claims.specs.Example.{example_with, example, reversed}

pub example_accepted : check_of example ≡ accepted
unfolding example_with signed well_at wells_at gap joined distance lower cover_limit profile_at distance_at first_from first_below later_below when at_first at_pair judge bad_node bad_level bad_cover same_code too_near tree_rules record_rules layout_rules header_rules check_rules check_of
example_accepted = refl

pub example_library : Library example
example_library = (accepted_exactly example).0 example_accepted

-- with code 100 in place of 101: as long, and of other strains
unfoldable pub renamed : List ℕ
renamed = set example 16 100

pub renamed_accepted : check_of renamed ≡ accepted
unfolding example_with renamed signed well_at wells_at gap joined distance lower cover_limit profile_at distance_at first_from first_below later_below when at_first at_pair judge bad_node bad_level bad_cover same_code too_near tree_rules record_rules layout_rules header_rules check_rules check_of
renamed_accepted = refl

pub renamed_library : Library renamed
renamed_library = (accepted_exactly renamed).0 renamed_accepted

pub reversed_accepted : check_of reversed ≡ accepted
unfolding reversed signed well_at wells_at gap joined distance lower cover_limit profile_at distance_at first_from first_below later_below when at_first at_pair judge bad_node bad_level bad_cover same_code too_near tree_rules record_rules layout_rules header_rules check_rules check_of
reversed_accepted = refl

pub lower_refused : check_of (example_with 1) ≡ refused 12 (Place.Record 1)
unfolding example_with signed well_at wells_at gap joined distance lower cover_limit profile_at distance_at first_from first_below later_below when at_first at_pair judge bad_node bad_level bad_cover same_code too_near tree_rules record_rules layout_rules header_rules check_rules check_of
lower_refused = refl
