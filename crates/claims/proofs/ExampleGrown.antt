-- The libraries of document 01's examples as they are built and filed: the example itself, C7's and C11's, in any buffer that is long enough.
-- Assumes nothing.
use mathlib.Core.Path.{◌≡◌, refl, sym}
use mathlib.Core.List.{List, [], ◌∷◌, ◌++◌, flat_map}
use Prim.Native.Nat.{ℕ, ◌≤◌}
use native.Mathlib.Omega.{arith}
use lib.IntN.{pos}
use lib.ListN.{length, drop}
use Rattle.profile.specs.Bytes.{signed, well_at, wells_at}
use Rattle.profile.specs.Distance.{gap, joined, distance}
use Rattle.profile.specs.Level.{lower, cover_limit, bits, fitting_level}
use Rattle.ranking.specs.Sort.{insert, sort_by}
use Rattle.tree.specs.Grow.{higher}
use Rattle.image.specs.Fields.{profile_at, distance_at}
use Rattle.image.specs.First.{first_from, first_below, later_below}
use Rattle.image.specs.Strains.{each, strains_of}
use Rattle.image.specs.Verdict.{accepted, when, at_first, at_pair, judge}
use Rattle.image.specs.Answer.{given, outcome}
use Rattle.checker.specs.Tests.{bad_node, bad_level, bad_cover, same_code, too_near}
use Rattle.checker.specs.Check.{tree_rules, record_rules, layout_rules, header_rules, check_rules, check_of}
use Rattle.content.specs.Content.{records_of, content_of}
use Rattle.content.specs.Bytes.{word_of, level_byte_of, header_bytes, node_bytes, profile_bytes, bytes_of}
use Rattle.content.specs.Adding.{started, distance_to, near_enough, nearer, taker_below, parent_for, level_for, raised, added}
use Rattle.content.specs.Filing.{grown_of, filed, filing_form}
use Rattle.build.specs.Rules.{alike, code_taken, profile_held, room_rules, strain_rules}
use Rattle.build.specs.Calls.{start_of, add_of, file_of}
use Rattle.build.proofs.Calls.{start_passes, file_passes}
use Rattle.claims.specs.Example.{example_with, example, reversed, with105}
use Rattle.claims.specs.Growing.{one_well, grown_in_order}
use Rattle.claims.proofs.Example.{reversed_accepted, renamed, renamed_accepted}
use Rattle.claims.proofs.Growing.{Welcomed, Additions, end, add, add_at, adds}

-- ---- started

-- a lone root of one well, metric 1, at level 0
lone : (code well : ℕ) → List ℕ
lone code well =
    1 ∷ 0 ∷ 1 ∷ 1 ∷ 1 ∷ 0 ∷ 0 ∷ 0 ∷ 24 ∷ 0 ∷ 0 ∷ 0 ∷ 16 ∷ 0 ∷ 0 ∷ 0
    ∷ code ∷ 0 ∷ 0 ∷ 0 ∷ 0 ∷ 0 ∷ 1 ∷ 0
    ∷ well ∷ 0 ∷ []

start_101 : (buffer : List ℕ) → 26 ≤ length buffer → start_of 1 1 101 (pos 0 ∷ []) buffer ≡ outcome accepted (lone 101 0) buffer
unfolding lone flat_map word_of level_byte_of header_bytes node_bytes profile_bytes bytes_of started start_of
start_101 buffer h = rw (start_passes 1 1 101 (pos 0 ∷ []) (length buffer) refl refl refl (λ e. absurd (omega (arith, e))) h) refl

start_104 : (buffer : List ℕ) → 26 ≤ length buffer → start_of 1 1 104 (pos 11 ∷ []) buffer ≡ outcome accepted (lone 104 11) buffer
unfolding lone flat_map word_of level_byte_of header_bytes node_bytes profile_bytes bytes_of started start_of
start_104 buffer h = rw (start_passes 1 1 104 (pos 11 ∷ []) (length buffer) refl refl refl (λ e. absurd (omega (arith, e))) h) refl

-- ---- and added to

example_chain : Additions (lone 101 0) (one_well 102 (pos 3) ∷ one_well 103 (pos 10) ∷ one_well 104 (pos 11) ∷ []) example
unfolding lone example_with flat_map signed well_at wells_at gap joined distance lower cover_limit bits fitting_level higher profile_at distance_at first_from first_below later_below each when at_first at_pair judge bad_node bad_level bad_cover same_code too_near tree_rules record_rules layout_rules header_rules check_rules check_of records_of content_of word_of level_byte_of header_bytes node_bytes profile_bytes bytes_of distance_to near_enough nearer taker_below parent_for level_for raised added alike code_taken profile_held room_rules strain_rules
example_chain =
    add {n = 10} (record { checked = refl; passes = λ room. refl; bytes = refl; longer = refl })
    (add {n = 10} (record { checked = refl; passes = λ room. refl; bytes = refl; longer = refl })
    (add {n = 10} (record { checked = refl; passes = λ room. refl; bytes = refl; longer = refl }) end))

reversed_chain : Additions (lone 104 11) (one_well 103 (pos 10) ∷ one_well 102 (pos 3) ∷ one_well 101 (pos 0) ∷ []) reversed
unfolding lone reversed flat_map signed well_at wells_at gap joined distance lower cover_limit bits fitting_level higher profile_at distance_at first_from first_below later_below each when at_first at_pair judge bad_node bad_level bad_cover same_code too_near tree_rules record_rules layout_rules header_rules check_rules check_of records_of content_of word_of level_byte_of header_bytes node_bytes profile_bytes bytes_of distance_to near_enough nearer taker_below parent_for level_for raised added alike code_taken profile_held room_rules strain_rules
reversed_chain =
    add {n = 10} (record { checked = refl; passes = λ room. refl; bytes = refl; longer = refl })
    (add {n = 10} (record { checked = refl; passes = λ room. refl; bytes = refl; longer = refl })
    (add {n = 10} (record { checked = refl; passes = λ room. refl; bytes = refl; longer = refl }) end))

welcomed_105 : Welcomed example (one_well 105 (pos 12)) 10 with105
unfolding example_with with105 flat_map signed well_at wells_at gap joined distance lower cover_limit bits fitting_level higher profile_at distance_at first_from first_below later_below each when at_first at_pair judge bad_node bad_level bad_cover same_code too_near tree_rules record_rules layout_rules header_rules check_rules check_of records_of content_of word_of level_byte_of header_bytes node_bytes profile_bytes bytes_of distance_to near_enough nearer taker_below parent_for level_for raised added alike code_taken profile_held room_rules strain_rules
welcomed_105 = record { checked = refl; passes = λ room. refl; bytes = refl; longer = refl }

-- ---- in any buffer that is long enough

pub example_built : (buffer : List ℕ) → 56 ≤ length buffer
    → grown_in_order 1 1 (one_well 101 (pos 0)) (one_well 102 (pos 3) ∷ one_well 103 (pos 10) ∷ one_well 104 (pos 11) ∷ []) buffer
    ≡ record { answer = given 56; buffer = example ++ drop 56 buffer }
unfolding example_with outcome
example_built buffer h = rw (start_101 buffer (omega arith)) (adds example_chain buffer h)

pub reversed_built : (buffer : List ℕ) → 56 ≤ length buffer
    → grown_in_order 1 1 (one_well 104 (pos 11)) (one_well 103 (pos 10) ∷ one_well 102 (pos 3) ∷ one_well 101 (pos 0) ∷ []) buffer
    ≡ record { answer = given 56; buffer = reversed ++ drop 56 buffer }
unfolding reversed outcome
reversed_built buffer h = rw (start_104 buffer (omega arith)) (adds reversed_chain buffer h)

pub with_105 : (rest : List ℕ) → 10 ≤ length rest
    → add_of (example ++ rest) 56 105 (pos 12 ∷ []) ≡ record { answer = given 66; buffer = with105 ++ drop 10 rest }
unfolding example_with with105 outcome
with_105 rest h = add_at welcomed_105 rest (omega arith)

-- ---- and filed

-- an accepted library, where there is room
files : (image : List ℕ) {form : List ℕ} → check_of image ≡ accepted → filing_form image ≡ form → (room : List ℕ) → length image ≤ length room
    → file_of image room ≡ outcome accepted form room
unfolding file_of
files image is e room h = rw (file_passes image (length room) (sym is) h, e) refl

reversed_form : filing_form reversed ≡ example
unfolding example_with reversed insert sort_by strains_of grown_of filed filing_form started flat_map signed well_at wells_at gap joined distance bits fitting_level cover_limit higher profile_at each word_of level_byte_of header_bytes node_bytes profile_bytes bytes_of distance_to near_enough nearer taker_below parent_for level_for raised added
reversed_form = refl

renamed_form : filing_form renamed ≡ renamed
unfolding example_with renamed insert sort_by strains_of grown_of filed filing_form started flat_map signed well_at wells_at gap joined distance bits fitting_level cover_limit higher profile_at each word_of level_byte_of header_bytes node_bytes profile_bytes bytes_of distance_to near_enough nearer taker_below parent_for level_for raised added
renamed_form = refl

pub reversed_filed : (room : List ℕ) → 56 ≤ length room → file_of reversed room ≡ record { answer = given 56; buffer = example ++ drop 56 room }
unfolding example_with reversed outcome
reversed_filed = files reversed reversed_accepted reversed_form

pub renamed_filed : (room : List ℕ) → 56 ≤ length room → file_of renamed room ≡ record { answer = given 56; buffer = renamed ++ drop 56 room }
unfolding example_with renamed outcome
renamed_filed = files renamed renamed_accepted renamed_form
