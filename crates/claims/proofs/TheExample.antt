-- What document 01 says of its example library holds. Assumes nothing.
use mathlib.Core.Path.{◌≡◌, refl}
use mathlib.Core.List.{List, [], ◌∷◌, ◌++◌}
use Prim.Native.Nat.{ℕ, ◌≤◌}
use lib.ListN.{length, drop}
use Rattle.profile.specs.Bytes.{signed, well_at, wells_at}
use Rattle.profile.specs.Distance.{gap, joined, distance}
use Rattle.ranking.specs.Sort.{insert, sort_by}
use Rattle.image.specs.Fields.{profile_at}
use Rattle.image.specs.Strains.{each, strains_of}
use Rattle.image.specs.Answer.{given}
use Rattle.walk.specs.Weighed.{weighed}
use Rattle.search.specs.Ranked.{ranked, nearest, places}
use Rattle.text.specs.Decimal.{digits_in, decimal, signed_decimal}
use Rattle.text.specs.Listing.{ascii, values_text, header_line, node_text, record_line, record_lines, listing, refused_line}
use Rattle.text.specs.Calls.{list_of, printed}
use Rattle.text.proofs.Theorems.{listed_tells, printed_listing, printed_refusal}
use Rattle.short.specs.Short.{by_turns, short_of}
use Rattle.short.proofs.Theorems.{short_is}
use Rattle.claims.specs.Example.{example_with, example}
use Rattle.claims.specs.TheExample.{example_text, c3_bytes, TheExample}
use Rattle.claims.proofs.Example.{example_accepted, example_library, lower_refused}
use Rattle.claims.proofs.ExampleGrown.{example_built}

example_listing : listing example ≡ example_text
unfolding example_with signed well_at wells_at profile_at digits_in decimal signed_decimal values_text header_line node_text record_line record_lines listing
example_listing = refl

example_listed : (room : List ℕ) → 147456 ≤ length room → list_of example room ≡ record { answer = given 85; buffer = example_text ++ drop 85 room }
example_listed room h = rw example_listing at (listed_tells example room example_library h)

lower_printed : printed (example_with 1) ≡ ascii "refused 12\n"
unfolding refused_line digits_in decimal
lower_printed = printed_refusal (example_with 1) 12 _ lower_refused

pub short_seven : (out : List ℕ) → 40 ≤ length out → short_of example (7 ∷ 0 ∷ []) out ≡ record { answer = given 40; buffer = c3_bytes ++ drop 40 out }
unfolding example_with signed well_at wells_at gap joined distance profile_at each strains_of insert sort_by weighed ranked nearest places by_turns
short_seven out h = short_is example_library (7 ∷ 0 ∷ []) out refl h

pub the_example : TheExample
the_example = record {
  built = example_built;
  is_accepted = example_accepted;
  is_listing = example_listing;
  is_listed = example_listed;
  is_printed = rw example_listing at (printed_listing example example_library);
  c12_printed = lower_printed;
  c3_short = short_seven;
}
