-- On every input the word of each call, taken apart, is the call's answer. Assumes nothing.
use mathlib.Core.Path.{◌≡◌, refl, ◌∙◌, ap}
use mathlib.Core.List.{List}
use Prim.Native.Nat.{ℕ, ◌<◌}
use native.Mathlib.Nat.{min-le_right}
use native.Mathlib.Omega.{arith}
use lib.IntN.{ℤ}
use lib.ListN.{length, take, drop}
use lib.Seq.{take_at}
use Rattle.profile.specs.Distance.{Wells}
use Rattle.image.specs.Fields.{count_of}
use Rattle.image.specs.Library.{Library}
use Rattle.image.specs.Verdict.{Verdict, accepted, judge}
use Rattle.image.specs.Answer.{given, Outcome, outcome}
use Rattle.checker.specs.Check.{check_of}
use Rattle.content.specs.Bytes.{Bytes, bytes_of}
use Rattle.content.specs.Adding.{started}
use Rattle.content.proofs.Blocks.{bytes_take}
use Rattle.build.specs.Rules.{start_rules}
use Rattle.image.specs.Strains.{strain_of}
use Rattle.build.specs.Calls.{start_of, add_of, file_of}
use Rattle.build.proofs.Passed.{starts}
use Rattle.build.proofs.Theorems.{add_accepted, filed_accepted}
use Rattle.text.specs.Listing.{listing}
use Rattle.text.specs.Calls.{list_of}
use Rattle.search.specs.Answer as search
use Rattle.search.specs.Calls.{sitting_of, within_of}
use Rattle.host.specs.Word.{first, long, counts, verdict_word}
use Rattle.host.specs.Doors.{Wrote, Searched}
use Rattle.host.specs.Reading.{answer_in, verdict_in, value_from, long_from, counts_from}
use Rattle.host.proofs.Words.{VerdictFits, accepted_fits, refused_fits, AnswerFits, given_fits, denied_fits, In16, Reads, reads_value, reads_long, reads_counts, word_read, verdict_read}
use Rattle.host.proofs.Fits.{check_fits, start_fits, add_fits, file_fits, list_fits, sitting_fits, within_fits}
use Rattle.host.proofs.Values.{longest, started_length, listing_low, count_low, near_few, measured_few}

-- ---- the check

pub check_read : (xs : List ℕ) {word : ℕ} → Bytes xs → word ≡ verdict_word (check_of xs) → verdict_in word ≡ check_of xs
unfolding check_of
check_read xs b e = ap verdict_in e ∙ verdict_read (check_fits xs (omega (arith, count_low b)))

-- ---- calls that write to a buffer

wrote_read : {Small : ℕ → Type 0} {tells : ℕ → ℕ} {told : ℕ → ℕ → ℕ} {o : Outcome} {word : ℕ} {after : List ℕ}
    → Reads Small tells told → Wrote tells o word after → AnswerFits Small o.answer → answer_in told word ≡ o.answer
wrote_read {told = told} r w f = ap (answer_in told) w.is_word ∙ word_read r f

-- not refused, such a call tells how long is what it wrote
wrote_fits : {Small : ℕ → Type 0} {v : Verdict} (new buffer : List ℕ) → VerdictFits v → (v ≡ accepted → Small (length new))
    → AnswerFits Small (outcome v new buffer).answer
unfolding outcome
wrote_fits new buffer accepted_fits h = given_fits (h refl)
wrote_fits new buffer (refused_fits f) h = denied_fits f

pub start_read : (wells metric code : ℕ) (profile : List ℤ) (buffer : List ℕ) {word : ℕ} {after : List ℕ} → Wrote first (start_of wells metric code profile buffer) word after
    → answer_in value_from word ≡ (start_of wells metric code profile buffer).answer
unfolding start_of
start_read wells metric code profile buffer w = wrote_read reads_value w (wrote_fits _ buffer (start_fits wells metric code profile (length buffer)) short)
  where
    short : judge (start_rules wells metric code profile (length buffer)) ≡ accepted → length (bytes_of (started wells metric (strain_of code profile))) < 65536
    short e =
        let s = starts wells metric code profile (length buffer) e in
        omega (arith, started_length wells metric code profile, s.long, s.wells_in.1)

-- a library, if that is what it wrote
library_fits : {v : Verdict} (new buffer : List ℕ) → VerdictFits v
    → ((n : ℕ) → (outcome v new buffer).answer ≡ given n → Library (take n (outcome v new buffer).buffer)) → AnswerFits In16 (outcome v new buffer).answer
unfolding outcome
library_fits new buffer accepted_fits h =
    given_fits {x = length new} (omega (arith, longest (h (length new) refl), ap length (take_at new (drop (length new) buffer) (length new) refl)))
library_fits new buffer (refused_fits f) h = denied_fits f

pub add_read : (buffer : List ℕ) (stated code : ℕ) (profile : List ℤ) {word : ℕ} {after : List ℕ} → Bytes buffer → code < 4294967296 → Wells profile
    → Wrote first (add_of buffer stated code profile) word after → answer_in value_from word ≡ (add_of buffer stated code profile).answer
unfolding add_of
add_read buffer stated code profile b code_fits values w =
    wrote_read reads_value w
    (library_fits _ buffer (add_fits buffer stated code profile (omega (arith, count_low (bytes_take stated buffer b))))
    (add_accepted buffer stated code profile b code_fits values))

pub file_read : (image buffer : List ℕ) {word : ℕ} {after : List ℕ} → Bytes image → Wrote first (file_of image buffer) word after
    → answer_in value_from word ≡ (file_of image buffer).answer
unfolding file_of
file_read image buffer b w =
    wrote_read reads_value w (library_fits _ buffer (file_fits image (omega (arith, count_low b)) (length buffer)) (filed_accepted image buffer b))

pub list_read : (image buffer : List ℕ) {word : ℕ} {after : List ℕ} → Bytes image → Wrote long (list_of image buffer) word after
    → answer_in long_from word ≡ (list_of image buffer).answer
unfolding list_of
list_read image buffer b w =
    wrote_read reads_long w
    (wrote_fits (listing image) buffer (list_fits image (omega (arith, count_low b)) (length buffer)) (listing_low image (length buffer) b))

-- ---- searches

searched_read : {Told : Type 0} {Small : Told → Type 0} {tells : Told → ℕ} {told : ℕ → ℕ → Told} {o : search.Outcome Told} {word : ℕ} {codes distances : List ℕ}
    → Reads Small tells told → Searched tells o word codes distances → AnswerFits Small o.answer → answer_in told word ≡ o.answer
searched_read {told = told} r s f = ap (answer_in told) s.is_word ∙ word_read r f

searched_fits : {Told : Type 0} {Small : Told → Type 0} {v : Verdict} (good : search.Outcome Told) (codes distances : List ℕ) → VerdictFits v
    → AnswerFits Small good.answer → AnswerFits Small (search.outcome v good codes distances).answer
unfolding search.outcome
searched_fits good codes distances accepted_fits g = g
searched_fits good codes distances (refused_fits f) g = denied_fits f

pub sitting_read : (xs : List ℕ) (plates : List ℤ) (k : ℕ) (codes distances : List ℕ) {word : ℕ} {codes' distances' : List ℕ} → Bytes xs
    → Searched first (sitting_of xs plates k codes distances) word codes' distances' → answer_in value_from word ≡ (sitting_of xs plates k codes distances).answer
unfolding sitting_of
sitting_read xs plates k codes distances b w =
    searched_read reads_value w
    (searched_fits _ codes distances (sitting_fits xs (omega (arith, count_low b)) (length plates) k (length codes) (length distances))
    (given_fits (omega (arith, count_low b, min-le_right k (count_of xs)))))

pub within_read : (xs : List ℕ) (plate : List ℤ) (radius : ℕ) (codes distances : List ℕ) {word : ℕ} {codes' distances' : List ℕ} → Bytes xs
    → Searched counts (within_of xs plate radius codes distances) word codes' distances'
    → answer_in counts_from word ≡ (within_of xs plate radius codes distances).answer
unfolding within_of
within_read xs plate radius codes distances b w =
    searched_read reads_counts w
    (searched_fits _ codes distances (within_fits xs (omega (arith, count_low b)) (length plate) (length codes) (length distances))
    (given_fits (omega (arith, count_low b, near_few xs radius plate), omega (arith, count_low b, measured_few xs radius plate))))
