-- How tightly the answers are bound: for each public call, any two answers with the memory left behind them that meet the contract are the same.
-- Assumes nothing.
use Rattle.std.specs.Prelude.{◌≡◌, List, ℕ, ℤ}
use Rattle.checker.specs.Check.{Checked, check_of, CheckGives}
use Rattle.image.specs.Answer.{Answered}
use Rattle.build.specs.Calls.{start_of, add_of, file_of, StartGives, AddGives, FileGives}
use Rattle.search.specs.Answer.{Served, Gathered}
use Rattle.search.specs.Calls.{sitting_of, within_of, SittingGives, WithinGives}
use Rattle.text.specs.Calls.{list_of, ListGives, PrintGives}
use Rattle.short.specs.Short.{ShortGives}
use Rattle.host.specs.Word.{first, long, counts, verdict_word}
use Rattle.host.specs.Doors.{Wrote, Searched}

-- an answer and one slice, or two
abbrev pub Same : {A : Type 0} → (r s : A) → (b c : List ℕ) → Type 0
Same r s b c = (r ≡ s) × (b ≡ c)

abbrev pub SameBoth : {A : Type 0} → (r s : A) → (c c' d d' : List ℕ) → Type 0
SameBoth r s c c' d d' = (r ≡ s) × (c ≡ c') × (d ≡ d')

pub record OneAnswer : Type 0 where
  pub check : (image : List ℕ) {r s : Checked} → CheckGives image r → CheckGives image s → r ≡ s
  pub start : (wells metric code : ℕ) (profile : List ℤ) (buffer : List ℕ) {r s : Answered} {b c : List ℕ}
      → StartGives wells metric code profile buffer r b → StartGives wells metric code profile buffer s c → Same r s b c
  pub add : (buffer : List ℕ) (stated code : ℕ) (profile : List ℤ) {r s : Answered} {b c : List ℕ}
      → AddGives buffer stated code profile r b → AddGives buffer stated code profile s c → Same r s b c
  pub file : (image buffer : List ℕ) {r s : Answered} {b c : List ℕ} → FileGives image buffer r b → FileGives image buffer s c → Same r s b c
  pub sitting : (image : List ℕ) (plates : List ℤ) (k : ℕ) (codes distances : List ℕ) {r s : Served} {c c' d d' : List ℕ}
      → SittingGives image plates k codes distances r c d → SittingGives image plates k codes distances s c' d' → SameBoth r s c c' d d'
  pub within : (image : List ℕ) (plate : List ℤ) (radius : ℕ) (codes distances : List ℕ) {r s : Gathered} {c c' d d' : List ℕ}
      → WithinGives image plate radius codes distances r c d → WithinGives image plate radius codes distances s c' d' → SameBoth r s c c' d d'
  pub short : (image plate out : List ℕ) {r s : ℕ} {b c : List ℕ} → ShortGives image plate out r b → ShortGives image plate out s c → Same r s b c
  pub list : (image room : List ℕ) {r s : Answered} {b c : List ℕ} → ListGives image room r b → ListGives image room s c → Same r s b c
  pub print : (image page : List ℕ) {r s : ℕ} {b c : List ℕ} → PrintGives image page r b → PrintGives image page s c → Same r s b c
  -- the doors: the check's word; a word and one buffer; a word and two slices
  pub kw_check : (image : List ℕ) {w v : ℕ} → w ≡ verdict_word (check_of image) → v ≡ verdict_word (check_of image) → w ≡ v
  pub kw_start : (wells metric code : ℕ) (profile : List ℤ) (buffer : List ℕ) {w v : ℕ} {b c : List ℕ}
      → Wrote first (start_of wells metric code profile buffer) w b → Wrote first (start_of wells metric code profile buffer) v c → Same w v b c
  pub kw_add : (buffer : List ℕ) (stated code : ℕ) (profile : List ℤ) {w v : ℕ} {b c : List ℕ}
      → Wrote first (add_of buffer stated code profile) w b → Wrote first (add_of buffer stated code profile) v c → Same w v b c
  pub kw_file : (image buffer : List ℕ) {w v : ℕ} {b c : List ℕ} → Wrote first (file_of image buffer) w b → Wrote first (file_of image buffer) v c → Same w v b c
  pub kw_list : (image buffer : List ℕ) {w v : ℕ} {b c : List ℕ} → Wrote long (list_of image buffer) w b → Wrote long (list_of image buffer) v c → Same w v b c
  pub kw_sitting : (image : List ℕ) (plates : List ℤ) (k : ℕ) (codes distances : List ℕ) {w v : ℕ} {c c' d d' : List ℕ}
      → Searched first (sitting_of image plates k codes distances) w c d → Searched first (sitting_of image plates k codes distances) v c' d' → SameBoth w v c c' d d'
  pub kw_within : (image : List ℕ) (plate : List ℤ) (radius : ℕ) (codes distances : List ℕ) {w v : ℕ} {c c' d d' : List ℕ}
      → Searched counts (within_of image plate radius codes distances) w c d → Searched counts (within_of image plate radius codes distances) v c' d'
      → SameBoth w v c c' d d'
