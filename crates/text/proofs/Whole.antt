-- A listing tells its library: two libraries with one listing are the same bytes, so reading a listing back has one answer. Assumes nothing.
use mathlib.Core.Path.{◌≡◌, refl, sym, ◌∙◌, ap}
use mathlib.Core.List.{List, [], ◌∷◌, ◌++◌, append_assoc}
use Prim.Native.Nat.{ℕ, zero, suc, ◌+◌, ◌*◌, ◌≤◌, ◌<◌}
use native.Mathlib.Nat.{zero-add, add-zero, add-suc, suc-add}
use native.Mathlib.Omega.{arith}
use lib.IntN.{nat_abs}
use lib.ListN.{drop}
use lib.Seq.{ext_get_or}
use Rattle.profile.specs.Distance.{Wells}
use Rattle.profile.specs.Level.{level_of}
use Rattle.image.specs.Fields.{wells_of, metric_of, count_of, root_of, code_at, parent_at, level_at, profile_at}
use Rattle.image.specs.Library.{Library}
use Rattle.content.specs.Content.{no_record, record_at, records_of, content_of}
use Rattle.content.specs.Bytes.{bytes_of, Bytes, Framed}
use Rattle.content.proofs.Records.{records_length, record_is}
use Rattle.content.proofs.Bytes.{content_writable, bytes_of_content}
use Rattle.text.specs.Decimal.{decimal, signed_decimal}
use Rattle.text.specs.Listing.{ascii, values_text, header_line, node_text, record_line, record_lines, listing}
use Rattle.text.proofs.Ends.{number_ends, signed_ends, values_behind, values_end}

-- `simp` goes past a byte
past : (c : ℕ) (s t : List ℕ) → (c ∷ s) ++ t ≡ c ∷ (s ++ t)
past c s t = refl

-- ---- a record's line

record SameLine (xs ys : List ℕ) (i : ℕ) : Type 0 where
  code : code_at xs i ≡ code_at ys i
  above : code_at xs (parent_at xs i) ≡ code_at ys (parent_at ys i)
  level : level_at xs i ≡ level_at ys i
  profile : profile_at xs i ≡ profile_at ys i

record_text : (xs : List ℕ) (i : ℕ) (s : List ℕ) → record_line xs i ++ s
    ≡ decimal (code_at xs i) ++ 32 ∷ (decimal (code_at xs (parent_at xs i)) ++ 32 ∷ (signed_decimal (level_at xs i) ++ (values_text (profile_at xs i) ++ 10 ∷ s)))
unfolding record_line node_text
record_text xs i s = simp (append_assoc, past)

code_low : (xs : List ℕ) → Bytes xs → (i : ℕ) → code_at xs i < 4294967296
code_low xs b i = let at = 16 + 8 * i in omega (arith, b.low at, b.low (at + 1), b.low (at + 2), b.low (at + 2 + 1))

level_small : (byte : ℕ) → byte ≤ 21 → nat_abs (level_of byte) < 4294967296
level_small zero h = omega arith
level_small (suc n) h = omega arith

wells_in_lem : (xs : List ℕ) → Bytes xs → (i : ℕ) → i < count_of xs → Wells (profile_at xs i)
unfolding content_of
wells_in_lem xs b i h = (rw (record_is xs (count_of xs) i h) at ((content_writable xs b).each i (omega (arith, records_length xs (count_of xs))))).profile.values

module _ {xs ys : List ℕ} (b : Bytes xs) (c : Bytes ys) (l : Library xs) (m : Library ys) where
  record_ends : (i : ℕ) {s t : List ℕ} → i < count_of xs → i < count_of ys → record_line xs i ++ s ≡ record_line ys i ++ t → SameLine xs ys i × (s ≡ t)
  record_ends i {s} {t} h k e =
      let same = sym (record_text xs i s) ∙ e ∙ record_text ys i t in
      let code = number_ends _ _ (code_low xs b i) (code_low ys c i) (omega arith) (omega arith) same in
      let above = number_ends _ _ (code_low xs b (parent_at xs i)) (code_low ys c (parent_at ys i)) (omega arith) (omega arith) (ap (drop 1) code.1) in
      let level = signed_ends _ _ (level_small _ (l.layout.level_byte i h)) (level_small _ (m.layout.level_byte i k)) (values_behind _ s) (values_behind _ t) (ap (drop 1) above.1) in
      let profile = values_end (wells_in_lem xs b i h) (wells_in_lem ys c i k) level.1 in
      (record { code = code.0; above = above.0; level = level.0; profile = profile.0 }, profile.1)

  lines_alike : (i many : ℕ) → i + many ≤ count_of xs → i + many ≤ count_of ys → record_lines xs i many ≡ record_lines ys i many → (k : ℕ) → k < many → SameLine xs ys (i + k)
  unfolding record_lines
  lines_alike i zero h g e k lt = absurd (omega arith)
  lines_alike i (suc many) h g e zero lt = rw add-zero (record_ends i (omega arith) (omega arith) e).0
  lines_alike i (suc many) h g e (suc k) lt = rw (add-suc, ← suc-add) (lines_alike (suc i) many (omega arith) (omega arith) (record_ends i (omega arith) (omega arith) e).1 k (omega arith))

-- ---- the header's line

record SameHead (xs ys : List ℕ) : Type 0 where
  wells : wells_of xs ≡ wells_of ys
  metric : metric_of xs ≡ metric_of ys
  count : count_of xs ≡ count_of ys
  root : code_at xs (root_of xs) ≡ code_at ys (root_of ys)

regroup : (a b c d e f g h k s : List ℕ) → (((a ++ b) ++ (c ++ d)) ++ (e ++ f)) ++ (g ++ h) ++ k ++ s ≡ a ++ (b ++ (c ++ (d ++ (e ++ (f ++ (g ++ (h ++ (k ++ s))))))))
regroup a b c d e f g h k s = simp append_assoc

header_text : (xs s : List ℕ) → header_line xs ++ s
    ≡ ascii "wells " ++ (decimal (wells_of xs) ++ (ascii " metric " ++ (decimal (metric_of xs) ++ (ascii " count " ++ (decimal (count_of xs) ++ (ascii " root " ++ (decimal (code_at xs (root_of xs)) ++ 10 ∷ s)))))))
unfolding header_line
header_text xs s =
    regroup (ascii "wells ") (decimal (wells_of xs)) (ascii " metric ") (decimal (metric_of xs)) (ascii " count ") (decimal (count_of xs))
    (ascii " root ") (decimal (code_at xs (root_of xs))) (10 ∷ []) s

module _ {xs ys : List ℕ} (b : Bytes xs) (c : Bytes ys) where
  header_ends : {s t : List ℕ} → header_line xs ++ s ≡ header_line ys ++ t → SameHead xs ys × (s ≡ t)
  header_ends {s} {t} e =
      let same = sym (header_text xs s) ∙ e ∙ header_text ys t in
      let wells = number_ends (wells_of xs) (wells_of ys) (omega (arith, b.low 2)) (omega (arith, c.low 2)) (omega arith) (omega arith) (ap (drop 6) same) in
      let metric = number_ends (metric_of xs) (metric_of ys) (omega (arith, b.low 3)) (omega (arith, c.low 3)) (omega arith) (omega arith) (ap (drop 8) wells.1) in
      let count = number_ends (count_of xs) (count_of ys) (omega (arith, b.low 4, b.low 5)) (omega (arith, c.low 4, c.low 5)) (omega arith) (omega arith) (ap (drop 7) metric.1) in
      let root = number_ends (code_at xs (root_of xs)) (code_at ys (root_of ys)) (code_low xs b _) (code_low ys c _) (omega arith) (omega arith) (ap (drop 6) count.1) in
      (record { wells = wells.0; metric = metric.0; count = count.0; root = root.0 }, ap (drop 1) root.1)

-- ---- the whole

library_framed : {xs : List ℕ} → Library xs → Framed xs
library_framed l = let g = l.layout in record { edition = g.edition; profiles_offset = g.profiles_offset; nodes_offset = g.nodes_offset; size = g.size; spare = g.spare }

module _ {xs ys : List ℕ} (b : Bytes xs) (c : Bytes ys) (l : Library xs) (m : Library ys) (e : listing xs ≡ listing ys) where
  both : SameHead xs ys × (record_lines xs 0 (count_of xs) ≡ record_lines ys 0 (count_of ys))
  unfolding listing
  both = header_ends b c e

  head : SameHead xs ys
  head = both.0

  line_same : (i : ℕ) → i < count_of xs → SameLine xs ys i
  line_same i h = rw zero-add at (lines_alike b c l m 0 (count_of xs) (omega arith) (omega (arith, head.count)) (both.1 ∙ ap (record_lines ys 0) (sym head.count)) i h)

  -- a record is told by its code
  number_same : (i j : ℕ) → i < count_of xs → j < count_of ys → code_at xs i ≡ code_at ys j → i ≡ j
  number_same i j h k q = let n : j < count_of xs = omega (arith, head.count) in l.layout.codes i j h n (q ∙ sym (line_same j n).code)

  parent_same : (i : ℕ) → i < count_of xs → parent_at xs i ≡ parent_at ys i
  parent_same i h = number_same _ _ (l.layout.parent i h) (m.layout.parent i (omega (arith, head.count))) (line_same i h).above

  record_same : (i : ℕ) → i < count_of xs → record_at xs i ≡ record_at ys i
  record_same i h = λ t. record {
    strain = record { code = (line_same i h).code t; profile = (line_same i h).profile t };
    parent = parent_same i h t;
    level = (line_same i h).level t;
  }

  records_same : records_of xs (count_of xs) ≡ records_of ys (count_of ys)
  records_same =
      ext_get_or no_record _ _ (records_length xs (count_of xs) ∙ head.count ∙ sym (records_length ys (count_of ys)))
      (λ i h. let k : i < count_of xs = omega (arith, records_length xs (count_of xs)) in
      record_is xs (count_of xs) i k ∙ record_same i k ∙ sym (record_is ys (count_of ys) i (omega (arith, head.count))))

  content_same : content_of xs ≡ content_of ys
  unfolding content_of
  content_same = λ t. record {
    wells = head.wells t;
    metric = head.metric t;
    root = number_same _ _ l.layout.root m.layout.root head.root t;
    records = records_same t;
  }

  pub one_library : xs ≡ ys
  one_library = sym (bytes_of_content xs b (library_framed l)) ∙ ap bytes_of content_same ∙ bytes_of_content ys c (library_framed m)
