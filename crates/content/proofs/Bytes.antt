-- A content and the bytes that hold it say the same, both ways. Assumes nothing.
use mathlib.Core.Path.{◌≡◌, refl, sym, ap, ◌∙◌}
use mathlib.Core.List.{List, [], ◌∷◌, ◌++◌, flat_map}
use Prim.Native.Nat.{ℕ, zero, suc, ◌+◌, ◌-◌, ◌*◌, ◌/◌, ◌%◌, ◌<◌}
use native.Mathlib.Nat.{add-zero}
use native.Mathlib.Decide.{dec_lt}
use native.Mathlib.Omega.{arith}
use lib.IntN.{ℤ, pos}
use lib.ListN.{length, get_or, length-append}
use lib.Seq.{ext_get_or}
use Rattle.profile.specs.Bytes.{well_at, wells_at}
use Rattle.profile.specs.Distance.{Wells, none, well}
use Rattle.profile.proofs.Reading.{wells_length}
use Rattle.image.specs.Fields.{wells_of, metric_of, count_of, root_of, level_byte_at, profile_at, profile_start, size_of}
use Rattle.image.specs.Numbers.{u16_at, u32_at}
use Rattle.image.specs.Strains.{each}
use Rattle.image.proofs.Strains.{each_at}
use Rattle.content.specs.Content.{Kept, Content, no_record, nth, record_at, records_of, content_of}
use Rattle.content.specs.Bytes.{bytes16, bytes32, word_of, level_byte_of, header_bytes, node_bytes, profile_bytes, bytes_of, Bytes, Roomy, Writable, Framed}
use Rattle.content.specs.Headed.{Headed}
use Rattle.content.proofs.Records.{records_length, record_is, content_count, content_nth}
use Rattle.content.proofs.Blocks.{blocks_length, block_at, place_of_lem, first_at, second_at, third_at, bytes_none, bytes_more, bytes_append, bytes_blocks}
use Rattle.content.proofs.Numbers.{halves_16, halves_32, written_16, written_32, word_in_16, word_signed, signed_fits, level_byte_low, byte_of_level, level_spans}
use Rattle.content.proofs.Same.{node_reads, NodeWritten, node_written, header_written, profile_written}

-- ---- lengths

pub header_length : (wells metric count root : ℕ) → length (header_bytes wells metric count root) ≡ 16
unfolding header_bytes
header_length wells metric count root = refl

pub node_length : (r : Kept) → length (node_bytes r) ≡ 8
unfolding node_bytes
node_length r = refl

pub profile_length : (p : List ℤ) → length (profile_bytes p) ≡ 2 * length p
unfolding profile_bytes
profile_length p = blocks_length (pos 0) (λ z. bytes16 (word_of z)) 2 p (λ i h. refl)

-- ---- bytes

bytes_pair : (a b : ℕ) → a < 256 → b < 256 → Bytes (a ∷ b ∷ [])
bytes_pair a b h k = bytes_more a (b ∷ []) h (bytes_more b [] k bytes_none)

bytes_16 : (n : ℕ) → n < 65536 → Bytes (bytes16 n)
bytes_16 n h = bytes_pair (n % 256) (n / 256) (halves_16 n h).0 (halves_16 n h).1

bytes_32 : (n : ℕ) → n < 4294967296 → Bytes (bytes32 n)
bytes_32 n h = bytes_append (bytes16 (n % 65536)) (bytes16 (n / 65536)) (bytes_16 (n % 65536) (halves_32 n h).0) (bytes_16 (n / 65536) (halves_32 n h).1)

header_bytes_lem : (wells metric count root : ℕ) → wells < 256 → metric < 256 → count < 65536 → root < 65536 → Bytes (header_bytes wells metric count root)
unfolding header_bytes
header_bytes_lem wells metric count root h k l m =
    bytes_append _ _
    (bytes_append _ _
    (bytes_append _ _
    (bytes_append _ _ (bytes_append _ _ (bytes_16 1 (omega arith)) (bytes_pair wells metric h k)) (bytes_16 count l))
    (bytes_16 root m))
    (bytes_32 (16 + 8 * count) (omega arith)))
    (bytes_32 16 (omega arith))

node_bytes_lem : (wells : ℕ) (r : Kept) → Roomy wells r → Bytes (node_bytes r)
unfolding node_bytes
node_bytes_lem wells r R =
    bytes_append _ _
    (bytes_append _ _ (bytes_32 r.strain.code R.code) (bytes_16 r.parent R.parent))
    (bytes_pair (level_byte_of r.level) 0 (level_byte_low r.level R.most) (omega arith))

profile_bytes_lem : {p : List ℤ} → Wells p → Bytes (profile_bytes p)
unfolding profile_bytes flat_map
profile_bytes_lem none = bytes_none
profile_bytes_lem {p = z ∷ p} (well f W) = bytes_append (bytes16 (word_of z)) (profile_bytes p) (bytes_16 (word_of z) (word_in_16 z f)) (profile_bytes_lem W)

-- ---- the three parts of a content's bytes

abbrev profile_of : Kept → List ℕ
profile_of r = profile_bytes r.strain.profile

abbrev header_of : Content → List ℕ
header_of c = header_bytes c.wells c.metric (length c.records) c.root

abbrev nodes_of : Content → List ℕ
nodes_of c = flat_map node_bytes c.records

abbrev profiles_of : Content → List ℕ
profiles_of c = flat_map profile_of c.records

module _ (c : Content) (W : Writable c) where
  sixteen : length (header_of c) ≡ 16
  sixteen = header_length c.wells c.metric (length c.records) c.root

  nodes_length : length (nodes_of c) ≡ 8 * length c.records
  nodes_length = blocks_length no_record node_bytes 8 c.records (λ i h. node_length (nth c.records i))

  profile_lengths : (i : ℕ) → i < length c.records → length (profile_of (nth c.records i)) ≡ 2 * c.wells
  profile_lengths i h = omega (arith, profile_length (nth c.records i).strain.profile, (W.each i h).profile.count)

  profiles_length : length (profiles_of c) ≡ 2 * (c.wells * length c.records)
  profiles_length = omega (arith, blocks_length no_record profile_of (2 * c.wells) c.records profile_lengths)

  pub bytes_length : length (bytes_of c) ≡ size_of c.wells (length c.records)
  unfolding bytes_of
  bytes_length =
      omega (arith, length-append (header_of c ++ nodes_of c) (profiles_of c), length-append (header_of c) (nodes_of c), sixteen, nodes_length, profiles_length)

  -- what stands where
  pub header_at : (j : ℕ) → j < 16 → get_or (bytes_of c) j 0 ≡ get_or (header_bytes c.wells c.metric (length c.records) c.root) j 0
  unfolding bytes_of
  header_at j h = first_at (header_of c) (nodes_of c) (profiles_of c) j (omega (arith, sixteen))

  pub node_at : (i j : ℕ) → i < length c.records → j < 8 → get_or (bytes_of c) (16 + 8 * i + j) 0 ≡ get_or (node_bytes (nth c.records i)) j 0
  unfolding bytes_of
  node_at i j h k =
      second_at (header_of c) (nodes_of c) (profiles_of c) (8 * i + j) (16 + 8 * i + j) (omega (arith, nodes_length)) (omega (arith, sixteen))
      ∙ block_at no_record node_bytes 8 c.records (λ i h. node_length (nth c.records i)) i j h k

  pub profile_at_lem : (i j : ℕ) → i < length c.records → j < 2 * c.wells
      → get_or (bytes_of c) (profile_start (length c.records) c.wells i + j) 0 ≡ get_or (profile_bytes (nth c.records i).strain.profile) j 0
  unfolding bytes_of
  profile_at_lem i j h k =
      third_at (header_of c) (nodes_of c) (profiles_of c) (2 * c.wells * i + j) (profile_start (length c.records) c.wells i + j)
      (omega (arith, sixteen, nodes_length))
      ∙ block_at no_record profile_of (2 * c.wells) c.records profile_lengths i j h k

  pub bytes_are : Bytes (bytes_of c)
  unfolding bytes_of
  bytes_are =
      bytes_append (header_of c ++ nodes_of c) (profiles_of c)
      (bytes_append (header_of c) (nodes_of c)
      (header_bytes_lem c.wells c.metric (length c.records) c.root W.wells W.metric W.count W.root)
      (bytes_blocks no_record node_bytes c.records (λ i h. node_bytes_lem c.wells (nth c.records i) (W.each i h))))
      (bytes_blocks no_record profile_of c.records (λ i h. profile_bytes_lem (W.each i h).profile.values))

  -- ---- what the bytes of a content say

  pub header_is : Headed (bytes_of c) c.wells c.metric (length c.records) c.root
  header_is = header_written (bytes_of c) c.wells c.metric (length c.records) c.root header_at

  pub node_is : (i : ℕ) → i < length c.records → NodeWritten (bytes_of c) i (nth c.records i)
  node_is i h = node_written (bytes_of c) i c.wells (nth c.records i) (W.each i h) (λ j k. node_at i j h k)

  pub profile_is : (i : ℕ) → i < length c.records → profile_at (bytes_of c) i ≡ (nth c.records i).strain.profile
  unfolding profile_at
  profile_is i h =
      rw (header_is.count, header_is.wells)
      (profile_written (bytes_of c) (profile_start (length c.records) c.wells i) c.wells (nth c.records i).strain.profile
      (W.each i h).profile (λ j k. profile_at_lem i j h k))

  pub record_written : (i : ℕ) → i < length c.records → record_at (bytes_of c) i ≡ nth c.records i
  record_written i h = λ t. record {
    strain = record { code = (node_is i h).code t; profile = profile_is i h t };
    parent = (node_is i h).parent t;
    level = (node_is i h).level t;
  }

  records_are : records_of (bytes_of c) (count_of (bytes_of c)) ≡ c.records
  records_are =
      rw header_is.count
      (ext_get_or no_record (records_of (bytes_of c) (length c.records)) c.records (records_length (bytes_of c) (length c.records))
      (λ i h. within i (omega (arith, records_length (bytes_of c) (length c.records)))))
    where
      within : (i : ℕ) → i < length c.records → nth (records_of (bytes_of c) (length c.records)) i ≡ nth c.records i
      within i h = record_is (bytes_of c) (length c.records) i h ∙ record_written i h

  pub content_of_bytes : content_of (bytes_of c) ≡ c
  unfolding content_of
  content_of_bytes = λ t. record { wells = header_is.wells t; metric = header_is.metric t; root = header_is.root t; records = records_are t }

  pub bytes_framed : Framed (bytes_of c)
  bytes_framed = record {
    edition = header_is.edition;
    profiles_offset = header_is.profiles_offset ∙ ap (λ (n : ℕ). 16 + 8 * n) (sym header_is.count);
    nodes_offset = header_is.nodes_offset;
    size = rw (header_is.count, header_is.wells) bytes_length;
    spare = λ i h. (node_is i (omega (arith, header_is.count))).spare;
  }

-- ---- the content of bytes

module _ (xs : List ℕ) (B : Bytes xs) where
  u16_low : (at : ℕ) → u16_at xs at < 65536
  u16_low at = omega (arith, B.low at, B.low (at + 1))

  wells_fit : (at n : ℕ) → Wells (wells_at xs at n)
  unfolding wells_at well_at
  wells_fit at zero = none
  wells_fit at (suc n) = well (signed_fits (u16_at xs at) (u16_low at)) (wells_fit (at + 2) n)

  record_roomy : (i : ℕ) → Roomy (wells_of xs) (record_at xs i)
  unfolding profile_at
  record_roomy i =
      let at = profile_start (count_of xs) (wells_of xs) i in
      let span = level_spans (level_byte_at xs i) (B.low (22 + 8 * i)) in
      record {
        code = omega (arith, u16_low (16 + 8 * i), u16_low (16 + 8 * i + 2));
        profile = record { count = wells_length xs at (wells_of xs); values = wells_fit at (wells_of xs) };
        parent = u16_low (20 + 8 * i);
        least = span.0;
        most = span.1;
      }

  pub content_writable : Writable (content_of xs)
  unfolding content_of
  content_writable = record {
    wells = B.low 2;
    metric = B.low 3;
    count = omega (arith, content_count xs, u16_low 4);
    root = u16_low 6;
    each = λ i h. rw (content_nth xs i (omega (arith, content_count xs))) (record_roomy i);
  }

  -- numbers that were read are written back
  back_16 : (at : ℕ) → bytes16 (u16_at xs at) ≡ get_or xs at 0 ∷ get_or xs (at + 1) 0 ∷ []
  back_16 at = written_16 (get_or xs at 0) (get_or xs (at + 1) 0) (B.low at) (B.low (at + 1))

  back_32 : (at : ℕ) → bytes32 (u32_at xs at) ≡ get_or xs at 0 ∷ get_or xs (at + 1) 0 ∷ get_or xs (at + 2) 0 ∷ get_or xs (at + 2 + 1) 0 ∷ []
  back_32 at =
      written_32 (get_or xs at 0) (get_or xs (at + 1) 0) (get_or xs (at + 2) 0) (get_or xs (at + 2 + 1) 0)
      (B.low at) (B.low (at + 1)) (B.low (at + 2)) (B.low (at + 2 + 1))

  -- and so is a profile
  profile_back : (at n j : ℕ) → j < 2 * n → get_or (profile_bytes (wells_at xs at n)) j 0 ≡ get_or xs (at + j) 0
  unfolding wells_at well_at profile_bytes flat_map
  profile_back at zero j h = absurd (omega arith)
  profile_back at (suc n) zero h = rw (add-zero at, word_signed (u16_at xs at) (u16_low at)) (omega (arith, B.low at))
  profile_back at (suc n) (suc zero) h = rw (word_signed (u16_at xs at) (u16_low at)) (omega (arith, B.low at))
  profile_back at (suc n) (suc (suc j)) h = profile_back (at + 2) n j (omega arith) ∙ ap (λ (k : ℕ). get_or xs k 0) (omega arith)

  -- and so is the rest, where it is as laid down
  module _ (F : Framed xs) where
    header_back : header_bytes (wells_of xs) (metric_of xs) (count_of xs) (root_of xs) ≡ each (λ j. get_or xs j 0) 0 16
    unfolding header_bytes each
    header_back = λ t.
        (ap bytes16 (sym F.edition) ∙ back_16 0) t
        ++ (wells_of xs ∷ metric_of xs ∷ [])
        ++ back_16 4 t
        ++ back_16 6 t
        ++ (ap bytes32 (sym F.profiles_offset) ∙ back_32 8) t
        ++ (ap bytes32 (sym F.nodes_offset) ∙ back_32 12) t

    node_back : (i : ℕ) → i < count_of xs → node_bytes (record_at xs i) ≡ each (λ j. get_or xs (16 + 8 * i + j) 0) 0 8
    unfolding node_bytes each
    node_back i h =
        let f : ℕ → ℕ = λ j. get_or xs (16 + 8 * i + j) 0 in
        let low : (j : ℕ) → f j < 256 = λ j. B.low (16 + 8 * i + j) in
        let n = node_reads xs i f (λ j l. refl) in
        λ t.
        (ap bytes32 n.code ∙ written_32 (f 0) (f 1) (f 2) (f 3) (low 0) (low 1) (low 2) (low 3)) t
        ++ (ap bytes16 n.parent ∙ written_16 (f 4) (f 5) (low 4) (low 5)) t
        ++ ((byte_of_level (level_byte_at xs i) ∙ n.level_byte) t ∷ (sym (F.spare i h) ∙ n.spare) t ∷ [])

    header_agrees : (j : ℕ) → j < 16 → get_or (bytes_of (content_of xs)) j 0 ≡ get_or xs j 0
    unfolding content_of
    header_agrees j h =
        header_at (content_of xs) content_writable j h
        ∙ ap (λ (n : ℕ). get_or (header_bytes (wells_of xs) (metric_of xs) n (root_of xs)) j 0) (content_count xs)
        ∙ ap (λ (l : List ℕ). get_or l j 0) header_back
        ∙ each_at (λ j. get_or xs j 0) 0 16 j 0 h
        ∙ ap (λ (k : ℕ). get_or xs k 0) (omega arith)

    node_agrees : (i j : ℕ) → i < count_of xs → j < 8 → get_or (bytes_of (content_of xs)) (16 + 8 * i + j) 0 ≡ get_or xs (16 + 8 * i + j) 0
    unfolding content_of
    node_agrees i j h k =
        node_at (content_of xs) content_writable i j (omega (arith, content_count xs)) k
        ∙ ap (λ (r : Kept). get_or (node_bytes r) j 0) (content_nth xs i h)
        ∙ ap (λ (l : List ℕ). get_or l j 0) (node_back i h)
        ∙ each_at (λ j. get_or xs (16 + 8 * i + j) 0) 0 8 j 0 k
        ∙ ap (λ (m : ℕ). get_or xs (16 + 8 * i + m) 0) (omega arith)

    profile_agrees : (i j : ℕ) → i < count_of xs → j < 2 * wells_of xs
        → get_or (bytes_of (content_of xs)) (profile_start (count_of xs) (wells_of xs) i + j) 0 ≡ get_or xs (profile_start (count_of xs) (wells_of xs) i + j) 0
    unfolding content_of profile_at
    profile_agrees i j h k =
        ap (λ (n : ℕ). get_or (bytes_of (content_of xs)) (profile_start n (wells_of xs) i + j) 0) (sym (content_count xs))
        ∙ profile_at_lem (content_of xs) content_writable i j (omega (arith, content_count xs)) k
        ∙ ap (λ (r : Kept). get_or (profile_bytes r.strain.profile) j 0) (content_nth xs i h)
        ∙ profile_back (profile_start (count_of xs) (wells_of xs) i) (wells_of xs) j k

    agree : (k : ℕ) → k < size_of (wells_of xs) (count_of xs) → get_or (bytes_of (content_of xs)) k 0 ≡ get_or xs k 0
    agree k h = go (dec_lt k 16) (dec_lt k (16 + 8 * count_of xs))
      where
        go : Dec (k < 16) → Dec (k < 16 + 8 * count_of xs) → get_or (bytes_of (content_of xs)) k 0 ≡ get_or xs k 0
        go (yes l) d = header_agrees k l
        go (no l) (yes m) =
            let p = place_of_lem 8 (count_of xs) (k - 16) (omega arith) in
            let e : k ≡ 16 + 8 * p.block + p.place = omega (arith, p.at) in
            rw e (node_agrees p.block p.place p.block_in p.place_in)
        go (no l) (no m) =
            let p = place_of_lem (2 * wells_of xs) (count_of xs) (k - (16 + 8 * count_of xs)) (omega arith) in
            let e : k ≡ profile_start (count_of xs) (wells_of xs) p.block + p.place = omega (arith, p.at) in
            rw e (profile_agrees p.block p.place p.block_in p.place_in)

    size_is : length (bytes_of (content_of xs)) ≡ size_of (wells_of xs) (count_of xs)
    unfolding content_of
    size_is = bytes_length (content_of xs) content_writable ∙ ap (size_of (wells_of xs)) (content_count xs)

    pub bytes_of_content : bytes_of (content_of xs) ≡ xs
    bytes_of_content = ext_get_or 0 (bytes_of (content_of xs)) xs (size_is ∙ sym F.size) (λ k h. agree k (omega (arith, size_is)))
