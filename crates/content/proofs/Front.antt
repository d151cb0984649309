-- A library that stands in front of a buffer: its bytes are decided by what they say. Assumes nothing.
use mathlib.Core.Path.{◌≡◌, sym, ◌∙◌, ap}
use mathlib.Core.List.{List, ◌++◌}
use Prim.Native.Nat.{ℕ, ◌+◌, ◌-◌, ◌*◌, ◌≤◌, ◌<◌}
use native.Mathlib.Omega.{arith}
use lib.ListN.{length, get_or, take, drop, take-append-drop, length-drop}
use lib.Seq.{length-take-le, get_or-take, get_or-drop, ext_get_or}
use Rattle.profile.specs.Level.{level_of}
use Rattle.image.specs.Fields.{edition_of, wells_of, metric_of, count_of, root_of, profiles_offset_of, nodes_offset_of, spare_at, profile_start, size_of, profile_at}
use Rattle.image.proofs.Sizes.{row_in}
use Rattle.content.specs.Content.{Kept, Content, no_record, record_at, records_of, first_of, content_of}
use Rattle.content.specs.Bytes.{bytes_of, Bytes, Framed}
use Rattle.content.proofs.Blocks.{bytes_take}
use Rattle.content.proofs.Records.{records_length, record_is}
use Rattle.content.proofs.Same.{HeaderSame, header_same, node_same, wells_same}
use Rattle.content.proofs.Bytes.{bytes_of_content}

-- a record is told by the bytes of its node and of its profile
pub record_same : (xs ys : List ℕ) (i : ℕ) → count_of ys ≡ count_of xs → wells_of ys ≡ wells_of xs
    → ((j : ℕ) → j < 8 → get_or ys (16 + 8 * i + j) 0 ≡ get_or xs (16 + 8 * i + j) 0)
    → ((j : ℕ) → j < 2 * wells_of xs → get_or ys (profile_start (count_of xs) (wells_of xs) i + j) 0 ≡ get_or xs (profile_start (count_of xs) (wells_of xs) i + j) 0)
    → record_at ys i ≡ record_at xs i
unfolding profile_at
record_same xs ys i n w h k =
    let a = node_same xs ys i h in
    let p : profile_at ys i ≡ profile_at xs i =
    rw (n, w) (wells_same xs ys (profile_start (count_of xs) (wells_of xs) i) (profile_start (count_of xs) (wells_of xs) i) (wells_of xs) k) in
    λ t. record { strain = record { code = a.code t; profile = p t }; parent = a.parent t; level = level_of (a.level_byte t) }

-- a buffer in front of which a library is laid out
pub record Laid (zs : List ℕ) (size : ℕ) : Type 0 where
  pub is_size : size ≡ size_of (wells_of zs) (count_of zs)
  pub room : size ≤ length zs
  pub edition : edition_of zs ≡ 1
  pub profiles_offset : profiles_offset_of zs ≡ 16 + 8 * count_of zs
  pub nodes_offset : nodes_offset_of zs ≡ 16
  pub spare : (i : ℕ) → i < count_of zs → spare_at zs i ≡ 0

module _ (zs : List ℕ) (b : Bytes zs) (size : ℕ) (l : Laid zs size) where
  front : List ℕ
  front = take size zs

  front_length : length front ≡ size
  unfolding front
  front_length = length-take-le size zs l.room

  in_front : (j : ℕ) → j < size → get_or front j 0 ≡ get_or zs j 0
  unfolding front
  in_front j h = get_or-take size zs j 0 h

  fields : HeaderSame zs front
  fields = header_same zs front (λ j h. in_front j (omega (arith, l.is_size)))

  front_bytes : Bytes front
  unfolding front
  front_bytes = bytes_take size zs b

  node_in : (i j : ℕ) → i < count_of zs → j < 8 → get_or front (16 + 8 * i + j) 0 ≡ get_or zs (16 + 8 * i + j) 0
  node_in i j h k = in_front (16 + 8 * i + j) (omega (arith, l.is_size))

  record_in : (i : ℕ) → i < count_of zs → record_at front i ≡ record_at zs i
  record_in i h =
      record_same zs front i fields.count fields.wells (λ j k. node_in i j h k)
      (λ j k. in_front _ (omega (arith, l.is_size, row_in (wells_of zs) h)))

  framed : Framed front
  framed = record {
    edition = fields.edition ∙ l.edition;
    profiles_offset = rw (fields.profiles_offset, fields.count) l.profiles_offset;
    nodes_offset = fields.nodes_offset ∙ l.nodes_offset;
    size = rw (fields.count, fields.wells) (front_length ∙ l.is_size);
    spare = λ i h. let g : i < count_of zs = omega (arith, fields.count) in (node_same zs front i (λ j k. node_in i j g k)).spare ∙ l.spare i g;
  }

  records_in : records_of front (count_of zs) ≡ records_of zs (count_of zs)
  records_in =
      ext_get_or no_record _ _ (records_length front (count_of zs) ∙ sym (records_length zs (count_of zs)))
      (λ i h. let g : i < count_of zs = omega (arith, records_length front (count_of zs)) in
      record_is front (count_of zs) i g ∙ record_in i g ∙ sym (record_is zs (count_of zs) i g))

  says : content_of front ≡ first_of zs (count_of zs)
  unfolding content_of
  says =
      (λ t. record { wells = fields.wells t; metric = fields.metric t; root = fields.root t; records = records_of front (fields.count t) })
      ∙ ap (λ (rs : List Kept). record { wells = wells_of zs; metric = metric_of zs; root = root_of zs; records = rs }) records_in

  -- what stands in front is the content's bytes
  pub front_is : take size zs ≡ bytes_of (first_of zs (count_of zs))
  unfolding front
  front_is = sym (bytes_of_content front front_bytes framed) ∙ ap bytes_of says

  pub image_long : (c : Content) → first_of zs (count_of zs) ≡ c → length (bytes_of c) ≡ size
  image_long c e = sym (ap length (front_is ∙ ap bytes_of e)) ∙ length-take-le size zs l.room

  -- and the whole buffer, where nothing behind was touched
  pub buffer_is : (buffer : List ℕ) (c : Content) → first_of zs (count_of zs) ≡ c → length zs ≡ length buffer → ((j : ℕ) → size ≤ j → get_or zs j 0 ≡ get_or buffer j 0)
      → zs ≡ bytes_of c ++ drop (length (bytes_of c)) buffer
  buffer_is buffer c e same h =
      sym (take-append-drop size zs) ∙ (λ t. image t ++ behind t) ∙ ap (λ (k : ℕ). bytes_of c ++ drop k buffer) (sym long)
    where
      image : take size zs ≡ bytes_of c
      image = front_is ∙ ap bytes_of e

      long : length (bytes_of c) ≡ size
      long = image_long c e

      behind : drop size zs ≡ drop size buffer
      behind =
          ext_get_or 0 _ _ (length-drop size zs ∙ ap (λ (k : ℕ). k - size) same ∙ sym (length-drop size buffer))
          (λ i g. get_or-drop size zs i 0 ∙ h (size + i) (omega arith) ∙ sym (get_or-drop size buffer i 0))
