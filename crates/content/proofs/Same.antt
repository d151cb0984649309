-- The fields of bytes that agree with others, and of bytes that hold a header, a node or a profile. Assumes nothing.
use mathlib.Core.Path.{◌≡◌, refl, sym, ap, ◌∙◌}
use mathlib.Core.Logic.{◌≢◌}
use mathlib.Core.List.{List, ◌∷◌, flat_map}
use Prim.Native.Nat.{ℕ, zero, suc, ◌+◌, ◌*◌, ◌<◌}
use native.Mathlib.Nat.{add-zero, add_assoc}
use native.Mathlib.Omega.{arith}
use lib.IntN.{ℤ}
use lib.ListN.{length, get_or}
use Rattle.profile.specs.Bytes.{signed, well_at, wells_at}
use Rattle.profile.specs.Distance.{Wells, none, well, Profile}
use Rattle.profile.specs.Level.{level_of}
use Rattle.image.specs.Fields.{edition_of, wells_of, metric_of, count_of, root_of, profiles_offset_of, nodes_offset_of, code_at, parent_at, level_byte_at, spare_at, level_at}
use Rattle.content.specs.Content.{Kept}
use Rattle.content.specs.Bytes.{word_of, header_bytes, node_bytes, profile_bytes, Roomy}
use Rattle.content.specs.Headed.{Headed}
use Rattle.content.proofs.Numbers.{read_16, read_32, signed_word, level_of_byte}

-- ---- a node

-- what the node of record i holds, where its eight bytes are f 0 to f 7
pub record NodeReads (ys : List ℕ) (i : ℕ) (f : ℕ → ℕ) : Type 0 where
  pub code : code_at ys i ≡ f 0 + 256 * f 1 + 65536 * (f 2 + 256 * f 3)
  pub parent : parent_at ys i ≡ f 4 + 256 * f 5
  pub level_byte : level_byte_at ys i ≡ f 6
  pub spare : spare_at ys i ≡ f 7

pub node_reads : (ys : List ℕ) (i : ℕ) (f : ℕ → ℕ) → ((j : ℕ) → j < 8 → get_or ys (16 + 8 * i + j) 0 ≡ f j) → NodeReads ys i f
node_reads ys i f h = record {
  code = omega (
    arith,
    at 0 (16 + 8 * i) (omega arith) (omega arith),
    at 1 (16 + 8 * i + 1) (omega arith) refl,
    at 2 (16 + 8 * i + 2) (omega arith) refl,
    at 3 (16 + 8 * i + 2 + 1) (omega arith) (omega arith),
  );
  parent = omega (arith, at 4 (20 + 8 * i) (omega arith) (omega arith), at 5 (20 + 8 * i + 1) (omega arith) (omega arith));
  level_byte = at 6 (22 + 8 * i) (omega arith) (omega arith);
  spare = at 7 (23 + 8 * i) (omega arith) (omega arith);
}
  where
    at : (j k : ℕ) → j < 8 → k ≡ 16 + 8 * i + j → get_or ys k 0 ≡ f j
    at j k l e = rw e (h j l)

pub record NodeSame (xs ys : List ℕ) (i : ℕ) : Type 0 where
  pub code : code_at ys i ≡ code_at xs i
  pub parent : parent_at ys i ≡ parent_at xs i
  pub level_byte : level_byte_at ys i ≡ level_byte_at xs i
  pub spare : spare_at ys i ≡ spare_at xs i

pub node_same : (xs ys : List ℕ) (i : ℕ) → ((j : ℕ) → j < 8 → get_or ys (16 + 8 * i + j) 0 ≡ get_or xs (16 + 8 * i + j) 0) → NodeSame xs ys i
node_same xs ys i h =
    let f : ℕ → ℕ = λ j. get_or xs (16 + 8 * i + j) 0 in
    let r = node_reads xs i f (λ j l. refl) in
    let s = node_reads ys i f h in
    record { code = s.code ∙ sym r.code; parent = s.parent ∙ sym r.parent; level_byte = s.level_byte ∙ sym r.level_byte; spare = s.spare ∙ sym r.spare }

-- the same, where the level byte may differ
pub record NodeButLevel (xs ys : List ℕ) (i : ℕ) : Type 0 where
  pub code : code_at ys i ≡ code_at xs i
  pub parent : parent_at ys i ≡ parent_at xs i
  pub spare : spare_at ys i ≡ spare_at xs i

pub node_but_level : (xs ys : List ℕ) (i : ℕ) → ((j : ℕ) → j < 8 → j ≢ 6 → get_or ys (16 + 8 * i + j) 0 ≡ get_or xs (16 + 8 * i + j) 0) → NodeButLevel xs ys i
node_but_level xs ys i h = record {
  code = omega (
    arith,
    at 0 (16 + 8 * i) (omega arith) (omega arith) (omega arith),
    at 1 (16 + 8 * i + 1) (omega arith) (omega arith) refl,
    at 2 (16 + 8 * i + 2) (omega arith) (omega arith) refl,
    at 3 (16 + 8 * i + 2 + 1) (omega arith) (omega arith) (omega arith),
  );
  parent = omega (arith, at 4 (20 + 8 * i) (omega arith) (omega arith) (omega arith), at 5 (20 + 8 * i + 1) (omega arith) (omega arith) (omega arith));
  spare = at 7 (23 + 8 * i) (omega arith) (omega arith) (omega arith);
}
  where
    at : (j k : ℕ) → j < 8 → j ≢ 6 → k ≡ 16 + 8 * i + j → get_or ys k 0 ≡ get_or xs k 0
    at j k l ne e = rw e (h j l ne)

pub record NodeWritten (ys : List ℕ) (i : ℕ) (r : Kept) : Type 0 where
  pub code : code_at ys i ≡ r.strain.code
  pub parent : parent_at ys i ≡ r.parent
  pub level : level_at ys i ≡ r.level
  pub spare : spare_at ys i ≡ 0

pub node_written : (ys : List ℕ) (i wells : ℕ) (r : Kept) → Roomy wells r
    → ((j : ℕ) → j < 8 → get_or ys (16 + 8 * i + j) 0 ≡ get_or (node_bytes r) j 0) → NodeWritten ys i r
unfolding node_bytes
node_written ys i wells r R h =
    let n = node_reads ys i (λ j. get_or (node_bytes r) j 0) h in
    record {
      code = n.code ∙ read_32 r.strain.code;
      parent = n.parent ∙ read_16 r.parent;
      level = ap level_of n.level_byte ∙ level_of_byte r.level R.least;
      spare = n.spare;
    }

-- ---- the header

pub record HeaderSame (xs ys : List ℕ) : Type 0 where
  pub edition : edition_of ys ≡ edition_of xs
  pub wells : wells_of ys ≡ wells_of xs
  pub metric : metric_of ys ≡ metric_of xs
  pub count : count_of ys ≡ count_of xs
  pub root : root_of ys ≡ root_of xs
  pub profiles_offset : profiles_offset_of ys ≡ profiles_offset_of xs
  pub nodes_offset : nodes_offset_of ys ≡ nodes_offset_of xs

pub header_same : (xs ys : List ℕ) → ((j : ℕ) → j < 16 → get_or ys j 0 ≡ get_or xs j 0) → HeaderSame xs ys
header_same xs ys h = record {
  edition = omega (arith, h 0 (omega arith), h 1 (omega arith));
  wells = h 2 (omega arith);
  metric = h 3 (omega arith);
  count = omega (arith, h 4 (omega arith), h 5 (omega arith));
  root = omega (arith, h 6 (omega arith), h 7 (omega arith));
  profiles_offset = omega (arith, h 8 (omega arith), h 9 (omega arith), h 10 (omega arith), h 11 (omega arith));
  nodes_offset = omega (arith, h 12 (omega arith), h 13 (omega arith), h 14 (omega arith), h 15 (omega arith));
}

pub header_written : (ys : List ℕ) (wells metric count root : ℕ)
    → ((j : ℕ) → j < 16 → get_or ys j 0 ≡ get_or (header_bytes wells metric count root) j 0) → Headed ys wells metric count root
unfolding header_bytes
header_written ys wells metric count root h =
    let s = header_same (header_bytes wells metric count root) ys h in
    record {
      edition = s.edition;
      wells = s.wells;
      metric = s.metric;
      count = s.count ∙ read_16 count;
      root = s.root ∙ read_16 root;
      profiles_offset = s.profiles_offset ∙ read_32 (16 + 8 * count);
      nodes_offset = s.nodes_offset;
    }

-- ---- a profile

pub wells_same : (xs ys : List ℕ) (at at' wells : ℕ) → ((j : ℕ) → j < 2 * wells → get_or ys (at' + j) 0 ≡ get_or xs (at + j) 0)
    → wells_at ys at' wells ≡ wells_at xs at wells
unfolding wells_at well_at
wells_same xs ys at at' zero h = refl
wells_same xs ys at at' (suc wells) h =
    let low : get_or ys at' 0 ≡ get_or xs at 0 = simp add-zero at (h 0 (omega arith)) in
    let high : get_or ys (at' + 1) 0 ≡ get_or xs (at + 1) 0 = h 1 (omega arith) in
    cc (wells_same xs ys (at + 2) (at' + 2) wells (λ j l. simp add_assoc (h (2 + j) (omega arith))))

profile_held_lem : (ys : List ℕ) (at : ℕ) {p : List ℤ} → Wells p
    → ((j : ℕ) → j < 2 * length p → get_or ys (at + j) 0 ≡ get_or (profile_bytes p) j 0) → wells_at ys at (length p) ≡ p
unfolding wells_at well_at profile_bytes flat_map
profile_held_lem ys at none h = refl
profile_held_lem ys at {p = z ∷ p} (well f W) h =
    let n = word_of z in
    let e : signed (get_or ys at 0 + 256 * get_or ys (at + 1) 0) ≡ z
    = ap signed (omega (arith, simp add-zero at (h 0 (omega arith)), h 1 (omega arith), read_16 n)) ∙ signed_word z f in
    cc (profile_held_lem ys (at + 2) W (rest z p h))
  where
    rest : (z : ℤ) (p : List ℤ) → ((j : ℕ) → j < 2 * suc (length p) → get_or ys (at + j) 0 ≡ get_or (profile_bytes (z ∷ p)) j 0)
        → (j : ℕ) → j < 2 * length p → get_or ys (at + 2 + j) 0 ≡ get_or (profile_bytes p) j 0
    rest z p h j l =
        let e : at + 2 + j ≡ at + suc (suc j) = omega arith in
        rw e (h (suc (suc j)) (omega arith))

pub profile_written : (ys : List ℕ) (at wells : ℕ) (p : List ℤ) → Profile wells p
    → ((j : ℕ) → j < 2 * wells → get_or ys (at + j) 0 ≡ get_or (profile_bytes p) j 0) → wells_at ys at wells ≡ p
profile_written ys at wells p P h =
    rw (← P.count) (profile_held_lem ys at P.values (λ j l. h j (omega (arith, P.count))))
