-- A header and a root at level 0 are a library begun. Assumes nothing.
use mathlib.Core.Path.{◌≡◌, ◌∙◌, ap}
use mathlib.Core.List.{List, [], ◌∷◌}
use Prim.Native.Nat.{ℕ, ◌+◌, ◌*◌, ◌≤◌, ◌<◌}
use native.Mathlib.Omega.{arith}
use lib.IntN.{ℤ, pos}
use lib.ListN.{length, get_or}
use lib.Seq.{sets, length-sets}
use Rattle.profile.specs.Distance.{Wells}
use Rattle.image.specs.Fields.{profile_start, profile_at, size_of}
use Rattle.image.specs.Strains.{each}
use Rattle.image.proofs.Sizes.{row_in}
use Rattle.content.specs.Content.{Kept, kept_of, record_at, records_of}
use Rattle.content.specs.Bytes.{header_bytes, node_bytes, profile_bytes, Roomy}
use Rattle.content.specs.Adding.{started}
use Rattle.content.proofs.Same.{NodeWritten, node_written, profile_written}
use Rattle.content.proofs.Bytes.{node_length, profile_length}
use Rattle.content.specs.Headed.{Headed}
use Rattle.writer.proofs.Stores.{sets_in, sets_before, sets_behind}
use Rattle.writer.proofs.Heads.{head_long, past_head, headed, headed_still}
use Rattle.adding.specs.Steps.{Begun}

module _ (xs mid ys : List ℕ) (wells metric count code : ℕ) (x : List ℤ) (long : length x ≡ wells) (values : Wells x) (some : 1 ≤ count)
    (room : size_of wells count ≤ length xs) (code_fits : code < 4294967296)
    (e : mid ≡ sets xs 0 (header_bytes wells metric count 0))
    (f : ys ≡ sets (sets mid 16 (node_bytes (kept_of code x 0 (pos 0)))) (profile_start count wells 0) (profile_bytes x)) where
  abbrev root : Kept
  root = kept_of code x 0 (pos 0)

  abbrev noded : List ℕ
  noded = sets mid 16 (node_bytes root)

  head_room : 16 ≤ length xs
  head_room = omega (arith, room)

  mid_long : length mid ≡ length xs
  mid_long = head_long xs mid wells metric count 0 e head_room

  noded_long : length noded ≡ length xs
  noded_long = length-sets mid 16 (node_bytes root) ∙ mid_long

  profile_long : length (profile_bytes x) ≡ 2 * wells
  profile_long = profile_length x ∙ ap (λ (n : ℕ). 2 * n) long

  roomy : Roomy wells root
  roomy = record { code = code_fits; profile = record { count = long; values = values }; parent = omega arith; least = record { le = tt }; most = record { le = tt } }

  -- record 0 is one of those laid out
  first_row : wells * 0 + wells ≤ wells * count
  first_row = row_in wells some

  in_header : (j : ℕ) → j < 16 → get_or ys j 0 ≡ get_or mid j 0
  in_header j h = rw f (sets_before noded (profile_bytes x) (profile_start count wells 0) j (omega arith) ∙ sets_before mid (node_bytes root) 16 j h)

  in_node : (j : ℕ) → j < 8 → get_or ys (16 + 8 * 0 + j) 0 ≡ get_or (node_bytes root) j 0
  in_node j h =
      rw f (sets_before noded (profile_bytes x) (profile_start count wells 0) (16 + j) (omega arith)
      ∙ sets_in mid (node_bytes root) 16 j (omega (arith, node_length root, mid_long, room)) (omega (arith, node_length root)))

  in_profile : (j : ℕ) → j < 2 * wells → get_or ys (profile_start count wells 0 + j) 0 ≡ get_or (profile_bytes x) j 0
  in_profile j h =
      rw f (sets_in noded (profile_bytes x) (profile_start count wells 0) j (omega (arith, profile_long, noded_long, room, first_row)) (omega (arith, profile_long)))

  head : Headed ys wells metric count 0
  head = headed_still in_header (headed xs mid wells metric count 0 e head_room)

  node : NodeWritten ys 0 root
  node = node_written ys 0 wells root roomy in_node

  profile_is : profile_at ys 0 ≡ x
  unfolding profile_at
  profile_is = rw (head.count, head.wells) (profile_written ys (profile_start count wells 0) wells x roomy.profile in_profile)

  root_is : record_at ys 0 ≡ root
  root_is = λ t. record { strain = record { code = node.code t; profile = profile_is t }; parent = node.parent t; level = node.level t }

  records_are : records_of ys 1 ≡ root ∷ []
  unfolding records_of each
  records_are = ap (λ (r : Kept). r ∷ []) root_is

  pub begun : Begun xs ys wells metric count (record { code = code; profile = x })
  unfolding started
  begun = record {
    headed = head;
    says = λ t. record { wells = head.wells t; metric = head.metric t; root = head.root t; records = records_are t };
    long = ap length f ∙ length-sets noded (profile_start count wells 0) (profile_bytes x) ∙ noded_long;
    behind = λ j h.
        rw f (sets_behind noded (profile_bytes x) (profile_start count wells 0) j (omega (arith, profile_long, first_row))
        ∙ sets_behind mid (node_bytes root) 16 j (omega (arith, node_length root)))
        ∙ past_head xs mid wells metric count 0 e head_room j (omega arith);
    spare = λ i h. let e : i ≡ 0 = omega arith in rw e node.spare;
  }
