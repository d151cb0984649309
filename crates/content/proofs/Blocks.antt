-- Lists that are joined of blocks of one length, and lists of bytes that are joined. Assumes nothing.
use mathlib.Core.Path.{◌≡◌, ap, ◌∙◌}
use mathlib.Core.List.{List, [], ◌∷◌, ◌++◌, flat_map}
use Prim.Native.Nat.{ℕ, zero, suc, ◌+◌, ◌*◌, ◌/◌, ◌%◌, ◌<◌}
use native.Mathlib.Nat.{mod-lt, div-add-mod', div-lt_iff_lt-mul}
use native.Mathlib.Omega.{arith}
use lib.ListN.{length, get_or, take, length-append, get_or-append}
use lib.Seq.{get_or-append-add}
use Rattle.content.specs.Bytes.{Bytes}

module _ {A : Type 0} (d : A) (f : A → List ℕ) (b : ℕ) where
  pub blocks_length : (rs : List A) → ((i : ℕ) → i < length rs → length (f (get_or rs i d)) ≡ b) → length (flat_map f rs) ≡ b * length rs
  unfolding flat_map
  blocks_length [] h = omega arith
  blocks_length (r ∷ rs) h =
      omega (arith, length-append (f r) (flat_map f rs), h 0 (omega arith), blocks_length rs (λ i k. h (suc i) (omega arith)))

  -- place j of block i
  pub block_at : (rs : List A) → ((i : ℕ) → i < length rs → length (f (get_or rs i d)) ≡ b)
      → (i j : ℕ) → i < length rs → j < b → get_or (flat_map f rs) (b * i + j) 0 ≡ get_or (f (get_or rs i d)) j 0
  unfolding flat_map
  block_at [] h i j k l = absurd (omega arith)
  block_at (r ∷ rs) h zero j k l =
      let e : b * 0 + j ≡ j = omega arith in
      rw e (get_or-append (f r) (flat_map f rs) 0 j (omega (arith, h 0 (omega arith))))
  block_at (r ∷ rs) h (suc i) j k l =
      let e : b * suc i + j ≡ length (f r) + (b * i + j) = omega (arith, h 0 (omega arith)) in
      ap (λ (n : ℕ). get_or (f r ++ flat_map f rs) n 0) e
      ∙ get_or-append-add (f r) (flat_map f rs) (b * i + j) 0
      ∙ block_at rs (λ m p. h (suc m) (omega arith)) i j (omega arith) l

-- each place is in a block
pub record Place (b n k : ℕ) : Type 0 where
  pub block : ℕ
  pub place : ℕ
  pub block_in : block < n
  pub place_in : place < b
  pub at : k ≡ b * block + place

pub place_of_lem : (b n k : ℕ) → k < b * n → Place b n k
place_of_lem zero n k h = absurd (omega arith)
place_of_lem (suc b) n k h = record {
  block = k / suc b;
  place = k % suc b;
  block_in = (div-lt_iff_lt-mul {k = suc b} {x = k} {y = n} (omega arith)).1 (omega arith);
  place_in = mod-lt k (omega arith);
  at = omega (arith, div-add-mod' k (suc b));
}

-- a list that is joined of three
module _ (xs ys zs : List ℕ) where
  pub first_at : (j : ℕ) → j < length xs → get_or (xs ++ ys ++ zs) j 0 ≡ get_or xs j 0
  first_at j h =
      get_or-append (xs ++ ys) zs 0 j (omega (arith, length-append xs ys)) ∙ get_or-append xs ys 0 j h

  pub second_at : (j k : ℕ) → j < length ys → k ≡ length xs + j → get_or (xs ++ ys ++ zs) k 0 ≡ get_or ys j 0
  second_at j k h e = rw e (get_or-append (xs ++ ys) zs 0 (length xs + j) (omega (arith, length-append xs ys)) ∙ get_or-append-add xs ys j 0)

  pub third_at : (j k : ℕ) → k ≡ length xs + length ys + j → get_or (xs ++ ys ++ zs) k 0 ≡ get_or zs j 0
  third_at j k e =
      let f : k ≡ length (xs ++ ys) + j = omega (arith, length-append xs ys) in
      rw f (get_or-append-add (xs ++ ys) zs j 0)

-- ---- bytes that are joined

pub bytes_none : Bytes []
bytes_none = record { low = λ j. omega arith }

pub bytes_more : (x : ℕ) (xs : List ℕ) → x < 256 → Bytes xs → Bytes (x ∷ xs)
bytes_more x xs h B = record { low = at }
  where
    at : (j : ℕ) → get_or (x ∷ xs) j 0 < 256
    at zero = h
    at (suc j) = B.low j

pub bytes_take : (k : ℕ) (xs : List ℕ) → Bytes xs → Bytes (take k xs)
bytes_take zero xs b = bytes_none
bytes_take (suc k) [] b = bytes_none
bytes_take (suc k) (x ∷ xs) b = bytes_more x (take k xs) (b.low 0) (bytes_take k xs (record { low = λ j. b.low (suc j) }))

pub bytes_append : (xs ys : List ℕ) → Bytes xs → Bytes ys → Bytes (xs ++ ys)
bytes_append [] ys B C = C
bytes_append (x ∷ xs) ys B C = bytes_more x (xs ++ ys) (B.low 0) (bytes_append xs ys (record { low = λ j. B.low (suc j) }) C)

pub bytes_blocks : {A : Type 0} (d : A) (f : A → List ℕ) (rs : List A) → ((i : ℕ) → i < length rs → Bytes (f (get_or rs i d))) → Bytes (flat_map f rs)
unfolding flat_map
bytes_blocks d f [] h = bytes_none
bytes_blocks d f (r ∷ rs) h = bytes_append (f r) (flat_map f rs) (h 0 (omega arith)) (bytes_blocks d f rs (λ i k. h (suc i) (omega arith)))
