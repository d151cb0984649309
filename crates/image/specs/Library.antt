-- What an accepted library is: bytes laid out as document 01 says, whose tree satisfies the published definition. Assumes nothing.
use Rattle.std.specs.Prelude.{◌≡◌, ◌≢◌, ◌⊎◌, List, ℕ, ◌+◌, ◌*◌, ◌≤◌, ◌<◌, ℤ, length}
use Rattle.profile.specs.Distance.{distance}
use Rattle.tree.specs.Tree.{Tree, CoverTree}
use Rattle.image.specs.Fields.{edition_of, wells_of, metric_of, count_of, root_of, profiles_offset_of, nodes_offset_of, code_at, parent_at, level_byte_at, level_at, spare_at, size_of, profile_at}

-- document 01, "Image layout"
pub record Layout (xs : List ℕ) : Type 0 where
  pub edition : edition_of xs ≡ 1
  pub wells : (1 ≤ wells_of xs) × (wells_of xs ≤ 16)
  pub metric : (metric_of xs ≡ 1) ⊎ (metric_of xs ≡ 2)
  pub count : (1 ≤ count_of xs) × (count_of xs ≤ 1024)
  pub profiles_offset : profiles_offset_of xs ≡ 16 + 8 * count_of xs
  pub nodes_offset : nodes_offset_of xs ≡ 16
  pub size : length xs ≡ size_of (wells_of xs) (count_of xs)
  pub root : root_of xs < count_of xs
  pub root_parent : parent_at xs (root_of xs) ≡ root_of xs
  pub code : (i : ℕ) → i < count_of xs → code_at xs i ≢ 0
  pub codes : (i j : ℕ) → i < count_of xs → j < count_of xs → code_at xs i ≡ code_at xs j → i ≡ j
  pub parent : (i : ℕ) → i < count_of xs → parent_at xs i < count_of xs
  pub level_byte : (i : ℕ) → i < count_of xs → level_byte_at xs i ≤ 21
  pub spare : (i : ℕ) → i < count_of xs → spare_at xs i ≡ 0

-- the tree that a library holds: each of its records is a node
abbrev pub tree_of : List ℕ → Tree (List ℤ)
tree_of xs = record {
  Node = λ i. i < count_of xs;
  root = root_of xs;
  level = level_at xs;
  parent = parent_at xs;
  profile = profile_at xs;
}

pub record Library (xs : List ℕ) : Type 0 where
  pub layout : Layout xs
  pub tree : CoverTree (distance (metric_of xs)) (count_of xs) (tree_of xs)
