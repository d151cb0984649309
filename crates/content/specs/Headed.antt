-- Bytes that begin with the header of a library, as document 01 lays it out. Assumes nothing.
use Rattle.std.specs.Prelude.{◌≡◌, List, ℕ, ◌+◌, ◌*◌}
use Rattle.image.specs.Fields.{edition_of, wells_of, metric_of, count_of, root_of, profiles_offset_of, nodes_offset_of}

-- w wells, metric m, n strains, and r the root's record number
pub record Headed (xs : List ℕ) (w m n r : ℕ) : Type 0 where
  pub edition : edition_of xs ≡ 1
  pub wells : wells_of xs ≡ w
  pub metric : metric_of xs ≡ m
  pub count : count_of xs ≡ n
  pub root : root_of xs ≡ r
  pub profiles_offset : profiles_offset_of xs ≡ 16 + 8 * n
  pub nodes_offset : nodes_offset_of xs ≡ 16
