-- A library of which some records are there. Assumes nothing.
use Rattle.std.specs.Prelude.{◌≡◌, List, ℕ, ◌≤◌, ◌<◌, length}
use Rattle.image.specs.Fields.{wells_of, metric_of, count_of, root_of, level_byte_at, size_of}

-- bytes laid out for so many records, of which the first `filled` are there
pub record Filled (xs : List ℕ) (metric wells count filled : ℕ) : Type 0 where
  pub is_metric : metric ≡ metric_of xs
  pub is_wells : wells ≡ wells_of xs
  pub is_count : count ≡ count_of xs
  pub wells_high : wells ≤ 16
  pub count_high : count ≤ 1024
  pub root_in : root_of xs < filled
  pub filled_in : filled ≤ count
  pub room : size_of wells count ≤ length xs
  pub level_in : (i : ℕ) → i < filled → level_byte_at xs i ≤ 21
