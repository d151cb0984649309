-- The records that a library's bytes say, one by one. Assumes nothing.
use mathlib.Core.Path.{◌≡◌, ap, ◌∙◌}
use mathlib.Core.List.{List}
use Prim.Native.Nat.{ℕ, ◌<◌}
use native.Mathlib.Omega.{arith}
use lib.ListN.{length}
use Rattle.image.specs.Fields.{count_of}
use Rattle.image.proofs.Strains.{each_length, each_at}
use Rattle.content.specs.Content.{no_record, nth, record_at, records_of, content_of}

pub records_length : (xs : List ℕ) (n : ℕ) → length (records_of xs n) ≡ n
unfolding records_of
records_length xs n = each_length (record_at xs) 0 n

pub record_is : (xs : List ℕ) (n i : ℕ) → i < n → nth (records_of xs n) i ≡ record_at xs i
unfolding records_of
record_is xs n i h = each_at (record_at xs) 0 n i no_record h ∙ ap (record_at xs) (omega arith)

-- all of them
pub content_count : (xs : List ℕ) → length (content_of xs).records ≡ count_of xs
unfolding content_of
content_count xs = records_length xs (count_of xs)

pub content_nth : (xs : List ℕ) (i : ℕ) → i < count_of xs → nth (content_of xs).records i ≡ record_at xs i
unfolding content_of
content_nth xs i h = record_is xs (count_of xs) i h
