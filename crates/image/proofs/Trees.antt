-- The laws of the tree that an accepted library holds, from those of any tree. Assumes nothing.
use mathlib.Core.Path.{◌≡◌}
use mathlib.Core.Logic.{◌≢◌}
use mathlib.Core.List.{List}
use Prim.Native.Nat.{ℕ, ◌≤◌, ◌<◌}
use lib.IntN.{ℤ, negsuc}
use lib.ListN.{length}
use Rattle.profile.specs.Distance.{distance}
use Rattle.profile.specs.Metric.{Metric}
use Rattle.profile.specs.Level.{reach, fitting_level}
use Rattle.profile.proofs.Distances.{distance_metric}
use Rattle.profile.proofs.Levels.{level_span}
use Rattle.profile.proofs.Reading.{wells_length}
use Rattle.tree.specs.Tree.{Below}
use Rattle.tree.proofs.Reach.{reach_covers}
use Rattle.tree.proofs.Root.{Span, short_way}
use Rattle.tree.proofs.Forced.{level_forced, profiles_differ}
use Rattle.image.specs.Fields.{wells_of, metric_of, count_of, root_of, parent_at, level_at, profile_at, distance_at}
use Rattle.image.specs.Library.{tree_of, Library}

pub profile_length : (xs : List ℕ) (i : ℕ) → length (profile_at xs i) ≡ wells_of xs
unfolding profile_at
profile_length xs i = wells_length _ _ (wells_of xs)

module _ {xs : List ℕ} (l : Library xs) where
  -- the library's metric obeys the metric laws on its profiles
  pub library_metric : Metric (List ℤ) (λ ys. length ys ≡ wells_of xs) (distance (metric_of xs))
  library_metric = distance_metric (metric_of xs) (wells_of xs) l.layout.metric

  -- every descendant of a record lies within its reach
  pub library_reach : (p k q : ℕ) → p < count_of xs → Below (tree_of xs) p k q → distance_at xs p q ≤ reach (level_at xs p)
  unfolding distance_at
  library_reach p k q h b = reach_covers library_metric l.tree.cover (λ i m. profile_length xs i) p k q h b

  -- every record reaches the root along parents, in at most 22 records
  pub library_way : (q : ℕ) → q < count_of xs → (k : ℕ) × Below (tree_of xs) (root_of xs) k q × (k ≤ 21)
  library_way q h = short_way l.tree levels q h
    where
      levels : Span (tree_of xs) (negsuc 0) 21
      levels = record {
        least = λ i m. (level_span (l.layout.level_byte i m)).0;
        most = λ i m. (level_span (l.layout.level_byte i m)).1;
      }

  -- only the root's level is free
  pub library_level : (q : ℕ) → q < count_of xs → q ≢ root_of xs → level_at xs q ≡ fitting_level (distance_at xs (parent_at xs q) q)
  unfolding distance_at
  library_level q h ne = level_forced l.tree q (record { node = h; not_root = ne })

  -- no two records have equal profiles
  pub library_profiles : (p q : ℕ) → p < count_of xs → q < count_of xs → p ≢ q → profile_at xs p ≢ profile_at xs q
  library_profiles = profiles_differ l.tree library_metric.self
