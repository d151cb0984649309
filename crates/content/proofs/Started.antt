-- A library that is started is accepted: a lone root. Assumes nothing.
use mathlib.Core.Path.{◌≡◌, ap}
use mathlib.Core.Logic.{◌≢◌, ◌⊎◌, ⊎_elim}
use mathlib.Core.List.{List}
use Prim.Native.Nat.{ℕ, ◌≤◌, ◌<◌}
use native.Mathlib.Omega.{arith}
use lib.IntN.{pos}
use Rattle.profile.specs.Distance.{Profile}
use Rattle.tree.specs.Tree.{Other}
use Rattle.tree.proofs.Root.{cover_tree}
use Rattle.image.specs.Fields.{count_of, root_of}
use Rattle.image.specs.Strains.{Strain}
use Rattle.image.specs.Library.{Layout, tree_of, Library}
use Rattle.content.specs.Content.{Kept, record_at}
use Rattle.content.specs.Bytes.{bytes_of, Roomy, Writable}
use Rattle.content.specs.Adding.{started}
use Rattle.content.proofs.Bytes.{header_is, record_written, bytes_framed}
use Rattle.content.proofs.Levels.{Storable, storable_byte}

-- what a library can be started with
pub record Startable (wells metric : ℕ) (s : Strain) : Type 0 where
  pub wells_in : (1 ≤ wells) × (wells ≤ 16)
  pub metric_in : (metric ≡ 1) ⊎ (metric ≡ 2)
  pub code : s.code ≢ 0
  pub code_fits : s.code < 4294967296
  pub profile : Profile wells s.profile

module _ (wells metric : ℕ) (s : Strain) (f : Startable wells metric s) where
  abbrev root : Kept
  root = record { strain = s; parent = 0; level = pos 0 }

  -- the one record there is
  only : (i : ℕ) → i < 1 → i ≡ 0
  only i h = omega arith

  root_roomy : Roomy wells root
  root_roomy = record { code = f.code_fits; profile = f.profile; parent = omega arith; least = record { le = tt }; most = record { le = tt } }

  pub started_writable : Writable (started wells metric s)
  unfolding started
  started_writable = record {
    wells = omega (arith, f.wells_in.1);
    metric = ⊎_elim (λ (e : metric ≡ 1). omega arith) (λ (e : metric ≡ 2). omega arith) f.metric_in;
    count = omega arith;
    root = omega arith;
    each = λ i h. rw (only i h) root_roomy;
  }

  abbrev xs : List ℕ
  xs = bytes_of (started wells metric s)

  count_one : count_of xs ≡ 1
  unfolding started
  count_one = (header_is _ started_writable).count

  root_zero : root_of xs ≡ 0
  unfolding started
  root_zero = (header_is _ started_writable).root

  root_is : record_at xs 0 ≡ root
  unfolding started
  root_is = record_written _ started_writable 0 (omega arith)

  -- what holds of the root holds of each record
  by_root : (P : Kept → Type 0) → P root → (i : ℕ) → i < count_of xs → P (record_at xs i)
  by_root P h i k = rw (only i (rw count_one at k), root_is) h

  lone : (i j : ℕ) → i < count_of xs → j < count_of xs → i ≡ j
  lone i j h k = omega (arith, count_one)

  started_layout : Layout xs
  unfolding started
  started_layout =
      let frame = bytes_framed _ started_writable in
      record {
        edition = frame.edition;
        wells = rw (header_is _ started_writable).wells f.wells_in;
        metric = rw (header_is _ started_writable).metric f.metric_in;
        count = rw count_one (omega arith, omega arith);
        profiles_offset = frame.profiles_offset;
        nodes_offset = frame.nodes_offset;
        size = frame.size;
        root = omega (arith, root_zero, count_one);
        root_parent = rw root_zero (ap (λ (r : Kept). r.parent) root_is);
        code = by_root (λ r. r.strain.code ≢ 0) f.code;
        codes = λ i j h k e. lone i j h k;
        parent = by_root (λ r. r.parent < count_of xs) (omega (arith, count_one));
        level_byte = λ i h. storable_byte _ (by_root (λ r. Storable r.level) (record { least = record { le = tt }; most = record { le = tt } }) i h);
        spare = frame.spare;
      }

  no_other : (q : ℕ) → Other (tree_of xs) q → ⊥
  no_other q o = o.not_root (lone q (root_of xs) o.node (omega (arith, root_zero, count_one)))

  -- a library that is started is accepted
  pub started_accepted : Library (bytes_of (started wells metric s))
  started_accepted = record {
    layout = started_layout;
    tree = cover_tree (λ q h. h) started_layout.root
        (record { is_node = λ q o. absurd (no_other q o); below = λ q o. absurd (no_other q o); near = λ q o. absurd (no_other q o) })
        (record { apart = λ p q hp hq ne. absurd (ne (lone p q hp hq)) });
  }
