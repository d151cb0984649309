-- Lone roots are accepted, at every level. Assumes nothing.
use mathlib.Core.Path.{◌≡◌, refl}
use mathlib.Core.Logic.{inl}
use mathlib.Core.List.{List, [], ◌∷◌}
use Prim.Native.Nat.{ℕ, zero, suc, ◌≤◌, ◌<◌}
use native.Mathlib.Omega.{arith}
use Rattle.tree.proofs.Root.{cover_tree}
use Rattle.image.specs.Fields.{count_of, root_of, code_at, parent_at, level_byte_at, spare_at}
use Rattle.image.specs.Library.{Layout}
use Rattle.image.specs.Verdict.{accepted}
use Rattle.checker.specs.Check.{check_of}
use Rattle.checker.proofs.Accepted.{accepted_exactly}

-- every lone root with the layout is accepted, whatever its wells, metric, code and profile, and at whatever level from -1 to 20
pub lone_accepted : (xs : List ℕ) → Layout xs → count_of xs ≡ 1 → check_of xs ≡ accepted
lone_accepted xs l one = (accepted_exactly xs).1 (record {
  layout = l;
  tree = cover_tree (λ q h. h) l.root
      (record {
        is_node = λ q o. alone q o.node o.not_root;
        below = λ q o. alone q o.node o.not_root;
        near = λ q o. alone q o.node o.not_root;
      })
      (record { apart = λ p q hp hq ne. absurd (ne (omega arith)) });
})
  where
    alone : {A : Type 0} (q : ℕ) → q < count_of xs → (q ≡ root_of xs → ⊥) → A
    alone q h ne = absurd (ne (omega (arith, l.root)))

-- what holds of record 0 holds of every record of a lone root
only : (P : ℕ → Type 0) → P 0 → (i : ℕ) → i < 1 → P i
only P p zero h = p
only P p (suc i) h = absurd (omega arith)

-- there is one at each level
unfoldable pub lone_root : ℕ → List ℕ
lone_root byte =
    1 ∷ 0 ∷ 1 ∷ 1 ∷ 1 ∷ 0 ∷ 0 ∷ 0 ∷ 24 ∷ 0 ∷ 0 ∷ 0 ∷ 16 ∷ 0 ∷ 0 ∷ 0
    ∷ 101 ∷ 0 ∷ 0 ∷ 0 ∷ 0 ∷ 0 ∷ byte ∷ 0
    ∷ 0 ∷ 0 ∷ []

pub lone_roots : (byte : ℕ) → byte ≤ 21 → check_of (lone_root byte) ≡ accepted
unfolding lone_root
lone_roots byte h = lone_accepted (lone_root byte) (record {
  edition = refl;
  wells = (omega arith, omega arith);
  metric = inl refl;
  count = (omega arith, omega arith);
  profiles_offset = refl;
  nodes_offset = refl;
  size = refl;
  root = omega arith;
  root_parent = refl;
  code = only (λ i. code_at (lone_root byte) i ≡ 0 → ⊥) (λ e. absurd (omega arith));
  codes = λ i j hi hj e. omega arith;
  parent = only (λ i. parent_at (lone_root byte) i < 1) (omega arith);
  level_byte = only (λ i. level_byte_at (lone_root byte) i ≤ 21) h;
  spare = only (λ i. spare_at (lone_root byte) i ≡ 0) refl;
}) refl
