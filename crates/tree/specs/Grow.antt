-- Adding a point to a tree, as document 01 says. Assumes nothing.
use Rattle.std.specs.Prelude.{◌≡◌, ◌≢◌, ◌⊎◌, cond, ℕ, ◌≤◌, ℤ}
use Rattle.std.proofs.Math.IntN.{suc_ℤ}
use Rattle.std.specs.Int.Signed.{le_z}
use Rattle.profile.specs.Level.{◌≤2^◌, fitting_level}
use Rattle.tree.specs.Tree.{Tree}

-- the higher of two levels
unfoldable pub higher : ℤ → ℤ → ℤ
higher a b = cond (le_z a b) b a

-- a node can take a point x if their distance is at most 2 ^ level; the root always can
pub record CanTake {X : Type 0} (dist : X → X → ℕ) (t : Tree X) (x : X) (v : ℕ) : Type 0 where
  pub node : t.Node v
  pub near : (v ≡ t.root) ⊎ (dist (t.profile v) x ≤2^ t.level v)

-- v is a nearest node of those that can
pub record NearestTaker {X : Type 0} (dist : X → X → ℕ) (t : Tree X) (x : X) (v : ℕ) : Type 0 where
  pub taker : CanTake dist t x v
  pub nearest : (u : ℕ) → CanTake dist t x u → dist (t.profile v) x ≤ dist (t.profile u) x

-- t' is t with one node more, number k, at x under v. Its level is the fitting level of the distance; the root's level becomes the higher of
-- its old one and the new level plus 1; all other levels and parents stay
pub record Grown {X : Type 0} (dist : X → X → ℕ) (t t' : Tree X) (x : X) (v k : ℕ) : Type 0 where
  pub nodes : (q : ℕ) → t'.Node q → t.Node q ⊎ (q ≡ k)
  pub olds : (q : ℕ) → t.Node q → t'.Node q
  pub root : t'.root ≡ t.root
  pub profile : (q : ℕ) → t.Node q → t'.profile q ≡ t.profile q
  pub new_profile : t'.profile k ≡ x
  pub parent : (q : ℕ) → t.Node q → t'.parent q ≡ t.parent q
  pub new_parent : t'.parent k ≡ v
  pub level : (q : ℕ) → t.Node q → q ≢ t.root → t'.level q ≡ t.level q
  pub new_level : t'.level k ≡ fitting_level (dist (t.profile v) x)
  pub root_level : t'.level t.root ≡ higher (t.level t.root) (suc_ℤ (t'.level k))
