-- The walk within a radius: what it measures, and that it meets all that lies inside. Assumes nothing.
use mathlib.Core.Path.{◌≡◌, refl, ap, ◌∙◌}
use mathlib.Core.Bool.{Bool, true, false, cond}
use mathlib.Core.List.{List, [], ◌∷◌, ◌++◌, append_assoc, Memᴰ}
use Prim.Native.Nat.{ℕ, suc, ◌+◌, ◌≤◌, ◌<◌}
use native.Mathlib.Omega.{arith}
use lib.Dec.{leb}
use lib.ListN.{length, length-append}
use borrow.Author.Tests.{ltb-true, leb-false, le-leb, lt-leb}
use Rattle.ranking.specs.Found.{Found}
use Rattle.walk.specs.Forest.{Forest, none, grow, nodes, join, Under}
use Rattle.walk.specs.Walk.{Reaching, opens, measures, within, Passing}
use Rattle.walk.proofs.Places.{nodes_join, under_join}

module _ (found : ℕ → Found) (reach : ℕ → ℕ) (radius : ℕ) where
  pub within_append : (us vs : List ℕ) → within found reach radius (us ++ vs) ≡ within found reach radius us ++ within found reach radius vs
  unfolding within
  within_append [] vs = refl
  within_append (u ∷ us) vs = go (within_append us vs) (leb (found u).distance radius)
    where
      go : within found reach radius (us ++ vs) ≡ within found reach radius us ++ within found reach radius vs → (t : Bool)
          → cond t (u ∷ within found reach radius (us ++ vs)) (within found reach radius (us ++ vs))
          ≡ cond t (u ∷ within found reach radius us) (within found reach radius us) ++ within found reach radius vs
      go e true = ap {B = List ℕ} (λ ws. u ∷ ws) e
      go e false = e

  within_none : (us : List ℕ) → ((u : ℕ) → Memᴰ u us → radius < (found u).distance) → within found reach radius us ≡ []
  unfolding within
  within_none [] far = refl
  within_none (u ∷ us) far =
      rw (lt-leb (found u).distance radius (far u (Memᴰ.head refl))) (within_none us (λ w m. far w (Memᴰ.tail m)))

  measures_join : (forest rest : Forest)
      → measures found reach radius (join forest rest) ≡ measures found reach radius forest ++ measures found reach radius rest
  unfolding measures join
  measures_join none rest = refl
  measures_join (grow v below behind) rest = rw (measures_join behind rest, append_assoc)

  module _ (v : ℕ) (below behind : Forest) where
    -- a record outside the radius is left out
    within_beyond : radius < (found v).distance
        → within found reach radius (nodes (grow v below behind)) ≡ within found reach radius (nodes (join below behind))
    unfolding nodes within
    within_beyond h = rw (lt-leb (found v).distance radius h, nodes_join)

    -- and all below it, where its children are not measured
    within_shut : Reaching found reach (grow v below behind) → radius < (found v).distance → opens found reach radius v ≡ false
        → within found reach radius (nodes (grow v below behind)) ≡ within found reach radius (nodes behind)
    unfolding opens
    within_shut (Under.over near a b) h o =
        let far : radius + reach v < (found v).distance = leb-false (found v).distance (radius + reach v) o in
        within_beyond h
        ∙ rw (nodes_join, within_append, within_none (nodes below) (λ u m. omega (arith, near u m)))

    measures_open : opens found reach radius v ≡ true
        → length (measures found reach radius (grow v below behind)) ≡ suc (length (measures found reach radius (join below behind)))
    unfolding measures
    measures_open o = rw (o, measures_join)

    measures_shut : opens found reach radius v ≡ false
        → length (measures found reach radius (grow v below behind)) ≡ suc (length (measures found reach radius behind))
    unfolding measures
    measures_shut o = rw o

module _ {found : ℕ → Found} {reach : ℕ → ℕ} {radius : ℕ} {from : Forest} where
  -- what is left reaches as the whole does
  passing_reaching : {rest : Forest} {many : ℕ} → Reaching found reach from → Passing found reach radius from many rest → Reaching found reach rest
  passing_reaching r Passing.here = r
  passing_reaching r (Passing.into p far o) = inside (passing_reaching r p)
    where
      inside : {v : ℕ} {below behind : Forest} → Reaching found reach (grow v below behind) → Reaching found reach (join below behind)
      inside (Under.over near a b) = under_join a b
  passing_reaching r (Passing.over p far o) = past (passing_reaching r p)
    where
      past : {v : ℕ} {below behind : Forest} → Reaching found reach (grow v below behind) → Reaching found reach behind
      past (Under.over near a b) = b

  -- what is passed by lies outside, and was counted
  pub passing_within : {rest : Forest} {many : ℕ} → Reaching found reach from → Passing found reach radius from many rest
      → within found reach radius (nodes from) ≡ within found reach radius (nodes rest)
  passing_within r Passing.here = refl
  passing_within r (Passing.into {v = v} {below} {behind} p far o) =
      passing_within r p ∙ within_beyond found reach radius v below behind (ltb-true radius (found v).distance far)
  passing_within r (Passing.over {v = v} {below} {behind} p far o) =
      passing_within r p ∙ within_shut found reach radius v below behind (passing_reaching r p) (ltb-true radius (found v).distance far) o

  pub passing_measures : {rest : Forest} {many : ℕ} → Passing found reach radius from many rest
      → length (measures found reach radius from) ≡ many + length (measures found reach radius rest)
  passing_measures Passing.here = omega arith
  passing_measures (Passing.into {v = v} {below} {behind} p far o) =
      omega (arith, passing_measures p, measures_open found reach radius v below behind o)
  passing_measures (Passing.over {v = v} {below} {behind} p far o) =
      omega (arith, passing_measures p, measures_shut found reach radius v below behind o)

  pub passing_length : {rest : Forest} {many : ℕ} → Passing found reach radius from many rest → many + length (nodes rest) ≤ length (nodes from)
  unfolding nodes
  passing_length Passing.here = omega arith
  passing_length (Passing.into {below = below} {behind} p far o) =
      omega (arith, passing_length p, ap length (nodes_join below behind))
  passing_length (Passing.over {below = below} {behind} p far o) =
      omega (arith, passing_length p, length-append (nodes below) (nodes behind))

  -- where nothing is passed by, the walk stands where it stood
  pub passing_none : {rest : Forest} {many : ℕ} → Passing found reach radius from many rest → many ≡ 0 → from ≡ rest
  passing_none Passing.here e = refl
  passing_none (Passing.into p far o) e = absurd (omega arith)
  passing_none (Passing.over p far o) e = absurd (omega arith)

-- a record inside the radius is met, and its children are measured
module _ (found : ℕ → Found) (reach : ℕ → ℕ) (radius v : ℕ) (below behind : Forest) (near : (found v).distance ≤ radius) where
  pub met_within : within found reach radius (nodes (grow v below behind)) ≡ v ∷ within found reach radius (nodes (join below behind))
  unfolding nodes within
  met_within = rw (le-leb (found v).distance radius near, nodes_join)

  pub met_measures : length (measures found reach radius (grow v below behind)) ≡ suc (length (measures found reach radius (join below behind)))
  unfolding opens
  met_measures = measures_open found reach radius v below behind (le-leb (found v).distance (radius + reach v) (omega arith))
