-- The steps of the nearest search, place by place: what is done from one place of the walk to another, with what is kept at each. Assumes nothing.
use mathlib.Core.Path.{◌≡◌, refl, sym, ap, ◌∙◌, subst}
use mathlib.Core.Bool.{Bool, true, false, cond}
use mathlib.Core.List.{List, [], ◌∷◌, ◌++◌, map, append_assoc}
use Prim.Native.Nat.{ℕ, ◌+◌, ◌≤◌}
use native.Mathlib.Omega.{arith}
use lib.ListN.{length}
use borrow.Author.Tests.{ltb-true, leb-true, leb-false}
use Rattle.ranking.specs.Found.{Found, rank}
use Rattle.ranking.specs.First.{offered}
use Rattle.walk.specs.Forest.{Forest, none, grow, nodes, join}
use Rattle.walk.specs.Walk.{worst, Step, measured, passed, passes, walk, trace, opens, Passing}
use Rattle.walk.proofs.Walks.{Keeping, far_same, far_open, far_shut}

module _ (found : ℕ → Found) (reach : ℕ → ℕ) (k : ℕ) where
  trace_join : (forest rest : Forest) (kept : List Found)
      → trace found reach k (join forest rest) kept ≡ trace found reach k forest kept ++ trace found reach k rest (walk found reach k forest kept)
  unfolding trace walk join
  trace_join none rest kept = refl
  trace_join (grow v below behind) rest kept =
      let now = offered rank k (found v) kept in
      let front = cond (passes found reach k v now) (map (passed v now) (nodes below)) (trace found reach k below now) in
      let then = cond (passes found reach k v now) now (walk found reach k below now) in
      ap (λ (ss : List Step). measured v ∷ front ++ ss) (trace_join behind rest then)
      ∙ ap (λ (ss : List Step). measured v ∷ ss) (sym (append_assoc front (trace found reach k behind then) _))

  -- one record's turn
  trace_turn : (v : ℕ) (below behind : Forest) (kept : List Found) (t : Bool) → passes found reach k v (offered rank k (found v) kept) ≡ t
      → trace found reach k (grow v below behind) kept
      ≡ measured v
      ∷ cond t (map (passed v (offered rank k (found v) kept)) (nodes below)) (trace found reach k below (offered rank k (found v) kept))
      ++ trace found reach k behind (cond t (offered rank k (found v) kept) (walk found reach k below (offered rank k (found v) kept)))
  unfolding trace
  trace_turn v below behind kept t e =
      let now = offered rank k (found v) kept in
      ap (λ (t : Bool).
      measured v
      ∷ cond t (map (passed v now) (nodes below)) (trace found reach k below now)
      ++ trace found reach k behind (cond t now (walk found reach k below now))) e

  -- some steps lead from one place of the walk to another: what is to be done at the first is those steps, and then what is to be done at the second
  pub record Leads (from : Forest) (kept : List Found) (rest : Forest) (kept' : List Found) : Type 0 where
    pub done : List Step
    pub left : trace found reach k from kept ≡ done ++ trace found reach k rest kept'

  pub leads_none : (from : Forest) (kept : List Found) → Leads from kept from kept
  leads_none from kept = record { done = []; left = refl }

  pub leads_on : {from then rest : Forest} {kept kept' kept'' : List Found} → Leads from kept then kept' → Leads then kept' rest kept'' → Leads from kept rest kept''
  leads_on p q = record {
    done = p.done ++ q.done;
    left = p.left ∙ ap (λ (ss : List Step). p.done ++ ss) q.left ∙ sym (append_assoc p.done q.done _);
  }

  -- a record is measured, and its children come next
  pub leads_into : (v : ℕ) (below behind : Forest) (kept : List Found) → passes found reach k v (offered rank k (found v) kept) ≡ false
      → Leads (grow v below behind) kept (join below behind) (offered rank k (found v) kept)
  leads_into v below behind kept e = record {
    done = measured v ∷ [];
    left = trace_turn v below behind kept false e ∙ ap (λ (ss : List Step). measured v ∷ ss) (sym (trace_join below behind (offered rank k (found v) kept)));
  }

  -- or they are passed over
  leads_over : (v : ℕ) (below behind : Forest) (kept : List Found) → passes found reach k v (offered rank k (found v) kept) ≡ true
      → Leads (grow v below behind) kept behind (offered rank k (found v) kept)
  leads_over v below behind kept e = record {
    done = measured v ∷ map (passed v (offered rank k (found v) kept)) (nodes below);
    left = trace_turn v below behind kept true e;
  }

-- what is further than the worst of a full list is measured, or passed over
pub leads_passing : (found : ℕ → Found) (reach : ℕ → ℕ) (k bound : ℕ) {from rest : Forest} {many : ℕ} (kept : List Found)
    → Passing found reach bound from many rest → Keeping k kept → length kept ≡ k → 1 ≤ k → worst k kept ≡ bound → Leads found reach k from kept rest kept
unfolding opens
leads_passing found reach k bound {from} kept Passing.here r full some is = leads_none found reach k from kept
leads_passing found reach k bound kept (Passing.into {v = v} {below = below} {behind = behind} way far opened) r full some is =
    let further = ltb-true bound (found v).distance far in
    let near = leb-true (found v).distance (bound + reach v) opened in
    leads_on found reach k (leads_passing found reach k bound kept way r full some is)
    (subst (λ (fs : List Found). Leads found reach k (grow v below behind) kept (join below behind) fs) (far_same found reach k v kept r full some (omega arith))
    (leads_into found reach k v below behind kept (far_open found reach k v kept r full some (omega arith) (omega arith))))
leads_passing found reach k bound kept (Passing.over {v = v} {below = below} {behind = behind} way far shut) r full some is =
    let further = leb-false (found v).distance (bound + reach v) shut in
    leads_on found reach k (leads_passing found reach k bound kept way r full some is)
    (subst (λ (fs : List Found). Leads found reach k (grow v below behind) kept behind fs) (far_same found reach k v kept r full some (omega arith))
    (leads_over found reach k v below behind kept (far_shut found reach k v kept r full some (omega arith) (omega arith))))
