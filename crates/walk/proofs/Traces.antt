-- What the nearest search does with each record: every one is measured, or passed over under a measured one, and then lies beyond all that is
-- kept in the end. Assumes nothing.
use mathlib.Core.Path.{◌≡◌, refl, ap, ap₂, ◌∙◌}
use mathlib.Core.Logic.{◌⊎◌, inl, inr}
use mathlib.Core.Bool.{Bool, true, false, cond}
use mathlib.Core.List.{List, [], ◌∷◌, ◌++◌, map, map-append, Memᴰ}
use mathlib.Core.List.Memᴰ
use Prim.Native.Nat.{ℕ, ◌+◌, ◌*◌, ◌-◌, ◌≤◌, ◌<◌}
use native.Mathlib.Omega.{arith}
use lib.ListN.{length, get_or}
use Rattle.ranking.specs.Found.{Found, rank}
use Rattle.ranking.specs.Order.{Ascending}
use Rattle.ranking.specs.First.{offered, offers}
use Rattle.ranking.proofs.Places.{mem_get_or}
use Rattle.walk.specs.Forest.{Forest, none, grow, nodes, Under}
use Rattle.walk.specs.Walk.{no_found, worst, Step, measured, passed, record_of, measured_of, passed_of, Reaching, passes, walk, trace}
use Rattle.ranking.proofs.First.{offers_none, offers_next, offers_append, offered_length, offered_under}
use Rattle.walk.proofs.Walks.{Coded, Keeping, keeping_offered, keeping_walk, under_worst, Each, each_here, each_below, each_behind, CodedIn, coded_in, Reached, tells_passes, walk_keeps, passed_far}

passed_records : (under : ℕ) (kept : List Found) (us : List ℕ) → map record_of (map (passed under kept) us) ≡ us
passed_records under kept [] = refl
passed_records under kept (u ∷ us) = ap (λ (vs : List ℕ). u ∷ vs) (passed_records under kept us)

-- every record, each once and in the order of the walk
pub trace_all : (found : ℕ → Found) (reach : ℕ → ℕ) (k : ℕ) (forest : Forest) (kept : List Found)
    → map record_of (trace found reach k forest kept) ≡ nodes forest
unfolding trace nodes
trace_all found reach k none kept = refl
trace_all found reach k (grow v below behind) kept =
    let now = offered rank k (found v) kept in
    ap (λ (us : List ℕ). v ∷ us)
    (map-append record_of (cond (passes found reach k v now) (map (passed v now) (nodes below)) (trace found reach k below now)) _
    ∙ ap₂ {C = List ℕ} (λ us vs. us ++ vs)
    (either (passes found reach k v now) _ _ (passed_records v now (nodes below)) (trace_all found reach k below now))
    (trace_all found reach k behind _))
  where
    either : (t : Bool) (ss rs : List Step)
        → map record_of ss ≡ nodes below → map record_of rs ≡ nodes below → map record_of (cond t ss rs) ≡ nodes below
    either true ss rs e f = e
    either false ss rs e f = f

-- a step measures, or passes over
pub steps_counted : (steps : List Step) → length (measured_of steps) + length (passed_of steps) ≡ length steps
unfolding measured_of passed_of
steps_counted [] = refl
steps_counted (measured v ∷ steps) = let e = steps_counted steps in omega arith
steps_counted (passed under kept v ∷ steps) = let e = steps_counted steps in omega arith

measured_append : (ss rs : List Step) → measured_of (ss ++ rs) ≡ measured_of ss ++ measured_of rs
unfolding measured_of
measured_append [] rs = refl
measured_append (measured v ∷ ss) rs = ap (λ (vs : List ℕ). v ∷ vs) (measured_append ss rs)
measured_append (passed under kept v ∷ ss) rs = measured_append ss rs

passed_measures_none : (under : ℕ) (kept : List Found) (us : List ℕ) → measured_of (map (passed under kept) us) ≡ []
unfolding measured_of
passed_measures_none under kept [] = refl
passed_measures_none under kept (u ∷ us) = passed_measures_none under kept us

-- the walk keeps what offering the measured records, and no others, keeps
pub trace_offers : (found : ℕ → Found) (reach : ℕ → ℕ) (k : ℕ) (forest : Forest) (kept : List Found)
    → offers rank k (map found (measured_of (trace found reach k forest kept))) kept ≡ walk found reach k forest kept
unfolding trace walk measured_of
trace_offers found reach k none kept = offers_none rank k kept
trace_offers found reach k (grow v below behind) kept =
    let now = offered rank k (found v) kept in
    let inner = cond (passes found reach k v now) (map (passed v now) (nodes below)) (trace found reach k below now) in
    let then = cond (passes found reach k v now) now (walk found reach k below now) in
    ap (λ (us : List ℕ). offers rank k (map found (v ∷ us)) kept) (measured_append inner (trace found reach k behind then))
    ∙ offers_next rank k (found v) (map found (measured_of inner ++ measured_of (trace found reach k behind then))) kept
    ∙ ap (λ (fs : List Found). offers rank k fs now) (map-append found (measured_of inner) (measured_of (trace found reach k behind then)))
    ∙ offers_append rank k (map found (measured_of inner)) (map found (measured_of (trace found reach k behind then))) now
    ∙ ap (offers rank k (map found (measured_of (trace found reach k behind then)))) (either now (passes found reach k v now) (trace_offers found reach k below now))
    ∙ trace_offers found reach k behind then
  where
    either : (now : List Found) (t : Bool)
        → offers rank k (map found (measured_of (trace found reach k below now))) now ≡ walk found reach k below now
        → offers rank k (map found (measured_of (cond t (map (passed v now) (nodes below)) (trace found reach k below now)))) now
        ≡ cond t now (walk found reach k below now)
    either now true e = ap (λ (us : List ℕ). offers rank k (map found us) now) (passed_measures_none v now (nodes below)) ∙ offers_none rank k now
    either now false e = e

mem_parts : {s first : Step} (ss : List Step) {rs : List Step} → Memᴰ s (first ∷ ss ++ rs) → (s ≡ first) ⊎ (Memᴰ s ss ⊎ Memᴰ s rs)
mem_parts ss (Memᴰ.head e) = inl e
mem_parts ss (Memᴰ.tail m) = inr (Memᴰ.append_cases ss m)

-- why a record u could be passed over: it hangs below a measured record, which lies further than the worst of k kept strains and its own reach
pub record Passed (found : ℕ → Found) (reach : ℕ → ℕ) (k : ℕ) (P : ℕ → ℕ → Type 0) (steps : List Step) (final : List Found)
    (under : ℕ) (kept : List Found) (u : ℕ) : Type 0 where
  pub is_measured : Memᴰ (measured under) steps
  pub hangs : P under u
  pub full : length kept ≡ k
  pub further : worst k kept + reach under < (found under).distance
  pub beyond : (f : Found) → Memᴰ f final → f.distance < (found u).distance

-- k strains, all nearer than a distance
record Nearer (k far : ℕ) (kept : List Found) : Type 0 where
  full : length kept ≡ k
  near : (f : Found) → Memᴰ f kept → f.distance < far

module _ (k : ℕ) (some : 1 ≤ k) (far : ℕ) where
  -- an offer leaves them so: all their ranks lie below `far` times 2 ^ 32, and an offer to a full list raises no bound
  nearer_offered : (f : Found) (kept : List Found) → Keeping k kept → Nearer k far kept → Nearer k far (offered rank k f kept)
  nearer_offered f kept r n =
      let full = n.full in
      -- so `far` is not 0
      let first = n.near (get_or kept 0 no_found) (mem_get_or kept 0 no_found (omega arith)) in
      record {
        full = rw (offered_length rank k f kept) (omega arith);
        near =
            λ g m. omega (arith, offered_under rank k (far * 4294967296 - 1) f r.ascends full (λ h l. omega (arith, n.near h l, r.coded.fits h l)) m);
      }

  -- and so does the walk
  nearer_walk : (found : ℕ → Found) (reach : ℕ → ℕ) (forest : Forest) (kept : List Found) → CodedIn found forest → Keeping k kept
      → Nearer k far kept → Nearer k far (walk found reach k forest kept)
  nearer_walk found reach forest kept codes r n =
      (walk_keeps found reach k (λ (fs : List Found). Keeping k fs × Nearer k far fs) forest
      (λ v m fs p. (keeping_offered (found v) (codes v m) p.0, nearer_offered (found v) fs p.0 p.1)) kept (r, n)).1

module _ (found : ℕ → Found) (reach : ℕ → ℕ) (k : ℕ) (some : 1 ≤ k) (P : ℕ → ℕ → Type 0) where
  -- what is to be shown of each step: a record that is passed over could be, and the final list is full
  abbrev Reason : List Step → List Found → Step → Type 0
  Reason steps final (measured v) = Unit {0}
  Reason steps final (passed under kept u) = Passed found reach k P steps final under kept u × (length final ≡ k)

  abbrev Reasons : List Step → List Found → Type 0
  Reasons steps final = (s : Step) → Memᴰ s steps → Reason steps final s

  -- more steps, and a later list
  reason_on : {steps steps' : List Step} {final final' : List Found} → ((s : Step) → Memᴰ s steps → Memᴰ s steps')
      → ((far : ℕ) → Nearer k far final → Nearer k far final') → (s : Step) → Reason steps final s → Reason steps' final' s
  reason_on more later (measured v) w = tt
  reason_on more later (passed under kept u) w =
      let p = w.0 in
      let n = later (found u).distance (record { full = w.1; near = p.beyond }) in (
        record {
          is_measured = more (measured under) p.is_measured;
          hangs = p.hangs;
          full = p.full;
          further = p.further;
          beyond = n.near;
        },
        n.full,
      )

  -- a record below one that is passed over
  reason_passed : (v : ℕ) (below behind : Forest) (kept : List Found) → Reached found reach v below → Each (P v) below
      → CodedIn found behind → Keeping k kept → passes found reach k v kept ≡ true
      → (steps : List Step) → Memᴰ (measured v) steps → (u : ℕ) → Memᴰ u (nodes below)
      → Reason steps (walk found reach k behind kept) (passed v kept u)
  reason_passed v below behind kept reaching hanging codes r p steps m u n =
      let w = (tells_passes found reach k v kept).yes p in
      let far = passed_far found reach k v below kept reaching p u n in
      let later =
      nearer_walk k some (found u).distance found reach behind kept codes r
      (record { full = w.0; near = λ f l. omega (arith, under_worst some r w.0 f l) }) in
      (record { is_measured = m; hangs = hanging u n; full = w.0; further = w.1; beyond = later.near }, later.full)

  module _ (v : ℕ) (below : Forest) (now : List Found) where
    -- what is done with the records below v, by whether they are passed over
    abbrev front : Bool → List Step
    front t = cond t (map (passed v now) (nodes below)) (trace found reach k below now)

    -- and what is kept then
    abbrev next : Bool → List Found
    next t = cond t now (walk found reach k below now)

    running_next : (t : Bool) → CodedIn found below → Keeping k now → Keeping k (next t)
    running_next true codes r = r
    running_next false codes r = keeping_walk found reach k below now codes r

  -- one record's turn
  module _ (v : ℕ) (below behind : Forest) (now : List Found)
      (reaching : Reached found reach v below) (hanging : Each (P v) below) (codes : CodedIn found (grow v below behind)) (r : Keeping k now) where
    reason_turn : (t : Bool) → passes found reach k v now ≡ t
        → Reasons (trace found reach k below now) (walk found reach k below now)
        → Reasons (trace found reach k behind (next v below now t)) (walk found reach k behind (next v below now t))
        → (s : Step) → (s ≡ measured v) ⊎ (Memᴰ s (front v below now t) ⊎ Memᴰ s (trace found reach k behind (next v below now t)))
        → Reason (measured v ∷ front v below now t ++ trace found reach k behind (next v below now t)) (walk found reach k behind (next v below now t)) s
    reason_turn t p inside outside s (inl e) = rw e tt
    reason_turn true p inside outside s (inr (inl m)) =
        let w = Memᴰ.of_map (passed v now) (nodes below) m in
        rw (← w.2) (reason_passed v below behind now reaching hanging (each_behind v below behind codes) r p _ (Memᴰ.head refl) w.0 w.1)
    reason_turn false p inside outside s (inr (inl m)) =
        let r' = running_next v below now false (each_below v below behind codes) r in
        reason_on (λ q n. Memᴰ.tail (Memᴰ.append_left _ n))
        (λ far. nearer_walk k some far found reach behind (walk found reach k below now) (each_behind v below behind codes) r') s (inside s m)
    reason_turn t p inside outside s (inr (inr m)) =
        reason_on (λ q n. Memᴰ.tail (Memᴰ.append_right (front v below now t) n)) (λ far n. n) s (outside s m)

  reasons : (forest : Forest) (kept : List Found) → Reaching found reach forest → Under P forest → CodedIn found forest → Keeping k kept
      → Reasons (trace found reach k forest kept) (walk found reach k forest kept)
  unfolding trace walk
  reasons none kept reaching hanging codes r s m = absurd (Memᴰ.not-nil m)
  reasons (grow v below behind) kept (Under.over reaching inside outside) (Under.over hanging inside' outside') codes r s m =
      let now = offered rank k (found v) kept in
      let t = passes found reach k v now in
      let codes' = each_below v below behind codes in
      let r' : Keeping k now = keeping_offered (found v) (each_here v below behind codes) r in
      reason_turn v below behind now reaching hanging codes r' t refl
      (reasons below now inside inside' codes' r')
      (reasons behind (next v below now t) outside outside' (each_behind v below behind codes) (running_next v below now t codes' r'))
      s (mem_parts (front v below now t) m)

pub trace_passed : (found : ℕ → Found) (reach : ℕ → ℕ) (k : ℕ) {P : ℕ → ℕ → Type 0} (forest : Forest) (kept : List Found)
    → Reaching found reach forest → Under P forest → Coded (map found (nodes forest)) → Ascending rank kept → length kept ≤ k → Coded kept → 1 ≤ k
    → (under : ℕ) (then : List Found) (u : ℕ) → Memᴰ (passed under then u) (trace found reach k forest kept)
    → Passed found reach k P (trace found reach k forest kept) (walk found reach k forest kept) under then u
trace_passed found reach k {P} forest kept reaching hanging coded up room coded' some under then u m =
    (reasons found reach k some P forest kept reaching hanging (coded_in found forest coded) (record { ascends = up; room = room; coded = coded' })
    (passed under then u) m).0
