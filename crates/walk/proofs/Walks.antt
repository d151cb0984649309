-- The walk of the nearest search loses nothing: it keeps what offering every record would keep. Assumes nothing.
use mathlib.Core.Path.{◌≡◌, refl, sym, ap, ◌∙◌}
use mathlib.Core.Logic.{◌⊎◌, inl, inr}
use mathlib.Core.Bool.{Bool, true, false, cond}
use mathlib.Core.List.{List, [], ◌++◌, map, map-append, Memᴰ}
use mathlib.Core.List.Memᴰ
use Prim.Native.Nat.{ℕ, ◌+◌, ◌-◌, ◌≤◌, ◌<◌}
use native.Mathlib.Omega.{arith}
use lib.ListN.{length, get_or}
use borrow.Author.Tests.{ltb-true, leb-true, leb-false}
use Rattle.ranking.specs.Found.{Found, rank}
use Rattle.ranking.specs.Order.{Ascending}
use Rattle.ranking.specs.First.{first_k, offered, offers}
use Rattle.ranking.proofs.Places.{mem_get_or}
use Rattle.image.proofs.Tests.{Tells, told_true, told_false, tells_and, tells_eq, tells_lt}
use Rattle.walk.specs.Forest.{Forest, none, grow, nodes, join, Under}
use Rattle.walk.specs.Walk.{no_found, worst, Reaching, passes, walk, opens, Passing}
use Rattle.ranking.proofs.First.{offers_none, offers_next, offers_append, offers_first, offered_length, offered_ascending, offered_mem, offered_beyond, offers_beyond}
use Rattle.walk.proofs.Offered.{under_last, offered_new}

-- codes have 32 bits
pub record Coded (fs : List Found) : Type 0 where
  pub fits : (f : Found) → Memᴰ f fs → f.code < 4294967296

-- what the nearest search has kept: at most k strains in order, whose codes have 32 bits
pub record Keeping (k : ℕ) (kept : List Found) : Type 0 where
  pub ascends : Ascending rank kept
  pub room : length kept ≤ k
  pub coded : Coded kept

pub keeping_none : (k : ℕ) → Keeping k []
keeping_none k = record { ascends = Ascending.none; room = omega arith; coded = record { fits = λ f m. absurd (Memᴰ.not-nil m) } }

pub keeping_offered : {k : ℕ} {kept : List Found} (f : Found) → f.code < 4294967296 → Keeping k kept → Keeping k (offered rank k f kept)
keeping_offered {k} {kept} f h r =
    record {
      ascends = offered_ascending rank k f r.ascends;
      room = rw (offered_length rank k f kept) (omega arith);
      coded = record { fits = λ g m. fits g (offered_mem rank k f kept m) };
    }
  where
    fits : (g : Found) → (g ≡ f) ⊎ Memᴰ g kept → g.code < 4294967296
    fits g (inl e) = rw e h
    fits g (inr m) = r.coded.fits g m

-- the last of k kept strains has the worst distance
pub under_worst : {k : ℕ} {kept : List Found} → 1 ≤ k → Keeping k kept → length kept ≡ k → (f : Found) → Memᴰ f kept → f.distance ≤ worst k kept
under_worst {k} {kept} some r full f m =
    let lower : rank f ≤ rank (get_or kept (k - 1) no_found) = under_last (k - 1) no_found r.ascends (omega arith) m in
    let code = r.coded.fits (get_or kept (k - 1) no_found) (mem_get_or kept (k - 1) no_found (omega arith)) in
    omega arith

-- what lies further ranks behind all of them
behind_worst : {k : ℕ} {kept : List Found} → 1 ≤ k → Keeping k kept → length kept ≡ k → (f : Found) → worst k kept < f.distance
    → (g : Found) → Memᴰ g kept → rank g ≤ rank f
behind_worst some r full f far g m = omega (arith, under_worst some r full g m, r.coded.fits g m)

-- P holds of every record of a forest
abbrev pub Each : (ℕ → Type 0) → Forest → Type 0
Each P forest = (v : ℕ) → Memᴰ v (nodes forest) → P v

module _ {P : ℕ → Type 0} (v : ℕ) (below behind : Forest) (each : Each P (grow v below behind)) where
  pub each_here : P v
  unfolding nodes
  each_here = each v (Memᴰ.head refl)

  pub each_below : Each P below
  unfolding nodes
  each_below u m = each u (Memᴰ.tail (Memᴰ.append_left (nodes behind) m))

  pub each_behind : Each P behind
  unfolding nodes
  each_behind u m = each u (Memᴰ.tail (Memᴰ.append_right (nodes below) m))

-- the codes of a forest's records have 32 bits
abbrev pub CodedIn : (ℕ → Found) → Forest → Type 0
CodedIn found = Each (λ v. (found v).code < 4294967296)

pub coded_in : (found : ℕ → Found) (forest : Forest) → Coded (map found (nodes forest)) → CodedIn found forest
coded_in found forest coded v m = coded.fits (found v) (Memᴰ.map found m)

-- none of a forest's records is nearer than v's distance less v's reach
abbrev pub Reached : (ℕ → Found) → (ℕ → ℕ) → ℕ → Forest → Type 0
Reached found reach v = Each (λ u. (found v).distance ≤ (found u).distance + reach v)

module _ (found : ℕ → Found) (reach : ℕ → ℕ) (k : ℕ) where
  pub tells_passes : (v : ℕ) (kept : List Found)
      → Tells (passes found reach k v kept) ((length kept ≡ k) × (worst k kept + reach v < (found v).distance))
  unfolding passes
  tells_passes v kept = tells_and (tells_eq (length kept) k) (tells_lt (worst k kept + reach v) (found v).distance)

  -- one record's turn
  walk_turn : (v : ℕ) (below behind : Forest) (kept : List Found) (t : Bool) → passes found reach k v (offered rank k (found v) kept) ≡ t
      → walk found reach k (grow v below behind) kept
      ≡ walk found reach k behind (cond t (offered rank k (found v) kept) (walk found reach k below (offered rank k (found v) kept)))
  unfolding walk
  walk_turn v below behind kept t e =
      let now = offered rank k (found v) kept in
      ap (λ (t : Bool). walk found reach k behind (cond t now (walk found reach k below now))) e

  pub walk_join : (forest rest : Forest) (kept : List Found)
      → walk found reach k (join forest rest) kept ≡ walk found reach k rest (walk found reach k forest kept)
  unfolding walk join
  walk_join none rest kept = refl
  walk_join (grow v below behind) rest kept = walk_join behind rest _

  -- what every offer of a record keeps, the walk keeps
  pub walk_keeps : (P : List Found → Type 0) (forest : Forest) → Each (λ v. (kept : List Found) → P kept → P (offered rank k (found v) kept)) forest
      → (kept : List Found) → P kept → P (walk found reach k forest kept)
  unfolding walk
  walk_keeps P none each kept p = p
  walk_keeps P (grow v below behind) each kept p =
      let now = each_here v below behind each kept p in
      walk_keeps P behind (each_behind v below behind each) _
      (either (passes found reach k v (offered rank k (found v) kept)) now (walk_keeps P below (each_below v below behind each) _ now))
    where
      either : (t : Bool) {here there : List Found} → P here → P there → P (cond t here there)
      either true p q = p
      either false p q = q

  pub keeping_walk : (forest : Forest) (kept : List Found) → CodedIn found forest → Keeping k kept → Keeping k (walk found reach k forest kept)
  keeping_walk forest kept codes = walk_keeps (Keeping k) forest (λ v m fs. keeping_offered (found v) (codes v m)) kept

-- a record no further than the worst kept, or offered to a list with room, is not passed over
pub met_open : (found : ℕ → Found) (reach : ℕ → ℕ) (k v : ℕ) (kept : List Found) → Keeping k kept → 1 ≤ k → (found v).code < 4294967296
    → (length kept ≡ k → (found v).distance ≤ worst k kept) → passes found reach k v (offered rank k (found v) kept) ≡ false
met_open found reach k v kept r some code near =
    told_false (tells_passes found reach k v _) (λ w. absurd (omega (arith, w.1, low w.0 (offered_new rank k (found v) kept r.room))))
  where
    low : length (offered rank k (found v) kept) ≡ k → Memᴰ (found v) (offered rank k (found v) kept) ⊎ (offered rank k (found v) kept ≡ kept)
        → (found v).distance ≤ worst k (offered rank k (found v) kept)
    low full (inl m) = under_worst some (keeping_offered (found v) code r) full (found v) m
    low full (inr e) = rw e (near (sym (ap length e) ∙ full))

-- so its children are walked
pub walk_into : (found : ℕ → Found) (reach : ℕ → ℕ) (k v : ℕ) (below behind : Forest) (kept : List Found)
    → passes found reach k v (offered rank k (found v) kept) ≡ false
    → walk found reach k (grow v below behind) kept ≡ walk found reach k (join below behind) (offered rank k (found v) kept)
walk_into found reach k v below behind kept p = walk_turn found reach k v below behind kept false p ∙ sym (walk_join found reach k below behind _)

-- a record further than the worst of a full list changes nothing, and is passed over or not by its reach
module _ (found : ℕ → Found) (reach : ℕ → ℕ) (k v : ℕ) (kept : List Found)
    (r : Keeping k kept) (full : length kept ≡ k) (some : 1 ≤ k) (far : worst k kept < (found v).distance) where
  pub far_same : offered rank k (found v) kept ≡ kept
  far_same = offered_beyond rank k (found v) kept full (behind_worst some r full (found v) far)

  pub far_open : (found v).distance ≤ worst k kept + reach v → passes found reach k v (offered rank k (found v) kept) ≡ false
  far_open h = rw far_same (told_false (tells_passes found reach k v kept) (λ w. absurd (omega (arith, w.1))))

  pub far_shut : worst k kept + reach v < (found v).distance → passes found reach k v (offered rank k (found v) kept) ≡ true
  far_shut h = rw far_same (told_true (tells_passes found reach k v kept) (full, h))

-- what is further than the worst of a full list is measured, or passed over, and changes nothing
pub walk_passing : (found : ℕ → Found) (reach : ℕ → ℕ) (k bound : ℕ) {from rest : Forest} {many : ℕ} (kept : List Found)
    → Passing found reach bound from many rest → Keeping k kept → length kept ≡ k → 1 ≤ k → worst k kept ≡ bound
    → walk found reach k from kept ≡ walk found reach k rest kept
unfolding opens
walk_passing found reach k bound kept Passing.here r full some is = refl
walk_passing found reach k bound kept (Passing.into {v = v} {below = below} {behind = behind} way far opened) r full some is =
    let further = ltb-true bound (found v).distance far in
    let near = leb-true (found v).distance (bound + reach v) opened in
    walk_passing found reach k bound kept way r full some is
    ∙ walk_into found reach k v below behind kept (far_open found reach k v kept r full some (omega arith) (omega arith))
    ∙ ap (walk found reach k (join below behind)) (far_same found reach k v kept r full some (omega arith))
walk_passing found reach k bound kept (Passing.over {v = v} {below = below} {behind = behind} way far shut) r full some is =
    let further = leb-false (found v).distance (bound + reach v) shut in
    walk_passing found reach k bound kept way r full some is
    ∙ walk_turn found reach k v below behind kept true (far_shut found reach k v kept r full some (omega arith) (omega arith))
    ∙ ap (walk found reach k behind) (far_same found reach k v kept r full some (omega arith))

module _ (found : ℕ → Found) (reach : ℕ → ℕ) (k : ℕ) where
  -- what hangs below a record that is passed over lies further than the worst kept
  pub passed_far : (v : ℕ) (below : Forest) (kept : List Found) → Reached found reach v below
      → passes found reach k v kept ≡ true → Each (λ u. worst k kept < (found u).distance) below
  passed_far v below kept reaching p u m = omega (arith, ((tells_passes found reach k v kept).yes p).1, reaching u m)

  module _ (some : 1 ≤ k) where
    -- so offering it changes nothing
    passed_offers : (v : ℕ) (below : Forest) (kept : List Found) → Keeping k kept → Reached found reach v below
        → passes found reach k v kept ≡ true → offers rank k (map found (nodes below)) kept ≡ kept
    passed_offers v below kept r reaching p =
        offers_beyond rank k (map found (nodes below)) kept full
        (λ f g m n. behind_worst some r full f (far f (Memᴰ.of_map found (nodes below) m)) g n)
      where
        full : length kept ≡ k
        full = ((tells_passes found reach k v kept).yes p).0

        far : (f : Found) → (u : ℕ) × Memᴰ u (nodes below) × (found u ≡ f) → worst k kept < f.distance
        far f w = rw (← w.2) (passed_far v below kept reaching p w.0 w.1)

    all_offered : (forest : Forest) (kept : List Found) → Reaching found reach forest → CodedIn found forest → Keeping k kept
        → walk found reach k forest kept ≡ offers rank k (map found (nodes forest)) kept
    unfolding walk nodes
    all_offered none kept reaching codes r = sym (offers_none rank k kept)
    all_offered (grow v below behind) kept (Under.over reaching inside outside) codes r =
        let now = offered rank k (found v) kept in
        let codes' = each_below v below behind codes in
        let r' : Keeping k now = keeping_offered (found v) (each_here v below behind codes) r in
        let e = all_offered below now inside codes' r' in
        ap (walk found reach k behind) (either now r' e (passes found reach k v now) refl)
        ∙ all_offered behind (walk found reach k below now) outside (each_behind v below behind codes) (keeping_walk found reach k below now codes' r')
        ∙ ap (offers rank k (map found (nodes behind))) e
        ∙ sym (offers_append rank k (map found (nodes below)) (map found (nodes behind)) now)
        ∙ ap (λ (fs : List Found). offers rank k fs now) (sym (map-append found (nodes below) (nodes behind)))
        ∙ sym (offers_next rank k (found v) (map found (nodes below ++ nodes behind)) kept)
      where
        -- passed over or walked, the records below leave the same list
        either : (kept : List Found) → Keeping k kept → walk found reach k below kept ≡ offers rank k (map found (nodes below)) kept
            → (t : Bool) → passes found reach k v kept ≡ t → cond t kept (walk found reach k below kept) ≡ walk found reach k below kept
        either kept r e true p = sym (passed_offers v below kept r reaching p) ∙ sym e
        either kept r e false p = refl

-- passing over loses nothing
pub walk_offers : (found : ℕ → Found) (reach : ℕ → ℕ) (k : ℕ) {forest : Forest} (kept : List Found)
    → Reaching found reach forest → Coded (map found (nodes forest)) → Ascending rank kept → length kept ≤ k → Coded kept → 1 ≤ k
    → walk found reach k forest kept ≡ offers rank k (map found (nodes forest)) kept
walk_offers found reach k {forest} kept reaching coded up room coded' some =
    all_offered found reach k some forest kept reaching (coded_in found forest coded) (record { ascends = up; room = room; coded = coded' })

pub walk_first : (found : ℕ → Found) (reach : ℕ → ℕ) (k : ℕ) {forest : Forest}
    → Reaching found reach forest → Coded (map found (nodes forest)) → 1 ≤ k
    → walk found reach k forest [] ≡ first_k rank k (map found (nodes forest))
walk_first found reach k {forest} reaching coded some =
    let none = keeping_none k in
    walk_offers found reach k [] reaching coded none.ascends none.room none.coded some ∙ offers_first rank k (map found (nodes forest))
