-- The running list: its bound, what an offer makes of it, and what its fields hold then. Assumes nothing.
use mathlib.Core.Path.{◌≡◌, refl, sym, ap, ◌∙◌}
use mathlib.Core.Bool.{true, false, cond, ◌||◌}
use mathlib.Core.List.{List, [], ◌∷◌, ◌++◌, Memᴰ}
use Prim.Native.Nat.{ℕ, zero, suc, min, ◌+◌, ◌-◌, ◌≤◌, ◌<◌}
use native.Mathlib.Omega.{arith}
use lib.ListN.{length, get_or, take, drop, set, replicate, length-drop}
use lib.Seq.{take_all, take-suc, take-take, take-set-le, take-add, take_at, drop_at, get_or-take, length-take-le}
use lib.Dec.{ltb}
use borrow.Author.Tests.{ltb-true, ltb-false, lt-ltb, le-ltb, eq-eqb, ne_eqb}
use Rattle.std.proofs.lemmas.List.{length-append, drop-drop, drop-replicate, take-replicate}
use Rattle.ranking.specs.Sort.{itself, insert}
use Rattle.ranking.specs.Order.{Ascending}
use Rattle.ranking.specs.Found.{distance_of}
use Rattle.ranking.specs.First.{offered}
use Rattle.ranking.specs.Best.{enters_in, bound_of, places_of, Holds}
use Rattle.ranking.specs.declared.best.Best.TheInside.{Inside}
use Rattle.ranking.proofs.Insert.{split, insert_length, insert_within, insert_ascending}
use Rattle.ranking.proofs.Order.{ascending_take}
use Rattle.ranking.proofs.Places.{get_or_mem}
use Rattle.ranking.proofs.Placed.{places_ascend}
use Rattle.ranking.proofs.First.{offered_beyond}
use Rattle.ranking.proofs.Shift.{put_at, put_set}
use Rattle.ranking.proofs.Fields.{fields_back}

-- ---- the bound

module _ (k : ℕ) (kept : List ℕ) where
  pub bound_room : length kept < k → bound_of k kept ≡ 4294967295
  unfolding bound_of
  bound_room h = rw (ne_eqb (length kept) k (λ e. omega arith))

  pub bound_full : length kept ≡ k → bound_of k kept ≡ distance_of (get_or kept (k - 1) 0)
  unfolding bound_of
  bound_full e = rw (eq-eqb (length kept) k e)

-- ---- an offer

-- where the last of a list in order is at most x, all are
below_last : (x : ℕ) {xs : List ℕ} → Ascending itself xs → get_or xs (length xs - 1) 0 ≤ x → (y : ℕ) → Memᴰ y xs → y ≤ x
below_last x {xs} up low y m =
    let p = get_or_mem 0 m in
    omega (arith, p.1, p.2, low, places_ascend up p.0 (length xs - 1) 0 (omega (arith, p.1)) (omega (arith, p.1)))

-- a list that has room takes x in
offered_room : (k x : ℕ) (kept : List ℕ) → length kept < k → offered itself k x kept ≡ insert itself x kept
unfolding offered
offered_room k x kept h = take_all k (insert itself x kept) (omega (arith, insert_length itself x kept))

-- a full list takes x in for its last, if that is higher
offered_lower : (k x : ℕ) (kept : List ℕ) → 1 ≤ k → length kept ≡ k → x < get_or kept (k - 1) 0
    → offered itself k x kept ≡ insert itself x (take (k - 1) kept)
unfolding offered
offered_lower zero x kept some full low = absurd (omega arith)
offered_lower (suc n) x kept some full low =
    let e : suc n - 1 ≡ n = omega arith in
    let last = get_or kept n 0 in
    let front = take n kept in
    let whole : kept ≡ front ++ last ∷ [] = sym (take_all (suc n) kept (omega arith)) ∙ take-suc kept n 0 (omega arith) in
    let l : length (insert itself x front) ≡ suc n = insert_length itself x front ∙ ap suc (length-take-le n kept (omega arith)) in
    rw e
    (ap (λ (ks : List ℕ). take (suc n) (insert itself x ks)) whole
    ∙ ap (take (suc n)) (insert_within itself x last front [] (rw e at low))
    ∙ take_at (insert itself x front) (last ∷ []) (suc n) l)

module _ (k x : ℕ) (kept : List ℕ) (some : 1 ≤ k) (room : length kept ≤ k) where
  -- a rank that enters goes in among the first k - 1
  offered_in : enters_in k kept x ≡ true → offered itself k x kept ≡ insert itself x (take (min k (length kept + 1) - 1) kept)
  offered_in e = split (length kept) k spare full
    where
      spare : length kept < k → offered itself k x kept ≡ insert itself x (take (min k (length kept + 1) - 1) kept)
      spare h = offered_room k x kept h ∙ ap (insert itself x) (sym (take_all (min k (length kept + 1) - 1) kept (omega arith)))

      full : k ≤ length kept → offered itself k x kept ≡ insert itself x (take (min k (length kept + 1) - 1) kept)
      full h =
          let q : min k (length kept + 1) - 1 ≡ k - 1 = omega arith in
          let low : x < get_or kept (k - 1) 0 = ltb-true x (get_or kept (k - 1) 0) (rw (le-ltb (length kept) k h) at e) in
          rw q (offered_lower k x kept some (omega arith) low)

  -- a rank that does not enter changes nothing
  offered_out : Ascending itself kept → enters_in k kept x ≡ false → offered itself k x kept ≡ kept
  offered_out up e = split (length kept) k (λ h. absurd (spare h)) full
    where
      spare : length kept < k → ⊥
      spare h = let z : ◌≡◌ true false = rw (lt-ltb (length kept) k h) at e in cc

      full : k ≤ length kept → offered itself k x kept ≡ kept
      full h =
          let q : k - 1 ≡ length kept - 1 = omega arith in
          let low : get_or kept (k - 1) 0 ≤ x = ltb-false x (get_or kept (k - 1) 0) (rw (le-ltb (length kept) k h) at e) in
          offered_beyond itself k x kept (omega arith) (below_last x up (rw q at low))

-- ---- the fields

module _ {b : Inside} (v : Holds b) (long : length b.ranks ≡ 32) where
  abbrev kept : List ℕ
  kept = take b.held b.ranks

  kept_length : length kept ≡ b.held
  kept_length = length-take-le b.held b.ranks (omega (arith, v.room, v.most))

  -- 0 stands behind the list
  behind : (i : ℕ) → b.held ≤ i → drop i b.ranks ≡ replicate (32 - i) 0
  behind i h =
      let e : b.held + (i - b.held) ≡ i = omega arith in
      let f : 32 - b.held - (i - b.held) ≡ 32 - i = omega arith in
      sym (rw (v.zeros, drop-replicate, f, e) at (drop-drop (i - b.held) b.held b.ranks))

  pub places_are : take b.asked b.ranks ≡ places_of b.asked kept
  places_are =
      let e : b.held + (b.asked - b.held) ≡ b.asked = omega (arith, v.room) in
      let zeros = take-replicate {X = ℕ} (b.asked - b.held) (32 - b.held) 0 (omega (arith, v.most)) in
      rw kept_length (rw (e, v.zeros, zeros) at (take-add b.held (b.asked - b.held) b.ranks))

  bound_open : b.held < b.asked → 4294967295 ≡ bound_of b.asked kept
  bound_open h = sym (bound_room b.asked kept (omega (arith, kept_length)))

  bound_last : b.asked ≤ b.held → distance_of (get_or b.ranks (b.asked - 1) 0) ≡ bound_of b.asked kept
  bound_last h =
      ap distance_of (sym (get_or-take b.held b.ranks (b.asked - 1) 0 (omega (arith, v.some))))
      ∙ sym (bound_full b.asked kept (omega (arith, kept_length, v.room)))

  -- the bound, by what the fields hold
  pub bound_is : cond (ltb b.held b.asked) 4294967295 (distance_of (get_or b.ranks (b.asked - 1) 0)) ≡ bound_of b.asked kept
  bound_is = split b.held b.asked (λ h. rw (lt-ltb b.held b.asked h) (bound_open h)) (λ h. rw (le-ltb b.held b.asked h) (bound_last h))

  -- a rank is offered, and n places hold one then
  module _ (x : ℕ) {n : ℕ} (is : n ≡ min b.asked (b.held + 1)) where
    few : (n ≤ 32) × (1 ≤ n) × (n ≤ b.held + 1)
    few = (omega (arith, v.most), omega (arith, v.some), omega arith)

    front_is : take (n - 1) b.ranks ≡ take (n - 1) kept
    front_is = sym (take-take (n - 1) b.held b.ranks (omega (arith, few.2)))

    -- the rank is stored behind the others
    pub front_ascending : Ascending itself (take (n - 1) (set b.ranks (n - 1) x))
    front_ascending = rw (take-set-le (n - 1) b.ranks (n - 1) x (omega arith), front_is) (ascending_take (n - 1) v.ascending)

    abbrev part : List ℕ
    part = insert itself x (take (n - 1) kept)

    part_length : length part ≡ n
    part_length =
        insert_length itself x (take (n - 1) kept)
        ∙ ap suc (length-take-le (n - 1) kept (omega (arith, few.2, kept_length)))
        ∙ omega (arith, few.1)

    front : take n (part ++ drop n b.ranks) ≡ part
    front = take_at part (drop n b.ranks) n part_length

    part_zeros : drop n (part ++ drop n b.ranks) ≡ replicate (32 - n) 0
    part_zeros = drop_at part (drop n b.ranks) n part_length ∙ behind n (omega (arith, v.room))

    part_long : length (part ++ drop n b.ranks) ≡ 32
    part_long = length-append part (drop n b.ranks) ∙ omega (arith, part_length, length-drop n b.ranks, few.0, long)

    part_holds : Holds (record { ranks = part ++ drop n b.ranks; held = n; asked = b.asked })
    part_holds = record {
      form = fields_back (omega (arith, few.0)) part_long part_zeros;
      some = v.some;
      most = v.most;
      room = omega arith;
      ascending = rw front (insert_ascending itself x (ascending_take (n - 1) v.ascending));
      zeros = part_zeros;
    }

    -- and put in among them
    module _ {ranks : List ℕ} (put : ranks ≡ put_at (get_or (set b.ranks (n - 1) x) (n - 1) 0) (n - 1) (set b.ranks (n - 1) x)) where
      put_is : ranks ≡ part ++ drop n b.ranks
      put_is =
          let e : n - 1 + 1 ≡ n = omega (arith, few.1) in
          put ∙ put_set x (n - 1) b.ranks (omega (arith, few.0, few.1, long)) ∙ rw (front_is, e) refl

      pub offer_holds : Holds (record { ranks = ranks; held = n; asked = b.asked })
      offer_holds = rw put_is part_holds

      pub offer_takes : enters_in b.asked kept x ≡ true → take n ranks ≡ offered itself b.asked x kept
      offer_takes e =
          let q : min b.asked (length kept + 1) ≡ n = omega (arith, kept_length) in
          ap (take n) put_is ∙ front ∙ sym (rw q at (offered_in b.asked x kept v.some (omega (arith, kept_length, v.room)) e))

  pub offer_leaves : (x : ℕ) → enters_in b.asked kept x ≡ false → kept ≡ offered itself b.asked x kept
  offer_leaves x e = sym (offered_out b.asked x kept v.some (omega (arith, kept_length, v.room)) v.ascending e)

  -- the test, by what the fields hold
  pub enters_is : (x : ℕ) → (ltb b.held b.asked || ltb x (get_or b.ranks (b.asked - 1) 0)) ≡ enters_in b.asked kept x
  enters_is x =
      rw kept_length
      (split b.held b.asked (λ h. rw (lt-ltb b.held b.asked h) refl)
      (λ h. ap (λ (y : ℕ). ltb b.held b.asked || ltb x y) (sym (get_or-take b.held b.ranks (b.asked - 1) 0 (omega (arith, v.some))))))
