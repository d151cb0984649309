-- The verdict of a list, from what was found on the way, and what it tells of what is printed. Assumes nothing.
use Rattle.std.specs.Prelude.{Err, Ok}
use mathlib.Core.Path.{◌≡◌, refl, sym, ◌∙◌, ap}
use mathlib.Core.List.{List, ◌++◌}
use Prim.Native.Nat.{ℕ, ◌≤◌, ◌<◌}
use native.Mathlib.Omega.{arith}
use lib.ListN.{length, drop}
use borrow.Author.Tests.{lt-ltb, le-ltb}
use Rattle.image.specs.declared.refusal.Place.{Place}
use Rattle.image.specs.declared.refusal.Refusal.{Refusal}
use Rattle.image.specs.Refusals.{number_of}
use Rattle.image.specs.Verdict.{Verdict, accepted, refused, judge}
use Rattle.image.specs.Answer.{outcome, handed}
use Rattle.image.proofs.Verdicts.{hit, pass, accepted_none, judge_on, judge_stops}
use Rattle.checker.specs.Check.{check_rules, check_of}
use Rattle.text.specs.Listing.{listing, refused_line}
use Rattle.text.specs.Calls.{list_rules, list_of, printed_by, printed}

module _ (xs : List ℕ) (room : ℕ) where
  pub list_image : (m : ℕ) (p : Place) → refused m p ≡ check_of xs → judge (list_rules xs room) ≡ refused m p
  unfolding list_rules check_of
  list_image m p e = judge_stops (check_rules xs) _ _ _ (sym e)

  module _ (e : accepted ≡ check_of xs) where
    pub list_room : room < 147456 → judge (list_rules xs room) ≡ refused 16 Place.None
    unfolding list_rules check_of
    list_room h = judge_on (check_rules xs) _ (sym e) ∙ sym (hit _ _ _ _ (lt-ltb _ _ h) refl)

    pub list_passes : 147456 ≤ room → judge (list_rules xs room) ≡ accepted
    unfolding list_rules check_of
    list_passes h = judge_on (check_rules xs) _ (sym e) ∙ sym (pass _ _ _ _ (le-ltb _ _ h) accepted_none)

  -- in a room that is long enough the verdict is the check's
  pub enough_room : 147456 ≤ room → judge (list_rules xs room) ≡ check_of xs
  enough_room h = go (check_of xs) refl
    where
      go : (v : Verdict) → check_of xs ≡ v → judge (list_rules xs room) ≡ v
      go accepted e = list_passes (sym e) h
      go (refused m p) e = list_image m p (sym e)

-- ---- what is printed

module _ (xs page now : List ℕ) where
  listed_by : (v : Verdict) (n : ℕ) → handed (Ok n) now ≡ outcome v (listing xs) page → (n ≡ length (printed_by v xs)) × (now ≡ printed_by v xs ++ drop n page)
  unfolding outcome printed_by
  listed_by accepted n e =
      let long : n ≡ length (listing xs) = cc (ap (λ o. o.answer) e) in
      (long, rw long (ap (λ o. o.buffer) e))
  listed_by (refused m p) n e = let z : ◌≡◌ {A = ℕ} 0 1 = cc (ap (λ o. o.answer) e) in absurd (omega arith)

  refused_by : (v : Verdict) (r : Refusal) → handed (Err r) now ≡ outcome v (listing xs) page → (printed_by v xs ≡ refused_line (number_of r)) × (now ≡ page)
  unfolding outcome printed_by
  refused_by accepted r e = let z : ◌≡◌ {A = ℕ} 0 1 = cc (ap (λ o. o.answer) e) in absurd (omega arith)
  refused_by (refused m p) r e = let same : m ≡ number_of r = cc (ap (λ o. o.answer) e) in (ap refused_line same, ap (λ o. o.buffer) e)

  module _ (h : 147456 ≤ length page) where
    -- a list that gives a length wrote what is printed
    pub printed_listed : (n : ℕ) → handed (Ok n) now ≡ list_of xs page → (n ≡ length (printed xs)) × (now ≡ printed xs ++ drop n page)
    unfolding list_of printed
    printed_listed n e = listed_by (check_of xs) n (rw (enough_room xs (length page) h) at e)

    -- of one that is refused the number is printed
    pub printed_refused : (r : Refusal) → handed (Err r) now ≡ list_of xs page → (printed xs ≡ refused_line (number_of r)) × (now ≡ page)
    unfolding list_of printed
    printed_refused r e = refused_by (check_of xs) r (rw (enough_room xs (length page) h) at e)
