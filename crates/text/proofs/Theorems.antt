-- What those who list libraries may rely on. Assumes nothing.
use mathlib.Core.Path.{◌≡◌, refl, sym, ◌∙◌, ap}
use mathlib.Core.Logic.{inr}
use mathlib.Core.List.{List, ◌++◌}
use Prim.Native.Nat.{ℕ, ◌≤◌, ◌<◌}
use native.Mathlib.Omega.{arith}
use lib.ListN.{length, take, drop, length-take}
use lib.Seq.{take_all}
use borrow.Author.Tests.{ltb-false}
use Rattle.ranking.proofs.Insert.{split}
use Rattle.image.specs.declared.refusal.Place.{Place}
use Rattle.image.specs.Library.{Library}
use Rattle.image.specs.Verdict.{Verdict, accepted, refused}
use Rattle.image.specs.Answer.{given, denied, outcome}
use Rattle.image.proofs.Outcomes.{gave, denies}
use Rattle.image.proofs.Tests.{told_true}
use Rattle.image.proofs.Verdicts.{hit, past, when_none, judge_both}
use Rattle.checker.specs.Check.{check_rules, check_of}
use Rattle.checker.proofs.Table.{tells_outside}
use Rattle.checker.proofs.Accepted.{accepted_exactly}
use Rattle.content.specs.Bytes.{Bytes}
use Rattle.text.specs.Listing.{listing, refused_line}
use Rattle.text.specs.Calls.{list_rules, list_of, printed_by, printed}
use Rattle.text.proofs.Fits.{listing_fits, refused_fits}
use Rattle.text.proofs.Calls.{list_passes, enough_room}

-- ---- list

module _ (xs room : List ℕ) where
  -- a library is listed in a room that is long enough: the listing stands in front, and the rest is as it was
  pub listed_tells : Library xs → 147456 ≤ length room
      → list_of xs room ≡ record { answer = given (length (listing xs)); buffer = listing xs ++ drop (length (listing xs)) room }
  unfolding list_of outcome
  listed_tells l h = rw (list_passes xs (length room) (sym ((accepted_exactly xs).1 l)) h) refl

  -- and nothing else is
  pub listed_only : (n : ℕ) → (list_of xs room).answer ≡ given n → Library xs × (147456 ≤ length room)
  unfolding list_of list_rules check_of
  listed_only n e =
      let parts = judge_both (check_rules xs) _ (gave _ _ _ n e).verdict in
      ((accepted_exactly xs).0 parts.0, ltb-false _ _ (when_none _ (past _ _ _ parts.1).0))

-- ---- what is printed

pub printed_listing : (xs : List ℕ) → Library xs → printed xs ≡ listing xs
unfolding printed printed_by
printed_listing xs l = rw ((accepted_exactly xs).1 l) refl

pub printed_refusal : (xs : List ℕ) (m : ℕ) (p : Place) → check_of xs ≡ refused m p → printed xs ≡ refused_line m
unfolding printed printed_by
printed_refusal xs m p e = rw e refl

-- it fits its page
pub page_fits : (xs : List ℕ) → Bytes xs → length (printed xs) ≤ 147456
page_fits xs b = go (check_of xs) refl
  where
    go : (v : Verdict) → check_of xs ≡ v → length (printed xs) ≤ 147456
    go accepted e = let l = (accepted_exactly xs).0 e in rw (printed_listing xs l) (listing_fits b l)
    go (refused m p) e = rw (printed_refusal xs m p e) (omega (arith, refused_fits m))

-- what is longer than an image may be is refused, and so is its front of one byte more: the program need read no more than that
too_long : (xs : List ℕ) → 40976 < length xs → printed xs ≡ refused_line 1
unfolding check_of check_rules
too_long xs h = printed_refusal xs 1 Place.None (sym (hit _ _ _ _ (told_true (tells_outside 16 40976 (length xs)) (inr h)) refl))

pub printed_front : (xs : List ℕ) → printed (take 40977 xs) ≡ printed xs
printed_front xs =
    split 40976 (length xs)
    (λ h. too_long (take 40977 xs) (omega (arith, length-take 40977 xs)) ∙ sym (too_long xs h))
    (λ h. ap printed (take_all 40977 xs (omega arith)))

-- list and print agree
module _ (xs room : List ℕ) where
  pub listed_printed : (n : ℕ) → (list_of xs room).answer ≡ given n → list_of xs room ≡ record { answer = given (length (printed xs)); buffer = printed xs ++ drop (length (printed xs)) room }
  listed_printed n e = let good = listed_only xs room n e in rw (printed_listing xs good.0) (listed_tells xs room good.0 good.1)

  pub refused_printed : 147456 ≤ length room → (m : ℕ) (p : Place) → (list_of xs room).answer ≡ denied m p → printed xs ≡ refused_line m
  unfolding list_of
  refused_printed h m p e = printed_refusal xs m p (sym (enough_room xs (length room) h) ∙ denies _ _ _ m p e)
