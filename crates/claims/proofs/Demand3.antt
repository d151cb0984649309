-- Demand 3, proved: one filing form for each set of strains, accepted, and with the same answers. Assumes nothing.
use Rattle.std.specs.Prelude.{Ok}
use mathlib.Core.Path.{◌≡◌, sym, ◌∙◌, ap}
use mathlib.Core.List.{List}
use Prim.Native.Nat.{ℕ, ◌≤◌}
use lib.ListN.{length}
use Rattle.image.specs.Library.{Library}
use Rattle.image.specs.Answer.{given}
use Rattle.image.proofs.Outcomes.{gave}
use Rattle.content.proofs.Filing.{file_accepted, file_length, file_only_by_set, file_twice}
use Rattle.build.specs.Calls.{file_of}
use Rattle.build.proofs.Passed.{file_passed}
use Rattle.build.proofs.Theorems.{file_is}
use Rattle.image.proofs.Answers.{one_answer}
use Rattle.search.specs.Answer.{strains_in}
use Rattle.search.proofs.Answers as search
use Rattle.search.proofs.Theorems.{filing_same_answers, filing_same_within}
use Rattle.short.specs.Short.{refusal_number}
use Rattle.short.proofs.Theorems.{filing_same_short}
use Rattle.claims.specs.Demand3.{Demand3}
use Rattle.claims.proofs.Parts.{answer_is, told_is, codes_are, distances_are}

-- only an accepted library is filed, where there is room
filed_only : (image buffer : List ℕ) {n : ℕ} → (file_of image buffer).answer ≡ given n → Library image × (length image ≤ length buffer)
unfolding file_of
filed_only image buffer {n} e = file_passed image (length buffer) (gave _ _ buffer n e).verdict

pub demand_3 : Demand3
demand_3 = record {
  given = λ image buffer b l h e. one_answer _ (Ok (length image)) _ _ _ e (sym (file_is image buffer b l h));
  only = λ image buffer e. filed_only image buffer (sym (answer_is e));
  accepted = λ image b l. (file_accepted image b l, file_length image b l);
  equal = λ xs ys bx by lx ly. file_only_by_set xs ys bx by lx ly;
  twice = λ image b l. file_twice image b l;
  sitting = λ image b l plates k codes distances p q. search.one_answer image plates k codes distances p (q ∙ sym (filing_same_answers image b l plates k codes distances));
  within = λ image b l plate radius codes distances r s p q.
      let same = filing_same_within image b l plate radius codes distances in (
        ap strains_in (told_is p) ∙ same.answer ∙ sym (ap strains_in (told_is q)),
        codes_are p ∙ same.codes ∙ sym (codes_are q),
        distances_are p ∙ same.distances ∙ sym (distances_are q),
      );
  short = λ image b l plate out p q.
      let same = filing_same_short image b l plate out in
      (p.is_number ∙ ap (λ o. refusal_number o.answer) same ∙ sym q.is_number, p.is_out ∙ ap (λ o. o.buffer) same ∙ sym q.is_out);
}
