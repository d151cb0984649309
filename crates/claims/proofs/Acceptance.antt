-- Demand 2, acceptance: which libraries the check accepts, and what their trees are. Assumes nothing.
use Rattle.std.specs.Prelude.{Ok}
use mathlib.Core.Path.{◌∙◌}
use Rattle.tree.proofs.Root.{cover_tree}
use Rattle.tree.proofs.Separation.{pairs_of_sets}
use Rattle.image.proofs.Trees.{library_reach}
use Rattle.checker.proofs.Accepted.{accepted_exactly, if_accepted}
use Rattle.checker.proofs.Answers.{one_answer}
use Rattle.claims.specs.Demand2.{Acceptance}

pub acceptance : Acceptance
acceptance = record {
  exactly = λ image {r} e. (if_accepted image r e, λ l. one_answer r (Ok tt) (e ∙ (accepted_exactly image).1 l));
  conditions = λ image l. (λ t. (t.cover, pairs_of_sets t.separation), λ c. cover_tree (λ q h. h) l.root c.0 c.1);
  reaches = λ image l p k q h w. library_reach l p k q h w;
}
