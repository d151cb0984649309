-- `passage::Passage::onward` meets its contract. Assumes nothing.
use mathlib.Core.Path.{◌≡◌, ap, ◌∙◌}
use mir.Syntax.{w32}
use mir.ValLaws.{to_z-of_z}
use borrow.Author.Rules.{rules}
use Rattle.profile.specs.Level.{cover_limit}
use Rattle.image.specs.Fields.{level_at}
use Rattle.walk.proofs.Steps.{goes_in, goes_past}
use Rattle.walk.proofs.passage.Passage.onward.Goals as goal
use Rattle.walk.proofs.passage.Passage.onward.Goals.{After-cover_limit}

-- the limit is that of the record's level
limit : (c : After-cover_limit) → c.cover_limit.result ≡ cover_limit (level_at c.args.self.now.walk.library.records.image.now c.args.step.node)
limit c =
    c.cover_limit.ensures.0
    ∙ ap cover_limit (to_z-of_z w32 c.level-level.result (search rules) ∙ c.level-level.ensures ∙ ap (level_at _) c.from.ensures)

pub returns-then-more-cover_limit : goal.returns-then-more-cover_limit
returns-then-more-cover_limit c = goes_in _ _ _ _ _ _ (limit (goal.at.returns-then-more-cover_limit c).After-cover_limit) (search rules)

pub returns-else-more-cover_limit : goal.returns-else-more-cover_limit
returns-else-more-cover_limit c =
    c.from-else-more-cover_limit.ensures
    ∙ goes_past _ _ _ _ _ _ (limit (goal.at.returns-else-more-cover_limit c).After-cover_limit) (search rules)
