-- How the answers of `kwb_pair_row` follow. Assumes nothing.
use mathlib.Core.Path.{◌≡◌, ◌∙◌}
use native.Mathlib.Omega.{arith}
use borrow.Author.Rules.{rules}
use Rattle.profile.specs.Bytes.{wells_at}
use Rattle.profile.specs.Metric.{metric_number}
use Rattle.profile.proofs.Reading.{wells_length}
use Rattle.profile.proofs.Distances.{distance_symmetric, distance_other}
use Rattle.bench.specs.Row.{first_under}
use Rattle.bench.proofs.Rows.{row, same_row}
use Rattle.bench.proofs.kwb_pair_row.Goals as goal

pub written_out-requires : goal.written_out-requires
written_out-requires c = (omega arith, wells_length _ _ _, omega arith)

pub returns-in-Ok : goal.returns-in-Ok
returns-in-Ok c =
    let a = c.args in
    let other_way : c.written_out.result ≡ first_under (row (metric_number c.in-Ok.metric) a.image.now a.from a.wells (wells_at a.image.now a.at a.wells)) a.limit 0 a.count
    = search rules in
    rw (← c.in-Ok.ensures) (other_way ∙ same_row _ _ _ _ _ (λ j. distance_symmetric _ _ _))

pub returns-in-Err : goal.returns-in-Err
returns-in-Err c = c.no_metric_row.ensures ∙ same_row _ _ _ _ _ (λ j. distance_other _ _ _ c.in-Err.ensures.1 c.in-Err.ensures.2)
