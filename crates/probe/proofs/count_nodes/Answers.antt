-- A refused pack is the answer; under an accepted one the chart is read with the dimensions that were found. Assumes nothing.
use Rattle.std.proofs.Common.{rules, sym, subst, ◌≡◌, Err}
use Rattle.pack.specs.Refusals.{replied}
use Rattle.probe.proofs.Replies.{refused, accepted, count_read, count_refused}
use Rattle.probe.specs.Report.{chart_count}
use Rattle.probe.proofs.count_nodes.Goals as goal

pub returns-in_err-c : goal.returns-in_err-c
returns-in_err-c c =
    let handed : c.from_residual.result ≡ Err c.in_err-c.field-0.0 = search rules in
    subst (λ r. chart_count c.args.pack.now c.args.chart.now ≡ replied r) (sym handed)
    (count_refused _ _ _ _ (refused _ _ _ c.in_err-c.ensures.read))

pub returns : goal.returns
returns c =
    let e = rw (c.dimensions.ensures.0, c.dimensions.ensures.1) at c.check_chart.ensures in
    count_read _ _ _ (accepted _ _ _ c.in_ok-c.ensures.read) _ _ e
