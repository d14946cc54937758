-- The checks, and then the step. Assumes nothing.
use Rattle.std.proofs.Common.{rules, arith, sym, ap, subst, ◌≡◌, ◌∙◌, Err}
use Rattle.pack.specs.Refusals.{replied}
use Rattle.chart.specs.Laws.Checks.{counted}
use Rattle.transition.specs.Promises.{Stepped}
use Rattle.transition.proofs.StepCall.{step_unread, step_chart, step_lent, step_able, step_done}
use Rattle.transition.proofs.play.step.Goals as goal

pub returns-in_err-p : goal.returns-in_err-p
returns-in_err-p c =
    let handed : c.from_residual.result ≡ Err c.in_err-p.field-0.0 = search rules in
    subst (Stepped c.args.pack.now c.args.chart.now c.args.action c.args.out.now c.args.work.now c.args.out.now c.args.work.now) (sym handed)
    (step_unread c.args.pack.now c.args.chart.now c.args.action c.args.out.now c.args.work.now c.in_err-p.field-0.0 c.in_err-p.ensures)

pub returns-in_err-nodes : goal.returns-in_err-nodes
returns-in_err-nodes c =
    let nodes : counted c.in_ok-p.p c.args.chart.now ≡ replied c.check_chart.result = rw (c.dimensions.ensures.0, c.dimensions.ensures.1) at c.check_chart.ensures in
    let handed : c.from_residual-in_err-nodes.result ≡ Err c.in_err-nodes.field-0.0 = search rules in
    subst (Stepped c.args.pack.now c.args.chart.now c.args.action c.args.out.now c.args.work.now c.args.out.now c.args.work.now) (sym handed)
    (step_chart c.args.pack.now c.args.chart.now c.args.action c.args.out.now c.args.work.now c.in_ok-p.ensures c.in_err-nodes.field-0.0 (nodes ∙ ap replied c.in_err-nodes.was))

pub returns-in_err-check_lent : goal.returns-in_err-check_lent
returns-in_err-check_lent c =
    let nodes : counted c.in_ok-p.p c.args.chart.now ≡ replied c.check_chart.result = rw (c.dimensions.ensures.0, c.dimensions.ensures.1) at c.check_chart.ensures in
    let handed : c.from_residual-in_err-check_lent.result ≡ Err c.in_err-check_lent.field-0.0 = search rules in
    subst (Stepped c.args.pack.now c.args.chart.now c.args.action c.args.out.now c.args.work.now c.args.out.now c.args.work.now) (sym handed)
    (step_lent c.args.pack.now c.args.chart.now c.args.action c.args.out.now c.args.work.now c.in_ok-p.ensures c.in_ok-nodes.nodes (nodes ∙ ap replied c.in_ok-nodes.was) c.both_at_most-enough.result c.both_at_most-enough.ensures c.check_lent.result c.check_lent.ensures c.in_err-check_lent.field-0.0 c.in_err-check_lent.was)

pub play-requires : goal.play-requires
play-requires c =
    let nodes : counted c.in_ok-p.p c.args.chart.now ≡ replied c.check_chart.result = rw (c.dimensions.ensures.0, c.dimensions.ensures.1) at c.check_chart.ensures in
    step_able c.args.pack.now c.args.chart.now c.args.action c.args.out.now c.args.work.now c.in_ok-p.ensures c.in_ok-nodes.nodes (nodes ∙ ap replied c.in_ok-nodes.was) c.both_at_most-enough.result c.both_at_most-enough.ensures c.check_lent.result c.check_lent.ensures
    (λ i. omega (arith, c.type_inv.pack i)) (λ i. omega (arith, c.type_inv.chart i)) (omega (arith, c.read_pack.auto)) c.in_ok-check_lent.was

pub returns : goal.returns
returns c =
    let nodes : counted c.in_ok-p.p c.args.chart.now ≡ replied c.check_chart.result = rw (c.dimensions.ensures.0, c.dimensions.ensures.1) at c.check_chart.ensures in
    step_done c.args.pack.now c.args.chart.now c.args.action c.args.out.now c.args.work.now c.in_ok-p.ensures c.in_ok-nodes.nodes (nodes ∙ ap replied c.in_ok-nodes.was) c.both_at_most-enough.result c.both_at_most-enough.ensures c.check_lent.result c.check_lent.ensures
    (λ i. omega (arith, c.type_inv.pack i)) (λ i. omega (arith, c.type_inv.chart i)) (omega (arith, c.read_pack.auto)) c.in_ok-check_lent.was _ _ _ c.play.ensures
