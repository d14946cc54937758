-- The checks, and then the verdict. Assumes nothing.
use Rattle.std.proofs.Common.{rules, arith, sym, ap, refl, subst, ◌≡◌, ◌∙◌, Err}
use Rattle.pack.specs.Refusals.{replied}
use Rattle.chart.specs.Laws.Checks.{counted}
use Rattle.planner.specs.Promises.{Judgement}
use Rattle.planner.proofs.ExplainedCall.{judge_unread, judge_chart, judge_lent, judge_able, judge_done, judge_sizes, judge_ranges}
use Rattle.planner.proofs.verdict.verdict.Goals as goal

pub returns-in_err-p : goal.returns-in_err-p
returns-in_err-p c =
    let handed : c.from_residual.result ≡ Err c.in_err-p.field-0.0 = search rules in
    subst (Judgement c.args.pack.now c.args.chart.now c.args.character c.args.action c.args.k.0 c.args.e.0 c.args.work.now c.args.work.now) (sym handed)
    (judge_unread c.args.pack.now c.args.chart.now c.args.character c.args.action c.args.k.0 c.args.e.0 c.args.work.now c.in_err-p.field-0.0 c.in_err-p.ensures)

pub returns-in_err-nodes : goal.returns-in_err-nodes
returns-in_err-nodes c =
    let nodes : counted c.in_ok-p.p c.args.chart.now ≡ replied c.check_chart.result = rw (c.dimensions.ensures.0, c.dimensions.ensures.1) at c.check_chart.ensures in
    let handed : c.from_residual-in_err-nodes.result ≡ Err c.in_err-nodes.field-0.0 = search rules in
    subst (Judgement c.args.pack.now c.args.chart.now c.args.character c.args.action c.args.k.0 c.args.e.0 c.args.work.now c.args.work.now) (sym handed)
    (judge_chart c.args.pack.now c.args.chart.now c.args.character c.args.action c.args.k.0 c.args.e.0 c.args.work.now c.in_ok-p.ensures _ refl c.in_err-nodes.field-0.0 (nodes ∙ ap replied c.in_err-nodes.was))

pub returns-in_err-check_lent : goal.returns-in_err-check_lent
returns-in_err-check_lent c =
    let nodes : counted c.in_ok-p.p c.args.chart.now ≡ replied c.check_chart.result = rw (c.dimensions.ensures.0, c.dimensions.ensures.1) at c.check_chart.ensures in
    let handed : c.from_residual-in_err-check_lent.result ≡ Err c.in_err-check_lent.field-0.0 = search rules in
    subst (Judgement c.args.pack.now c.args.chart.now c.args.character c.args.action c.args.k.0 c.args.e.0 c.args.work.now c.args.work.now) (sym handed)
    (judge_lent c.args.pack.now c.args.chart.now c.args.character c.args.action c.args.k.0 c.args.e.0 c.args.work.now c.in_ok-p.ensures c.in_range-there.result c.in_range-there.ensures c.in_ok-nodes.nodes (nodes ∙ ap replied c.in_ok-nodes.was) c.check_lent.result c.check_lent.ensures c.in_err-check_lent.field-0.0 c.in_err-check_lent.was)

pub overflow_add-k : goal.overflow_add-k
overflow_add-k c =
    let nodes : counted c.in_ok-p.p c.args.chart.now ≡ replied c.check_chart.result = rw (c.dimensions.ensures.0, c.dimensions.ensures.1) at c.check_chart.ensures in
    let ranges = judge_ranges c.args.pack.now c.args.chart.now c.args.character c.args.action c.args.k.0 c.args.e.0 c.args.work.now c.in_ok-p.ensures c.in_range-there.result c.in_range-there.ensures c.in_ok-nodes.nodes (nodes ∙ ap replied c.in_ok-nodes.was) c.check_lent.result c.check_lent.ensures
    (λ i. omega (arith, c.type_inv.pack i)) (λ i. omega (arith, c.type_inv.chart i)) (omega (arith, c.read_pack.auto)) c.in_ok-check_lent.was in
    omega (arith, ranges)

pub overflow_mul-k : goal.overflow_mul-k
overflow_mul-k c =
    let nodes : counted c.in_ok-p.p c.args.chart.now ≡ replied c.check_chart.result = rw (c.dimensions.ensures.0, c.dimensions.ensures.1) at c.check_chart.ensures in
    let sizes = judge_sizes c.args.pack.now c.args.chart.now c.args.character c.args.action c.args.k.0 c.args.e.0 c.args.work.now c.in_ok-p.ensures c.in_range-there.result c.in_range-there.ensures c.in_ok-nodes.nodes (nodes ∙ ap replied c.in_ok-nodes.was) c.check_lent.result c.check_lent.ensures
    (λ i. omega (arith, c.type_inv.pack i)) (λ i. omega (arith, c.type_inv.chart i)) (omega (arith, c.read_pack.auto)) c.in_ok-check_lent.was in
    omega (arith, sizes)

pub overflow_add-k-2 : goal.overflow_add-k-2
overflow_add-k-2 c =
    let nodes : counted c.in_ok-p.p c.args.chart.now ≡ replied c.check_chart.result = rw (c.dimensions.ensures.0, c.dimensions.ensures.1) at c.check_chart.ensures in
    let sizes = judge_sizes c.args.pack.now c.args.chart.now c.args.character c.args.action c.args.k.0 c.args.e.0 c.args.work.now c.in_ok-p.ensures c.in_range-there.result c.in_range-there.ensures c.in_ok-nodes.nodes (nodes ∙ ap replied c.in_ok-nodes.was) c.check_lent.result c.check_lent.ensures
    (λ i. omega (arith, c.type_inv.pack i)) (λ i. omega (arith, c.type_inv.chart i)) (omega (arith, c.read_pack.auto)) c.in_ok-check_lent.was in
    omega (arith, sizes)

pub laid_out-context-requires : goal.laid_out-context-requires
laid_out-context-requires c =
    let nodes : counted c.in_ok-p.p c.args.chart.now ≡ replied c.check_chart.result = rw (c.dimensions.ensures.0, c.dimensions.ensures.1) at c.check_chart.ensures in
    judge_sizes c.args.pack.now c.args.chart.now c.args.character c.args.action c.args.k.0 c.args.e.0 c.args.work.now c.in_ok-p.ensures c.in_range-there.result c.in_range-there.ensures c.in_ok-nodes.nodes (nodes ∙ ap replied c.in_ok-nodes.was) c.check_lent.result c.check_lent.ensures
    (λ i. omega (arith, c.type_inv.pack i)) (λ i. omega (arith, c.type_inv.chart i)) (omega (arith, c.read_pack.auto)) c.in_ok-check_lent.was

pub verdict_in-verdict-requires : goal.verdict_in-verdict-requires
verdict_in-verdict-requires c =
    let nodes : counted c.in_ok-p.p c.args.chart.now ≡ replied c.check_chart.result = rw (c.dimensions.ensures.0, c.dimensions.ensures.1) at c.check_chart.ensures in
    judge_able c.args.pack.now c.args.chart.now c.args.character c.args.action c.args.k.0 c.args.e.0 c.args.work.now c.in_ok-p.ensures c.in_range-there.result c.in_range-there.ensures c.in_ok-nodes.nodes (nodes ∙ ap replied c.in_ok-nodes.was) c.check_lent.result c.check_lent.ensures
    (λ i. omega (arith, c.type_inv.pack i)) (λ i. omega (arith, c.type_inv.chart i)) (omega (arith, c.read_pack.auto)) c.in_ok-check_lent.was _ refl c.laid_out-context.result c.laid_out-context.ensures

pub returns : goal.returns
returns c =
    let nodes : counted c.in_ok-p.p c.args.chart.now ≡ replied c.check_chart.result = rw (c.dimensions.ensures.0, c.dimensions.ensures.1) at c.check_chart.ensures in
    judge_done c.args.pack.now c.args.chart.now c.args.character c.args.action c.args.k.0 c.args.e.0 c.args.work.now c.in_ok-p.ensures c.in_range-there.result c.in_range-there.ensures c.in_ok-nodes.nodes (nodes ∙ ap replied c.in_ok-nodes.was) c.check_lent.result c.check_lent.ensures
    (λ i. omega (arith, c.type_inv.pack i)) (λ i. omega (arith, c.type_inv.chart i)) (omega (arith, c.read_pack.auto)) c.in_ok-check_lent.was _ refl c.laid_out-context.result c.laid_out-context.ensures _ _ c.verdict_in-verdict.ensures
