-- The checks, and then the value. Assumes nothing.
use Rattle.std.proofs.Common.{rules, sym, ap, subst, ◌≡◌, ◌∙◌, Err}
use Rattle.pack.specs.Refusals.{replied}
use Rattle.chart.specs.Promises.{Asked}
use Rattle.chart.specs.Laws.Checks.{counted}
use Rattle.chart.proofs.QueryCall.{ask_unread, ask_chart, ask_lent, ask_look, ask_value}
use Rattle.chart.proofs.query.query.Goals as goal

pub returns-in_err-p : goal.returns-in_err-p
returns-in_err-p c =
    let handed : c.from_residual.result ≡ Err c.in_err-p.field-0.0 = search rules in
    subst (Asked c.args.pack.now c.args.chart.now c.args.chain.now c.args.fluent c.args.work.now c.args.work.now) (sym handed)
    (ask_unread c.args.pack.now c.args.chart.now c.args.chain.now c.args.fluent c.args.work.now c.in_err-p.field-0.0 c.in_err-p.ensures.read)

pub returns-in_err-nodes : goal.returns-in_err-nodes
returns-in_err-nodes c =
    let nodes : counted c.in_ok-p.p c.args.chart.now ≡ replied c.check_chart.result = rw (c.dimensions.ensures.0, c.dimensions.ensures.1) at c.check_chart.ensures in
    let handed : c.from_residual-in_err-nodes.result ≡ Err c.in_err-nodes.field-0.0 = search rules in
    subst (Asked c.args.pack.now c.args.chart.now c.args.chain.now c.args.fluent c.args.work.now c.args.work.now) (sym handed)
    (ask_chart c.args.pack.now c.args.chart.now c.args.chain.now c.args.fluent c.args.work.now c.in_ok-p.ensures.read c.in_err-nodes.field-0.0 (nodes ∙ ap replied c.in_err-nodes.was))

pub returns-in_err-check_lent : goal.returns-in_err-check_lent
returns-in_err-check_lent c =
    let nodes : counted c.in_ok-p.p c.args.chart.now ≡ replied c.check_chart.result = rw (c.dimensions.ensures.0, c.dimensions.ensures.1) at c.check_chart.ensures in
    let handed : c.from_residual-in_err-check_lent.result ≡ Err c.in_err-check_lent.field-0.0 = search rules in
    subst (Asked c.args.pack.now c.args.chart.now c.args.chain.now c.args.fluent c.args.work.now c.args.work.now) (sym handed)
    (ask_lent c.args.pack.now c.args.chart.now c.args.chain.now c.args.fluent c.args.work.now c.in_ok-p.ensures.read c.chain_there-there.result c.chain_there-there.ensures c.in_ok-nodes.nodes (nodes ∙ ap replied c.in_ok-nodes.was) c.check_lent.result c.check_lent.ensures c.in_err-check_lent.field-0.0 c.in_err-check_lent.was)

pub look-value-requires : goal.look-value-requires
look-value-requires c =
    let nodes : counted c.in_ok-p.p c.args.chart.now ≡ replied c.check_chart.result = rw (c.dimensions.ensures.0, c.dimensions.ensures.1) at c.check_chart.ensures in
    ask_look c.args.pack.now c.args.chart.now c.args.chain.now c.args.fluent c.args.work.now c.in_ok-p.ensures.read c.chain_there-there.result c.chain_there-there.ensures c.in_ok-nodes.nodes (nodes ∙ ap replied c.in_ok-nodes.was) c.check_lent.result c.check_lent.ensures c.in_ok-check_lent.was

pub returns : goal.returns
returns c =
    let nodes : counted c.in_ok-p.p c.args.chart.now ≡ replied c.check_chart.result = rw (c.dimensions.ensures.0, c.dimensions.ensures.1) at c.check_chart.ensures in
    ask_value c.args.pack.now c.args.chart.now c.args.chain.now c.args.fluent c.args.work.now c.in_ok-p.ensures.read c.chain_there-there.result c.chain_there-there.ensures c.in_ok-nodes.nodes (nodes ∙ ap replied c.in_ok-nodes.was) c.check_lent.result c.check_lent.ensures c.in_ok-check_lent.was _ _ c.look-value.ensures
