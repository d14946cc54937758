-- The checks, and then the verdict. Assumes nothing.
use Rattle.std.proofs.Common.{rules, sym, ap, subst, ◌≡◌, ◌∙◌, Err}
use Rattle.pack.specs.Refusals.{replied}
use Rattle.chart.specs.Promises.{Comparison}
use Rattle.chart.specs.Laws.Checks.{counted}
use Rattle.chart.proofs.CompareCall.{compare_unread, compare_first, compare_second, compare_lent, compare_ready, compare_done}
use Rattle.chart.proofs.compare.compare.Goals as goal

pub returns-in_err-p : goal.returns-in_err-p
returns-in_err-p c =
    let handed : c.from_residual.result ≡ Err c.in_err-p.field-0.0 = search rules in
    subst (Comparison c.args.pack.now c.args.first.now c.args.second.now c.args.chain.now c.args.work.now c.args.chain.now c.args.work.now) (sym handed)
    (compare_unread c.args.pack.now c.args.first.now c.args.second.now c.args.chain.now c.args.work.now c.in_err-p.field-0.0 c.in_err-p.ensures.read)

pub returns-in_err-one : goal.returns-in_err-one
returns-in_err-one c =
    let one : counted c.in_ok-p.p c.args.first.now ≡ replied c.check_chart.result = rw (c.dimensions.ensures.0, c.dimensions.ensures.1) at c.check_chart.ensures in
    let handed : c.from_residual-in_err-one.result ≡ Err c.in_err-one.field-0.0 = search rules in
    subst (Comparison c.args.pack.now c.args.first.now c.args.second.now c.args.chain.now c.args.work.now c.args.chain.now c.args.work.now) (sym handed)
    (compare_first c.args.pack.now c.args.first.now c.args.second.now c.args.chain.now c.args.work.now c.in_ok-p.ensures.read c.in_err-one.field-0.0 (one ∙ ap replied c.in_err-one.was))

pub returns-in_err-other : goal.returns-in_err-other
returns-in_err-other c =
    let one : counted c.in_ok-p.p c.args.first.now ≡ replied c.check_chart.result = rw (c.dimensions.ensures.0, c.dimensions.ensures.1) at c.check_chart.ensures in
    let other : counted c.in_ok-p.p c.args.second.now ≡ replied c.check_chart-2.result = rw (c.dimensions-2.ensures.0, c.dimensions-2.ensures.1) at c.check_chart-2.ensures in
    let handed : c.from_residual-in_err-other.result ≡ Err c.in_err-other.field-0.0 = search rules in
    subst (Comparison c.args.pack.now c.args.first.now c.args.second.now c.args.chain.now c.args.work.now c.args.chain.now c.args.work.now) (sym handed)
    (compare_second c.args.pack.now c.args.first.now c.args.second.now c.args.chain.now c.args.work.now c.in_ok-p.ensures.read c.in_ok-one.one (one ∙ ap replied c.in_ok-one.was) c.in_err-other.field-0.0 (other ∙ ap replied c.in_err-other.was))

pub returns-in_err-check_lent : goal.returns-in_err-check_lent
returns-in_err-check_lent c =
    let one : counted c.in_ok-p.p c.args.first.now ≡ replied c.check_chart.result = rw (c.dimensions.ensures.0, c.dimensions.ensures.1) at c.check_chart.ensures in
    let other : counted c.in_ok-p.p c.args.second.now ≡ replied c.check_chart-2.result = rw (c.dimensions-2.ensures.0, c.dimensions-2.ensures.1) at c.check_chart-2.ensures in
    let handed : c.from_residual-in_err-check_lent.result ≡ Err c.in_err-check_lent.field-0.0 = search rules in
    subst (Comparison c.args.pack.now c.args.first.now c.args.second.now c.args.chain.now c.args.work.now c.args.chain.now c.args.work.now) (sym handed)
    (compare_lent c.args.pack.now c.args.first.now c.args.second.now c.args.chain.now c.args.work.now c.in_ok-p.ensures.read c.in_ok-one.one (one ∙ ap replied c.in_ok-one.was) c.in_ok-other.other (other ∙ ap replied c.in_ok-other.was) c.both_at_most-enough.result c.both_at_most-enough.ensures c.check_lent.result c.check_lent.ensures c.in_err-check_lent.field-0.0 c.in_err-check_lent.was)

pub match_charts-found-requires : goal.match_charts-found-requires
match_charts-found-requires c =
    let one : counted c.in_ok-p.p c.args.first.now ≡ replied c.check_chart.result = rw (c.dimensions.ensures.0, c.dimensions.ensures.1) at c.check_chart.ensures in
    let other : counted c.in_ok-p.p c.args.second.now ≡ replied c.check_chart-2.result = rw (c.dimensions-2.ensures.0, c.dimensions-2.ensures.1) at c.check_chart-2.ensures in
    compare_ready c.args.pack.now c.args.first.now c.args.second.now c.args.chain.now c.args.work.now c.in_ok-p.ensures.read c.in_ok-one.one (one ∙ ap replied c.in_ok-one.was) c.in_ok-other.other (other ∙ ap replied c.in_ok-other.was) c.both_at_most-enough.result c.both_at_most-enough.ensures c.check_lent.result c.check_lent.ensures c.in_ok-check_lent.was

pub returns : goal.returns
returns c =
    let one : counted c.in_ok-p.p c.args.first.now ≡ replied c.check_chart.result = rw (c.dimensions.ensures.0, c.dimensions.ensures.1) at c.check_chart.ensures in
    let other : counted c.in_ok-p.p c.args.second.now ≡ replied c.check_chart-2.result = rw (c.dimensions-2.ensures.0, c.dimensions-2.ensures.1) at c.check_chart-2.ensures in
    compare_done c.args.pack.now c.args.first.now c.args.second.now c.args.chain.now c.args.work.now c.in_ok-p.ensures.read c.in_ok-one.one (one ∙ ap replied c.in_ok-one.was) c.in_ok-other.other (other ∙ ap replied c.in_ok-other.was) c.both_at_most-enough.result c.both_at_most-enough.ensures c.check_lent.result c.check_lent.ensures c.in_ok-check_lent.was _ _ _ c.match_charts-found.ensures
