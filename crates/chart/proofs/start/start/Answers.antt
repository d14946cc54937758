-- The checks, and then the chart. Assumes nothing.
use Rattle.std.proofs.Common.{rules, arith, sym, subst, ◌≡◌, Err}
use Rattle.chart.specs.Promises.{Started}
use Rattle.chart.proofs.StartCall.{begin_unread, begin_refused, begin_ready, begin_done}
use Rattle.chart.proofs.start.start.Goals as goal

pub returns-in_err-p : goal.returns-in_err-p
returns-in_err-p c =
    let handed : c.from_residual.result ≡ Err c.in_err-p.field-0.0 = search rules in
    subst (Started c.args.pack.now c.args.chart.now c.args.work.now c.args.chart.now c.args.work.now) (sym handed)
    (begin_unread c.args.pack.now c.args.chart.now c.args.work.now c.in_err-p.field-0.0 c.in_err-p.ensures.read)

pub returns-in_err-check_lent : goal.returns-in_err-check_lent
returns-in_err-check_lent c =
    let handed : c.from_residual-in_err-check_lent.result ≡ Err c.in_err-check_lent.field-0.0 = search rules in
    subst (Started c.args.pack.now c.args.chart.now c.args.work.now c.args.chart.now c.args.work.now) (sym handed)
    (begin_refused c.args.pack.now c.args.chart.now c.args.work.now c.in_ok-p.ensures.read c.both_at_most-enough.result c.both_at_most-enough.ensures c.check_lent.result c.check_lent.ensures c.in_err-check_lent.field-0.0 c.in_err-check_lent.was)

pub put_start-length-requires : goal.put_start-length-requires
put_start-length-requires c =
    begin_ready c.args.pack.now c.args.chart.now c.args.work.now c.in_ok-p.ensures.read c.both_at_most-enough.result c.both_at_most-enough.ensures c.check_lent.result c.check_lent.ensures (λ i. omega (arith, c.type_inv.pack i)) c.in_ok-check_lent.was

pub returns : goal.returns
returns c =
    begin_done c.args.pack.now c.args.chart.now c.args.work.now c.in_ok-p.ensures.read c.both_at_most-enough.result c.both_at_most-enough.ensures c.check_lent.result c.check_lent.ensures (λ i. omega (arith, c.type_inv.pack i)) c.in_ok-check_lent.was _ _ _ c.put_start-length.ensures
