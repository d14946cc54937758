-- What is left, from the fluent that comes next on, tells what the whole tells. Assumes nothing.
use Rattle.std.proofs.Common.{rules, ◌+◌, length, get_or}
use Rattle.pack.specs.Number.{item}
use Rattle.pack.specs.Duties.Said.{forget}
use Rattle.pack.specs.Laws.Runs.{runs_start, item_step, runs_end}
use Rattle.pack.proofs.node.check_values.Goals as goal

pub loop-size-init : goal.loop-size-init
loop-size-init c =
    runs_start (λ fluent. item (get_or c.args.domains.now fluent 0)) (λ fluent v. fluent + 1) 0 forget (length c.args.domains.now) c.args.s.now c.args.at

pub returns-in_err-n : goal.returns-in_err-n
returns-in_err-n c =
    search (rules, c.loop-size.invariant, item_step c.args.domains.now c.loop-size.size-index c.args.s.now c.loop-size.n c.loop-size-test.true, c.from.ensures, c.check_item.ensures, c.in_err-n.was)

pub loop-size-preserved : goal.loop-size-preserved
loop-size-preserved c =
    search (rules, c.loop-size.invariant, item_step c.args.domains.now c.loop-size.size-index c.args.s.now c.loop-size.n c.loop-size-test.true, c.from.ensures, c.check_item.ensures, c.in_ok-n.was)

pub returns : goal.returns
returns c =
    search (rules, c.loop-size.invariant, runs_end (λ fluent. item (get_or c.args.domains.now fluent 0)) (λ fluent v. fluent + 1) c.loop-size.size-index forget (length c.args.domains.now) c.loop-size.size-index c.args.s.now c.loop-size.n c.loop-size-test.false)
