-- What is left, from n on, tells what the whole tells. Assumes nothing.
use Rattle.std.proofs.Common.{rules}
use Rattle.pack.specs.Laws.Runs.{many_start, many_step, many_end}
use Rattle.pack.proofs.part.check_many.Goals as goal

pub loop-init : goal.loop-init
loop-init g c = λ part s post. many_start part c.args.count s c.args.at

pub returns-in_err-n : goal.returns-in_err-n
returns-in_err-n g c = λ part s post.
    search (rules, c.loop.invariant part s post, many_step part c.args.count c.loop.counter s c.loop.n c.loop-test.true, post c.loop.n c.check.result c.check.ensures, c.in_err-n.was)

pub loop-preserved : goal.loop-preserved
loop-preserved g c = λ part s post.
    search (rules, c.loop.invariant part s post, many_step part c.args.count c.loop.counter s c.loop.n c.loop-test.true, post c.loop.n c.check.result c.check.ensures, c.in_ok-n.was)

pub returns : goal.returns
returns g c = λ part s post.
    search (rules, c.loop.invariant part s post, many_end part c.args.count c.loop.counter s c.loop.n c.loop-test.false)
