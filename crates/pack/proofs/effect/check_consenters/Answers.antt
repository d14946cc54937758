-- What is left, from n and least on, tells what the whole tells. Assumes nothing.
use Rattle.std.proofs.Common.{rules, arith, ap, ◌∙◌}
use Prim.Native.Nat.{◌+◌}
use Rattle.pack.specs.Number.{rising_at}
use Rattle.pack.specs.Grammar.{consenters_at}
use Rattle.pack.specs.Duties.Said.{said, forget}
use Rattle.pack.specs.Laws.Runs.{runs_start, runs_step, runs_end, rising_below}
use Rattle.pack.proofs.effect.check_consenters.Goals as goal

pub returns-in_err-count : goal.returns-in_err-count
unfolding consenters_at
returns-in_err-count c = search (rules, c.read_between.ensures, c.in_err-count.was)

pub loop-init : goal.loop-init
unfolding consenters_at
loop-init c = search (rules, c.read_between.ensures, c.in_ok-count.was, runs_start (rising_at c.args.d.characters) (λ least v. v + 1) 0 forget c.in_ok-count.count c.args.s.now c.in_ok-count.first)

pub returns-in_err-consenter : goal.returns-in_err-consenter
returns-in_err-consenter c =
    search (rules, c.loop.invariant, runs_step (rising_at c.args.d.characters) (λ least v. v + 1) c.loop.least forget c.in_ok-count.count c.loop.counter c.args.s.now c.loop.n c.loop-test.true, c.read_rising.ensures, c.in_err-consenter.was)

pub overflow_add-least : goal.overflow_add-least
overflow_add-least c =
    omega (arith, rising_below _ c.loop.least _ _ _ _ (c.read_rising.ensures ∙ ap said c.in_ok-consenter.was))

pub loop-preserved : goal.loop-preserved
loop-preserved c =
    search (rules, c.loop.invariant, runs_step (rising_at c.args.d.characters) (λ least v. v + 1) c.loop.least forget c.in_ok-count.count c.loop.counter c.args.s.now c.loop.n c.loop-test.true, c.read_rising.ensures, c.in_ok-consenter.was)

pub returns : goal.returns
returns c = search (rules, c.loop.invariant, runs_end (rising_at c.args.d.characters) (λ least v. v + 1) c.loop.least forget c.in_ok-count.count c.loop.counter c.args.s.now c.loop.n c.loop-test.false)
