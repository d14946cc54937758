-- All tests so far could pass. Assumes nothing.
use Prim.Native.Nat.{◌-◌}
use native.Mathlib.Omega.{arith}
use Rattle.pack.specs.Grammar.{test_at}
use Rattle.planner.proofs.Pruning.{run_start, run_stop, run_on, run_none, tiny_run, run_next, run_inside, run_told, told_of, end_of, all_by, all_none}
use Rattle.planner.proofs.range.could_all.Goals as goal

pub loop-i-preserved : goal.loop-i-preserved
loop-i-preserved c =
    run_on (tiny_run test_at _) _ _ c.loop-i.invariant (omega (arith, c.loop-i-test.true)) _ (end_of test_at c.after_test-n.ensures)
    (λ k x rest g. all_by _ x rest (told_of test_at _ c.could_pass.ensures k x g) c.if-not-could_pass.false) (omega (arith, c.loop-i-test.true))

pub overflow_add-n : goal.overflow_add-n
overflow_add-n c = omega (arith, run_inside test_at c.requires.0)

pub bounds-pack-at : goal.bounds-pack-at
bounds-pack-at c = run_inside test_at c.requires.0

pub loop-i-init : goal.loop-i-init
loop-i-init c = run_start (tiny_run test_at _) _ _ (omega arith) (c.from-count.result - 0) (omega (arith, c.from-count.ensures))

pub could_pass-requires : goal.could_pass-requires
could_pass-requires c =
    (run_next test_at c.requires.0 c.loop-i.invariant (omega (arith, c.loop-i-test.true)), c.requires.1)

pub returns-then-not-could_pass : goal.returns-then-not-could_pass
returns-then-not-could_pass c =
    run_told test_at (run_stop (tiny_run test_at _) _ _ c.loop-i.invariant (omega (arith, c.loop-i-test.true))
    (λ k x rest g. all_by _ x rest (told_of test_at _ c.could_pass.ensures k x g) c.if-not-could_pass.true))

pub after_test-n-requires : goal.after_test-n-requires
after_test-n-requires c = run_next test_at c.requires.0 c.loop-i.invariant (omega (arith, c.loop-i-test.true))

pub returns : goal.returns
returns c =
    run_told test_at (run_none (tiny_run test_at _) _ _ c.loop-i.invariant (omega (arith, c.loop-i-test.false)) (λ k. all_none _))
