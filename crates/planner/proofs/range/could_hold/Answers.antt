-- No alternative so far could pass. Assumes nothing.
use Prim.Native.Nat.{◌-◌}
use native.Mathlib.Omega.{arith}
use Rattle.pack.specs.Duties.Judge.{alternative_at}
use Rattle.planner.proofs.Pruning.{run_start, run_stop, run_last, run_on, run_none, tiny_run, run_next, run_inside, condition_parts, condition_told, told_of, end_of, some_by, some_none}
use Rattle.planner.proofs.range.could_hold.Goals as goal

pub returns-then-i-count : goal.returns-then-i-count
returns-then-i-count c =
    condition_told (run_last (tiny_run alternative_at _) _ _ c.loop-i.invariant (omega (arith, c.loop-i-test.true)) (omega (arith, c.if-i-count.true))
    (λ k x rest g. some_by _ x rest (told_of alternative_at _ c.could_all.ensures k x g) c.if-could_all.false) (λ k. some_none _))

pub loop-i-preserved : goal.loop-i-preserved
loop-i-preserved c =
    run_on (tiny_run alternative_at _) _ _ c.loop-i.invariant (omega (arith, c.loop-i-test.true)) _ (end_of alternative_at c.after_alternative-n.ensures)
    (λ k x rest g. some_by _ x rest (told_of alternative_at _ c.could_all.ensures k x g) c.if-could_all.false) (omega (arith, c.loop-i-test.true))

pub overflow_add-n : goal.overflow_add-n
overflow_add-n c = omega (arith, run_inside alternative_at (condition_parts c.requires.0))

pub bounds-pack-at : goal.bounds-pack-at
bounds-pack-at c = run_inside alternative_at (condition_parts c.requires.0)

pub loop-i-init : goal.loop-i-init
loop-i-init c = run_start (tiny_run alternative_at _) _ _ (omega arith) (c.from-count.result - 0) (omega (arith, c.from-count.ensures))

pub could_all-requires : goal.could_all-requires
could_all-requires c =
    (run_next alternative_at (condition_parts c.requires.0) c.loop-i.invariant (omega (arith, c.loop-i-test.true)), c.requires.1)

pub returns-then-could_all : goal.returns-then-could_all
returns-then-could_all c =
    condition_told (run_stop (tiny_run alternative_at _) _ _ c.loop-i.invariant (omega (arith, c.loop-i-test.true))
    (λ k x rest g. some_by _ x rest (told_of alternative_at _ c.could_all.ensures k x g) c.if-could_all.true))

pub after_alternative-n-requires : goal.after_alternative-n-requires
after_alternative-n-requires c =
    run_next alternative_at (condition_parts c.requires.0) c.loop-i.invariant (omega (arith, c.loop-i-test.true))

pub returns : goal.returns
returns c =
    condition_told (run_none (tiny_run alternative_at _) _ _ c.loop-i.invariant (omega (arith, c.loop-i-test.false)) (λ k. some_none _))
