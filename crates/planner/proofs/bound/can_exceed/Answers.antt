-- No rule so far is above base. Assumes nothing.
use Prim.Native.Nat.{◌-◌}
use mathlib.Core.Path.{sym, ap, ◌∙◌}
use native.Mathlib.Omega.{arith}
use Rattle.pack.specs.Duties.Said.{said}
use Rattle.pack.specs.Laws.Reading.{never, same_value, same_place}
use Rattle.pack.specs.Grammar.{rule_at}
use Rattle.planner.proofs.Pruning.{run_start, run_stop, run_on, run_none, tiny_run, run_next, run_inside, rules_parts, rules_told, rule_readable, rule_number}
use Rattle.planner.proofs.Bounds.{above_none, above_here, above_not}
use Rattle.planner.proofs.bound.can_exceed.Goals as goal

pub returns-then-base-value : goal.returns-then-base-value
returns-then-base-value c =
    rules_told (run_stop (tiny_run rule_at _) _ _ c.loop-i.invariant (omega (arith, c.loop-i-test.true)) (λ k x rest g.
    let is = same_value (rule_number c.after_condition.ensures (c.read_number.ensures ∙ ap said c.in-Ok.is) k x g) in
    above_here _ x rest (omega (arith, is, c.if-base-value.true))))

pub loop-i-preserved : goal.loop-i-preserved
loop-i-preserved c =
    run_on (tiny_run rule_at _) _ _ c.loop-i.invariant (omega (arith, c.loop-i-test.true)) _ (λ k x g. sym (same_place (rule_number c.after_condition.ensures (c.read_number.ensures ∙ ap said c.in-Ok.is) k x g))) (λ k x rest g.
    let is = same_value (rule_number c.after_condition.ensures (c.read_number.ensures ∙ ap said c.in-Ok.is) k x g) in
    above_not _ x rest (omega (arith, is, c.if-base-value.false))) (omega (arith, c.loop-i-test.true))

pub overflow_add-n : goal.overflow_add-n
overflow_add-n c = omega (arith, run_inside rule_at (rules_parts c.requires))

pub bounds-pack-at : goal.bounds-pack-at
bounds-pack-at c = run_inside rule_at (rules_parts c.requires)

pub loop-i-init : goal.loop-i-init
loop-i-init c = run_start (tiny_run rule_at _) _ _ (omega arith) (c.from-count.result - 0) (omega (arith, c.from-count.ensures))

pub after_condition-requires : goal.after_condition-requires
after_condition-requires c =
    rule_readable (run_next rule_at (rules_parts c.requires) c.loop-i.invariant (omega (arith, c.loop-i-test.true)))

-- the number is there
pub returns-in_default : goal.returns-in_default
returns-in_default c =
    rules_told (run_stop (tiny_run rule_at _) _ _ c.loop-i.invariant (omega (arith, c.loop-i-test.true)) (λ k x rest g. never (rule_number c.after_condition.ensures (c.read_number.ensures ∙ ap said c.in_default.is) k x g)))

pub returns : goal.returns
returns c =
    rules_told (run_none (tiny_run rule_at _) _ _ c.loop-i.invariant (omega (arith, c.loop-i-test.false)) (λ k. above_none _))
