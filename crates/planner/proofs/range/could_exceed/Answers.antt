-- No rule so far is above base and could hold. Assumes nothing.
use Prim.Native.Nat.{◌-◌}
use mathlib.Core.Path.{sym, ap, ◌∙◌}
use native.Mathlib.Omega.{arith}
use Rattle.pack.specs.Duties.Said.{said}
use Rattle.pack.specs.Grammar.{condition_at, rule_at}
use Rattle.pack.specs.Laws.Reading.{never, same_value, same_place}
use Rattle.planner.proofs.Pruning.{run_start, run_stop, run_last, run_on, run_none, tiny_run, run_next, run_inside, rules_parts, rules_told, rule_readable, rule_condition, rule_number, told_of, exceed_by, exceed_not, exceed_low, exceed_none}
use Rattle.planner.proofs.range.could_exceed.Goals as goal
use Rattle.planner.proofs.range.could_exceed.Goals.{else-could-via-then-could+else-base-value, else-could-via-else-could}

pub returns-then-i-count : goal.returns-then-i-count
returns-then-i-count c =
    rules_told (run_last (tiny_run rule_at _) _ _ c.loop-i.invariant (omega (arith, c.loop-i-test.true)) (omega (arith, c.if-i-count.true))
    (λ k x rest g. exceed_not _ _ x rest (told_of condition_at _ c.could_hold-could.ensures k x.condition (rule_condition k.0 x g)) (c.if-not-could.true))
    (λ k. exceed_none _ _))

pub returns-then-base-value : goal.returns-then-base-value
returns-then-base-value c =
    rules_told (run_stop (tiny_run rule_at _) _ _ c.loop-i.invariant (omega (arith, c.loop-i-test.true)) (λ k x rest g.
    let is = same_value (rule_number c.after_condition.ensures (c.read_number.ensures ∙ ap said c.in-Ok.is) k x g) in
    exceed_by _ _ x rest (omega (arith, is, c.if-base-value.true)) (told_of condition_at _ c.could_hold-could.ensures k x.condition (rule_condition k.0 x g)) c.if-could.true))

pub loop-i-preserved : goal.loop-i-preserved
loop-i-preserved c =
    run_on (tiny_run rule_at _) _ _ c.loop-i.invariant (omega (arith, c.loop-i-test.true)) _ (λ k x g. sym (same_place (rule_number c.after_condition.ensures (c.read_number.ensures ∙ ap said c.in-Ok.is) k x g))) (λ k x rest g.
    let is = same_value (rule_number c.after_condition.ensures (c.read_number.ensures ∙ ap said c.in-Ok.is) k x g) in
    elim c.else-could.branch [
      | else-could-via-then-could+else-base-value w ↦ exceed_low _ _ x rest (omega (arith, is, w.if-base-value.false))
      | else-could-via-else-could w ↦ exceed_not _ _ x rest (told_of condition_at _ c.could_hold-could.ensures k x.condition (rule_condition k.0 x g)) w.if-could.false
    ]) (omega (arith, c.loop-i-test.true))

pub overflow_add-n : goal.overflow_add-n
overflow_add-n c = omega (arith, run_inside rule_at (rules_parts c.requires.0))

pub bounds-pack-at : goal.bounds-pack-at
bounds-pack-at c = run_inside rule_at (rules_parts c.requires.0)

pub loop-i-init : goal.loop-i-init
loop-i-init c = run_start (tiny_run rule_at _) _ _ (omega arith) (c.from-count.result - 0) (omega (arith, c.from-count.ensures))

pub could_hold-could-requires : goal.could_hold-could-requires
could_hold-could-requires c =
    (rule_readable (run_next rule_at (rules_parts c.requires.0) c.loop-i.invariant (omega (arith, c.loop-i-test.true))), c.requires.1)

pub after_condition-requires : goal.after_condition-requires
after_condition-requires c =
    rule_readable (run_next rule_at (rules_parts c.requires.0) c.loop-i.invariant (omega (arith, c.loop-i-test.true)))

pub returns-in_default : goal.returns-in_default
returns-in_default c =
    rules_told (run_stop (tiny_run rule_at _) _ _ c.loop-i.invariant (omega (arith, c.loop-i-test.true))
    (λ k x rest g. never (rule_number c.after_condition.ensures (c.read_number.ensures ∙ ap said c.in_default.is) k x g)))

pub returns : goal.returns
returns c =
    rules_told (run_none (tiny_run rule_at _) _ _ c.loop-i.invariant (omega (arith, c.loop-i-test.false)) (λ k. exceed_none _ _))
