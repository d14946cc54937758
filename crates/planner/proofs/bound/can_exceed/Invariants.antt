-- No rule so far is above base. Assumes nothing.
use Prim.Native.Nat.{◌-◌}
use Rattle.pack.specs.Grammar.{rule_at}
use Rattle.planner.specs.Inner.Bound.{exceeds}
use Rattle.planner.proofs.Pruning.{Rest, tiny_run}
use Rattle.planner.proofs.bound.can_exceed.Given as goal

abbrev pub invariant-loop-i : goal.invariant-loop-i
invariant-loop-i l =
    Rest (tiny_run rule_at (exceeds l.base)) l.pack l.at l.n (l.count - l.i)
