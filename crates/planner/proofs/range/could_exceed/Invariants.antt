-- No rule so far is above base and could hold. Assumes nothing.
use Prim.Native.Nat.{◌-◌}
use Rattle.pack.specs.Grammar.{rule_at}
use Rattle.planner.specs.Inner.Range.{could_pass, could_exceed}
use Rattle.planner.proofs.Pruning.{Rest, tiny_run}
use Rattle.planner.proofs.range.could_exceed.Given as goal

abbrev pub invariant-loop-i : goal.invariant-loop-i
invariant-loop-i l =
    Rest (tiny_run rule_at (could_exceed (could_pass l.lows l.highs) l.base)) l.pack l.at l.n (l.count - l.i)
