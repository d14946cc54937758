-- No alternative so far could pass. Assumes nothing.
use Prim.Native.Nat.{◌-◌}
use Rattle.pack.specs.Duties.Judge.{alternative_at}
use Rattle.planner.specs.Inner.Range.{could_pass, could_hold}
use Rattle.planner.proofs.Pruning.{Rest, tiny_run}
use Rattle.planner.proofs.range.could_hold.Given as goal

abbrev pub invariant-loop-i : goal.invariant-loop-i
invariant-loop-i l =
    Rest (tiny_run alternative_at (could_hold (could_pass l.lows l.highs))) l.pack l.at l.n (l.count - l.i)
