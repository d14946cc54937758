-- All tests so far could pass. Assumes nothing.
use Prim.Native.Nat.{◌-◌}
use Rattle.pack.specs.Grammar.{test_at}
use Rattle.planner.specs.Inner.Range.{could_pass, could_all}
use Rattle.planner.proofs.Pruning.{Rest, tiny_run}
use Rattle.planner.proofs.range.could_all.Given as goal

abbrev pub invariant-loop-i : goal.invariant-loop-i
invariant-loop-i l =
    Rest (tiny_run test_at (could_all (could_pass l.lows l.highs))) l.pack l.at l.n (l.count - l.i)
