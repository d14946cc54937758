-- The characters from i on are written. Assumes nothing.
use Rattle.chart.proofs.WayBack.{Tracing}
use Rattle.chart.proofs.pairs.write_way.Given as goal

abbrev pub invariant-loop-i : goal.invariant-loop-i
invariant-loop-i l = Tracing l.work l.initial.chain l.chain 6144 l.e l.k l.at l.i
