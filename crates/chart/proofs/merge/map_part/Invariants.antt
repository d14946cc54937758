-- The beliefs below d are put by class. Assumes nothing.
use Rattle.chart.specs.Duties.Classed.{Mapped}
use Rattle.chart.proofs.merge.map_part.Given as goal

abbrev pub invariant-loop-d : goal.invariant-loop-d
invariant-loop-d l = Mapped l.initial.work l.work l.from l.to l.k l.d
