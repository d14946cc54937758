-- The bytes below q are put. Assumes nothing.
use Rattle.chart.specs.Duties.Out.{PartPut}
use Rattle.chart.proofs.out.put_part.Given as goal

abbrev pub invariant-loop-q : goal.invariant-loop-q
invariant-loop-q l = PartPut l.src l.initial.out l.out l.from l.to l.q l.s.more l.s.less
