-- The bytes below k are copied. Assumes nothing.
use Rattle.chart.specs.Duties.Put.{PartCopied}
use Rattle.chart.proofs.bytes.copy_part.Given as goal

abbrev pub invariant-loop-k : goal.invariant-loop-k
invariant-loop-k l = PartCopied l.initial.work l.work l.a l.b l.k
