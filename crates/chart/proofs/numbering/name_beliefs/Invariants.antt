-- The beliefs below k are named. Assumes nothing.
use Rattle.std.proofs.Common.{◌+◌, get_or}
use Rattle.chart.specs.Duties.Numbers.{Named}
use Rattle.chart.proofs.numbering.name_beliefs.Given as goal

abbrev pub invariant-loop-k : goal.invariant-loop-k
invariant-loop-k l =
    Named l.initial.work l.work l.m l.size l.count l.met l.to l.k (λ d. get_or l.initial.work (l.to + d) 0)
