-- The beliefs below d are of the same classes. Assumes nothing.
use Rattle.std.proofs.Common.{ℕ, ◌<◌}
use Rattle.chart.specs.Duties.Level.{SameClass}
use Rattle.chart.proofs.partition.same_classes.Given as goal

abbrev pub invariant-loop-d : goal.invariant-loop-d
invariant-loop-d l = (p : ℕ) → p < l.d → SameClass l.work l.a l.b l.k p
