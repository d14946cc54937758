-- The bytes below q are the same. Assumes nothing.
use Rattle.std.proofs.Common.{ℕ, ◌<◌}
use Rattle.chart.specs.Duties.Level.{SameByte}
use Rattle.chart.proofs.bytes.first_other.Given as goal

abbrev pub invariant-loop-q : goal.invariant-loop-q
invariant-loop-q l = (p : ℕ) → p < l.q → SameByte l.work l.a l.b p
