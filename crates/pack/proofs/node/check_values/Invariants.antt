-- What is left, from the fluent that comes next on, tells what the whole tells. Assumes nothing.
use Rattle.std.proofs.Common.{◌+◌, ◌-◌, ◌≡◌, length, get_or}
use Rattle.pack.specs.Reading.{mapped, runs}
use Rattle.pack.specs.Number.{item}
use Rattle.pack.specs.Duties.Said.{forget}
use Rattle.pack.specs.Duties.Answer.{values_at}
use Rattle.pack.proofs.node.check_values.Given as goal

abbrev pub invariant-loop-size : goal.invariant-loop-size
invariant-loop-size l =
    mapped forget (values_at l.domains l.s l.at)
    ≡ mapped forget (runs (λ fluent. item (get_or l.domains fluent 0)) (λ fluent v. fluent + 1) l.size-index (length l.domains - l.size-index) l.s l.n)
