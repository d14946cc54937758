-- What is left, from n and least on, tells what the whole tells. Assumes nothing.
use Rattle.std.proofs.Common.{◌+◌, ◌-◌, ◌≡◌}
use Rattle.pack.specs.Reading.{mapped, runs}
use Rattle.pack.specs.Number.{rising_at}
use Rattle.pack.specs.Grammar.{consenters_at}
use Rattle.pack.specs.Duties.Said.{forget}
use Rattle.pack.specs.Duties.Answer.{dims}
use Rattle.pack.proofs.effect.check_consenters.Given as goal

abbrev pub invariant-loop : goal.invariant-loop
invariant-loop l =
    mapped forget (consenters_at (dims l.d.characters l.d.domains.now) l.s l.fn.at)
    ≡ mapped forget (runs (rising_at l.d.characters) (λ least v. v + 1) l.least (l.count - l.counter) l.s l.n)
