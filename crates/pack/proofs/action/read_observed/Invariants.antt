-- The conditions that are read are marked, and what is left tells what the whole tells. Assumes nothing.
use Rattle.std.proofs.Common.{◌+◌, ◌≡◌, length}
use Rattle.pack.specs.Grammar.{condition_at}
use Rattle.pack.specs.Duties.Answer.{dims}
use Rattle.pack.specs.Laws.Marks.{Marking}
use Rattle.pack.proofs.action.read_observed.Given as goal

abbrev pub invariant-loop-c : goal.invariant-loop-c
invariant-loop-c l =
    Marking (condition_at (dims l.d.characters l.d.domains.now)) l.s l.at (λ b. l.base + b) l.base l.initial.places l.places l.d.characters l.c l.n × (length l.places ≡ length l.initial.places)
