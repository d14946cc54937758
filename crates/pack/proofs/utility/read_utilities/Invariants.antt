-- The rules that are read are marked, and what is left tells what the whole tells. Assumes nothing.
use Rattle.std.proofs.Common.{◌+◌, ◌≡◌, length}
use Rattle.pack.specs.Grammar.{rules_at}
use Rattle.pack.specs.Duties.Answer.{dims}
use Rattle.pack.specs.Laws.Marks.{Marking}
use Rattle.pack.proofs.utility.read_utilities.Given as goal

abbrev pub invariant-loop-i : goal.invariant-loop-i
invariant-loop-i l =
    Marking (rules_at (dims l.d.characters l.d.domains.now)) l.s l.at (λ b. 320 + b) 320 l.initial.places l.places (l.d.characters + 1) l.i l.n × (length l.places ≡ length l.initial.places)
