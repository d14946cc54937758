-- Those that are read are marked, with their parts, and what is left tells what the whole tells. Assumes nothing.
use Rattle.std.proofs.Common.{ℕ, ◌+◌, ◌*◌, ◌<◌, ◌≡◌, length}
use Rattle.pack.specs.Duties.Places.{TriggerParts}
use Rattle.pack.specs.Grammar.{trigger_at}
use Rattle.pack.specs.Duties.Answer.{dims}
use Rattle.pack.specs.Laws.Marks.{Marking}
use Rattle.pack.proofs.trigger.read_triggers.Given as goal

abbrev pub invariant-loop-i : goal.invariant-loop-i
invariant-loop-i l =
    Marking (trigger_at (dims l.d.characters l.d.domains.now)) l.s l.first (λ i. 288 + 2 * i) 288 l.initial.places l.places l.count l.i l.n
    × ((j : ℕ) → j < l.i → TriggerParts (dims l.d.characters l.d.domains.now) l.s l.places (288 + 2 * j)) × (length l.places ≡ length l.initial.places) × (l.count < 17)
