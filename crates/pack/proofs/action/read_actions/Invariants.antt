-- Those that are read are marked, with their parts, and what is left tells what the whole tells. Assumes nothing.
use Rattle.std.proofs.Common.{ℕ, ◌*◌, ◌<◌, ◌≡◌, length}
use Rattle.pack.specs.Duties.Places.{ActionParts}
use Rattle.pack.specs.Grammar.{action_at}
use Rattle.pack.specs.Duties.Answer.{dims}
use Rattle.pack.specs.Laws.Marks.{Marking}
use Rattle.pack.proofs.action.read_actions.Given as goal

abbrev pub invariant-loop-i : goal.invariant-loop-i
invariant-loop-i l =
    Marking (action_at (dims l.d.characters l.d.domains.now)) l.s l.first (λ i. 9 * i) 0 l.initial.places l.places l.count l.i l.n
    × ((j : ℕ) → j < l.i → ActionParts (dims l.d.characters l.d.domains.now) l.s l.places (9 * j)) × (length l.places ≡ length l.initial.places) × (l.count < 33)
