-- After so many rounds the state that has come about stands in the slot. Assumes nothing.
use mathlib.Core.Path.{◌≡◌}
use mathlib.Core.List.{List}
use Prim.Native.Nat.{ℕ}
use lib.ListN.{length}
use Rattle.pack.specs.Syntax.{Node, Theory}
use Rattle.pack.specs.State.{meaning}
use Rattle.transition.specs.Duties.Play.{Setting, Slotted}
use Rattle.transition.proofs.Rounds.{InRound, table_in}
use Rattle.transition.proofs.settle.settle.Given as goal

abbrev pub invariant-loop : goal.invariant-loop
invariant-loop l =
    (length l.work ≡ length l.initial.work) × (l.now ≡ table_in l.fn.t l.slot l.now.nodes)
    × ((p : Theory) (T : List Node) (actions : ℕ) → Setting p T l.pack l.places actions l.triggers l.initial.work l.fn.t l.slot
    → Slotted T l.initial.work l.fn.t l.slot
    → InRound p (meaning l.fn.t.characters T 0) l.fn.t l.initial.work l.work l.slot l.now.nodes l.counter)
