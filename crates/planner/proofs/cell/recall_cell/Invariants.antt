-- No cell before the one that is looked at holds it. Assumes nothing.
use Prim.Native.Nat.{ℕ, ◌+◌, ◌*◌, ◌<◌}
use Rattle.planner.specs.Inner.Memory.{Holds}
use Rattle.planner.proofs.cell.recall_cell.Given as goal

abbrev pub invariant-loop-i : goal.invariant-loop-i
invariant-loop-i l =
    ((j : ℕ) → j < l.i → ¬ Holds l.p l.work l.slot (l.first + j * l.size) l.k)
