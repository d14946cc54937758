-- The slots of the characters below d are put. Assumes nothing.
use mathlib.Core.Path.{◌≡◌}
use Prim.Native.Nat.{◌+◌}
use lib.ListN.{length}
use Rattle.pack.specs.State.{target}
use Rattle.transition.specs.Laws.Changed.{old}
use Rattle.transition.specs.Duties.Cause.{Tabled}
use Rattle.transition.specs.Inner.Change.{Scene, SlotsPut}
use Rattle.transition.proofs.change.put_old.Given as goal

abbrev pub invariant-loop-d : goal.invariant-loop-d
invariant-loop-d l =
    (length l.work ≡ length l.initial.work) × ((s : Scene) → Tabled s.dimensions s.table l.initial.work l.h.table → SlotsPut l.h l.h.table.nodes l.d (λ d. old (target s.table l.m d)) l.initial.work l.work (l.to + l.h.table.fluents))
