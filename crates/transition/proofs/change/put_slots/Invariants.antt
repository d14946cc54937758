-- The slots of the characters below d are put. Assumes nothing.
use mathlib.Core.Path.{◌≡◌}
use lib.ListN.{length}
use Rattle.transition.specs.Inner.Change.{Scene, Stands, believed, SlotsPut}
use Rattle.transition.proofs.change.put_slots.Given as goal

abbrev pub invariant-loop-d : goal.invariant-loop-d
invariant-loop-d l =
    (length l.work ≡ length l.initial.work) × ((s : Scene) → Stands s l.pack l.places l.effects l.h l.initial.work l.h.table → SlotsPut l.h l.h.table.nodes l.d (believed s l.h.table.characters l.m) l.initial.work l.work l.to)
