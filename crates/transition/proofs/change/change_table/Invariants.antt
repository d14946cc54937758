-- The pass: the rows below i are filled. Assumes nothing.
use mathlib.Core.Path.{◌≡◌}
use Prim.Native.Nat.{◌-◌}
use lib.ListN.{length}
use Rattle.transition.specs.Inner.Change.{Scene, Stands}
use Rattle.transition.proofs.ChangePass.{slots_of, First, Making}
use Rattle.transition.proofs.change.change_table.Given as goal

abbrev pub invariant-loop-i : goal.invariant-loop-i
invariant-loop-i l =
    (length l.work ≡ length l.initial.work) × First l.h l.h.table l.initial.work 40304 × ((s : Scene) → Stands s l.pack l.places l.effects l.h l.initial.work l.h.table → Making s l.h l.h.table l.initial.work l.work 40304 40756 l.i l.count)

abbrev pub decreases-loop-i : goal.decreases-loop-i
decreases-loop-i l = slots_of l.h.table - l.i
