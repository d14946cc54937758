-- The slot's old id is forgotten, its table named, and the step put down. Assumes nothing.
use Prim.Native.Nat.{◌+◌}
use mathlib.Core.Path.{refl, ◌∙◌}
use lib.ListN.{length-set}
use Rattle.planner.specs.Inner.Memory.{id_at}
use Rattle.planner.proofs.TrueMemory.{left_noted, left_unnoted}
use Rattle.planner.proofs.steps.note_left.Goals as goal

pub returns-in-Some : goal.returns-in-Some
returns-in-Some c =
    left_noted c.args.p c.requires.3 c.requires.4 c.requires.0 (c.intern_slot.auto.work ∙ length-set c.args.work.now (id_at c.args.p (c.args.slot + 1)) 0) c.in-Some.ensures.1 c.in-Some.ensures.0 c.note.ensures

pub returns-in_default : goal.returns-in_default
returns-in_default c =
    left_unnoted c.args.p c.requires.3 c.requires.4 c.requires.0 (c.intern_slot.auto.work ∙ length-set c.args.work.now (id_at c.args.p (c.args.slot + 1)) 0) c.in_default.ensures.1 refl
