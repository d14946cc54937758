-- A step put down by the id of the table's slot. Assumes nothing.
use mathlib.Core.Path.{sym}
use Rattle.planner.proofs.TrueMemory.{noted_step}
use Rattle.planner.proofs.steps.note.Goals as goal

pub returns-in-Some : goal.returns-in-Some
returns-in-Some c =
    let (some, is) = c.in-Some.ensures in
    noted_step c.args.p c.requires.0 (sym is) some c.step_at-at.ensures.0 c.step_at-at.ensures.1 c.store_step.ensures
