-- A step that is made, and whose slot has no id. Assumes nothing.
use Prim.Native.Nat.{◌+◌, ◌<◌}
use mathlib.Core.Path.{sym, ◌∙◌, subst}
use native.Mathlib.Omega.{arith}
use lib.ListN.{set, length-set}
use Rattle.pack.specs.State.{meaning}
use Rattle.pack.specs.declared.table.Table.{Table}
use Rattle.transition.specs.Laws.ChangedRows.{small}
use Rattle.transition.specs.Laws.Stopped.{plays_zero, stopped_some}
use Rattle.planner.specs.Inner.Memory.{id_at}
use Rattle.planner.specs.Inner.Explain.{Advanced}
use Rattle.planner.proofs.TrueMemory.{unasked_only, memory_unasked}
use Rattle.planner.proofs.Explanations.{stage_slot, stage_same, stage_setting, table_stage, step_plain}
use Rattle.planner.proofs.steps.plain_step.Goals as goal

pub table_in-t-requires : goal.table_in-t-requires
table_in-t-requires c =
    let ((th, (T, (x, m))), there, row, free) = c.requires in
    (omega (arith, free, x.room, x.laid.room), omega (arith, small x.tabled))

pub count_step-requires : goal.count_step-requires
count_step-requires c =
    let ((th, (T, (x, m))), there, row, free) = c.requires in
    (omega (arith, x.laid.room), x.room)

pub overflow_add-next : goal.overflow_add-next
overflow_add-next c =
    let ((th, (T, (x, m))), there, row, free) = c.requires in
    omega (arith, free, x.laid.room)

pub step_slot-requires : goal.step_slot-requires
step_slot-requires c =
    let ((th, (T, (x, m))), there, row, free) = c.requires in
    let y = table_stage c.table_in-t.ensures x in
    let y' = stage_same y (λ q l. c.count_step.ensures.low q (omega (arith, l, free))) c.count_step.auto.work in
    let row' = subst (λ (t : Table). c.args.root < t.nodes) (sym c.table_in-t.ensures) row in
    (th, (T, (_, (stage_setting y' free, there, row'))))

pub overflow_add-work : goal.overflow_add-work
overflow_add-work c =
    let ((th, (T, (x, m))), there, row, free) = c.requires in
    omega (arith, free, x.laid.room)

pub overflow_add-work-2 : goal.overflow_add-work-2
overflow_add-work-2 c =
    let ((th, (T, (x, m))), there, row, free) = c.requires in
    omega (arith, x.laid.room)

pub bounds-work-p : goal.bounds-work-p
bounds-work-p c =
    let ((th, (T, (x, m))), there, row, free) = c.requires in
    omega (arith, x.laid.room, x.room, c.step_slot.auto.work, c.count_step.auto.work)

pub shape_of-work : goal.shape_of-work
shape_of-work c =
    length-set c.step_slot.new.work (id_at c.args.p (c.args.slot + c.args.p.stride + 1)) 0 ∙ c.step_slot.auto.work ∙ c.count_step.auto.work

pub returns : goal.returns
returns c =
    let (_, there, row, free) = c.requires in
    λ th T x m.
    let y = table_stage c.table_in-t.ensures x in
    let y' = stage_same y (λ q l. c.count_step.ensures.low q (omega (arith, l, free))) c.count_step.auto.work in
    let row' = subst (λ (t : Table). c.args.root < t.nodes) (sym c.table_in-t.ensures) row in
    let z = c.step_slot.ensures th T _ (stage_setting y' free) there row' in
    let after = stage_slot (stage_same y' z.only.low c.step_slot.auto.work) free in
    subst (λ (t : Table). Advanced th c.args.p.foresight.0 c.args.p (meaning t.characters T c.args.root) c.args.action t c.args.work.now (set c.step_slot.new.work (id_at c.args.p (c.args.slot + c.args.p.stride + 1)) 0) (c.args.slot + c.args.p.stride) c.is_ok-plays.result) c.table_in-t.ensures
    (step_plain y free c.args.root (unasked_only c.args.p x.laid c.count_step.ensures) (memory_unasked c.args.p c.count_step.ensures (omega (arith, free)) m) z (c.step_slot.auto.work ∙ c.count_step.auto.work) (λ e. plays_zero _ (sym c.is_ok-plays.ensures.value ∙ e)) (λ e. stopped_some _ (sym c.is_ok-plays.ensures.value ∙ e)) after)
