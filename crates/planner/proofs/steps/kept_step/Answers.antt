-- A step that is known is copied, any other is made and noted. Assumes nothing.
use Prim.Native.Nat.{◌+◌, ◌<◌}
use mathlib.Core.Path.{refl, ap, sym, ◌∙◌, subst}
use native.Mathlib.Omega.{arith}
use Rattle.pack.specs.State.{meaning}
use Rattle.pack.specs.declared.table.Table.{Table}
use Rattle.transition.specs.Laws.ChangedRows.{small}
use Rattle.transition.specs.Laws.Stopped.{plays_zero, stopped_some}
use Rattle.planner.specs.Inner.Memory.{id_byte, step_at, StepRead, Noted, LeftNoted}
use Rattle.planner.specs.Inner.Explain.{Advanced}
use Rattle.planner.proofs.Explanations.{stage_before, stage_slot, stage_same, stage_setting, table_stage, known_fact, step_again, step_left, step_refused}
use Rattle.planner.proofs.LastNoted.{unread_step, once_again, once_refused, once_left}
use Rattle.planner.proofs.steps.kept_step.Goals as goal
use Rattle.planner.proofs.steps.kept_step.Goals.{in-Some+else-step_is, in_default}

pub table_in-t-requires : goal.table_in-t-requires
table_in-t-requires c =
    let ((th, (T, (x, m))), there, row, free) = c.requires in
    (omega (arith, free, x.room, x.laid.room), omega (arith, small x.tabled))

pub id_of-requires : goal.id_of-requires
id_of-requires c =
    let ((th, (T, (x, m))), there, row, free) = c.requires in
    stage_before x (omega (arith, free))

pub step_at-at-requires : goal.step_at-at-requires
step_at-at-requires c =
    let ((th, (T, (x, m))), there, row, free) = c.requires in
    (x.laid, c.in-Some.ensures.1.interning.small, omega (arith, row, x.tabled.few), omega (arith, there, x.theorized.found.most_actions))

pub step_is-requires : goal.step_is-requires
step_is-requires c =
    let ((th, (T, (x, m))), there, row, free) = c.requires in
    omega (arith, c.step_at-at.ensures.1.is, c.step_at-at.ensures.1.few, c.id_of.auto.work, x.room, x.laid.room)

pub overflow_add-at : goal.overflow_add-at
overflow_add-at c =
    let ((th, (T, (x, m))), there, row, free) = c.requires in
    omega (arith, c.step_at-at.ensures.1.is, c.step_at-at.ensures.1.few, x.laid.room)

pub bounds-work-at : goal.bounds-work-at
bounds-work-at c =
    let ((th, (T, (x, m))), there, row, free) = c.requires in
    omega (arith, c.step_at-at.ensures.1.is, c.step_at-at.ensures.1.few, c.id_of.auto.work, x.room, x.laid.room)

pub overflow_add-slot : goal.overflow_add-slot
overflow_add-slot c =
    let ((th, (T, (x, m))), there, row, free) = c.requires in
    omega (arith, free, x.laid.room)

pub again-requires : goal.again-requires
again-requires c =
    let ((th, (T, (x, m))), there, row, free) = c.requires in
    let fact = known_fact x free c.args.root c.in-Some.ensures.1.interning c.id_of.auto.work (c.step_is.ensures.0 c.if-step_is.true) c.step_at-at.ensures.1 (sym c.id_in-next.ensures.1) m in
    (stage_slot (stage_same x (λ q l. c.in-Some.ensures.1.interning.only.low q (omega (arith, l, free))) c.id_of.auto.work) free, (c.id_in-next.ensures.0, (omega (arith, c.id_in-next.ensures.1, c.slice_known-then-step_is-1.given (c.step_at-at.result + 3)), λ z. (fact.left z).0)))

pub returns-then-step_is : goal.returns-then-step_is
returns-then-step_is c =
    let ((th, (T, (x, m))), there, row, free) = c.requires in
    let read = c.step_is.ensures.0 c.if-step_is.true in (
      λ th T x m. step_again x free c.args.root c.in-Some.ensures.1.interning c.id_of.auto.work read c.step_at-at.ensures.1 (sym c.id_in-next.ensures.1) m c.again.ensures,
      once_again c.args.p c.in-Some.ensures.1 c.step_at-at.ensures.0 c.step_at-at.ensures.1 (stage_slot x free) x.slotted read (sym c.id_in-next.ensures.1) c.again.ensures,
    )

pub overflow_add-slot-2 : goal.overflow_add-slot-2
overflow_add-slot-2 c =
    let ((th, (T, (x, m))), there, row, free) = c.requires in
    omega (arith, free, x.laid.room)

pub step_slot-requires : goal.step_slot-requires
step_slot-requires c =
    let ((th, (T, (x, m))), there, row, free) = c.requires in
    let y = table_stage c.table_in-t.ensures x in
    (th, (T, (_, (stage_setting (stage_same y (λ q l. c.id_of.ensures.1.interning.only.low q (omega (arith, l, free))) c.id_of.auto.work) free, there, (subst (λ (t : Table). c.args.root < t.nodes) (sym c.table_in-t.ensures) row)))))

pub overflow_add-slot-then-plays : goal.overflow_add-slot-then-plays
overflow_add-slot-then-plays c =
    let ((th, (T, (x, m))), there, row, free) = c.requires in
    omega (arith, free, x.laid.room)

pub note_left-requires : goal.note_left-requires
note_left-requires c =
    let ((th, (T, (x, m))), there, row, free) = c.requires in
    let y = table_stage c.table_in-t.ensures x in
    let y' = stage_same y (λ q l. c.id_of.ensures.1.interning.only.low q (omega (arith, l, free))) c.id_of.auto.work in
    let z = c.step_slot.ensures th T _ (stage_setting y' free) there (subst (λ (t : Table). c.args.root < t.nodes) (sym c.table_in-t.ensures) row) in
    let y'' = stage_same y' z.only.low c.step_slot.auto.work in
    (stage_before y'' (omega (arith, free)), omega (arith, row, x.tabled.few), omega (arith, there, x.theorized.found.most_actions), stage_slot y'' free, (z.plays (plays_zero _ (sym c.is_ok-plays.ensures.value ∙ c.if-plays.true))).2.few)

pub note-requires : goal.note-requires
note-requires c =
    let ((th, (T, (x, m))), there, row, free) = c.requires in
    let y = table_stage c.table_in-t.ensures x in
    let y' = stage_same y (λ q l. c.id_of.ensures.1.interning.only.low q (omega (arith, l, free))) c.id_of.auto.work in
    let z = c.step_slot.ensures th T _ (stage_setting y' free) there (subst (λ (t : Table). c.args.root < t.nodes) (sym c.table_in-t.ensures) row) in
    let y'' = stage_same y' z.only.low c.step_slot.auto.work in
    (stage_before y'' (omega (arith, free)), omega (arith, row, x.tabled.few), omega (arith, there, x.theorized.found.most_actions), omega arith)

pub returns-then-plays : goal.returns-then-plays
returns-then-plays c =
    let (_, there, row, free) = c.requires in
    let unread : ¬ StepRead c.id_of.new.work (step_at c.args.p (id_byte c.id_of.result) c.args.root c.args.action) (id_byte c.id_of.result) c.args.root c.args.action = elim c.match-id_of.branch [
      | in-Some+else-step_is w ↦ unread_step c.args.p w.in-Some.is w.step_at-at.ensures.0 (w.step_is.ensures.1 w.if-step_is.false)
      | in_default w ↦ λ x. omega (arith, ap id_byte w.in_default.is, x.some)
    ] in (
      λ th T x m.
          let y = table_stage c.table_in-t.ensures x in
          let y' = stage_same y (λ q l. c.id_of.ensures.1.interning.only.low q (omega (arith, l, free))) c.id_of.auto.work in
          subst (λ (t : Table). Advanced th c.args.p.foresight.0 c.args.p (meaning t.characters T c.args.root) c.args.action t c.args.work.now c.note_left.new.work (c.args.slot + c.args.p.stride) c.is_ok-plays.result) c.table_in-t.ensures
          (step_left y free c.args.root c.id_of.ensures.1.interning.only (c.id_of.ensures.1.interning.told th c.args.p.foresight.0 (c.args.slot + c.args.p.stride) (omega (arith, free)) x.slotted m).0 (c.step_slot.ensures th T _ (stage_setting y' free) there (subst (λ (t : Table). c.args.root < t.nodes) (sym c.table_in-t.ensures) row)) (c.step_slot.auto.work ∙ c.id_of.auto.work) (plays_zero _ (sym c.is_ok-plays.ensures.value ∙ c.if-plays.true)) c.if-plays.true c.note_left.ensures),
      once_left c.args.p c.id_of.ensures.1 refl unread c.if-plays.true (subst (λ (t : Table). LeftNoted c.args.p t c.args.root c.args.action (c.args.slot + c.args.p.stride) c.step_slot.new.work c.note_left.new.work) c.table_in-t.ensures c.note_left.ensures),
    )

pub returns-else-plays : goal.returns-else-plays
returns-else-plays c =
    let (_, there, row, free) = c.requires in
    let unread : ¬ StepRead c.id_of.new.work (step_at c.args.p (id_byte c.id_of.result) c.args.root c.args.action) (id_byte c.id_of.result) c.args.root c.args.action = elim c.match-id_of.branch [
      | in-Some+else-step_is w ↦ unread_step c.args.p w.in-Some.is w.step_at-at.ensures.0 (w.step_is.ensures.1 w.if-step_is.false)
      | in_default w ↦ λ x. omega (arith, ap id_byte w.in_default.is, x.some)
    ] in (
      λ th T x m.
          let y = table_stage c.table_in-t.ensures x in
          let y' = stage_same y (λ q l. c.id_of.ensures.1.interning.only.low q (omega (arith, l, free))) c.id_of.auto.work in
          subst (λ (t : Table). Advanced th c.args.p.foresight.0 c.args.p (meaning t.characters T c.args.root) c.args.action t c.args.work.now c.note.new.work (c.args.slot + c.args.p.stride) c.is_ok-plays.result) c.table_in-t.ensures
          (step_refused y free c.args.root c.id_of.ensures.1.interning.only (c.id_of.ensures.1.interning.told th c.args.p.foresight.0 (c.args.slot + c.args.p.stride) (omega (arith, free)) x.slotted m).0 (c.step_slot.ensures th T _ (stage_setting y' free) there (subst (λ (t : Table). c.args.root < t.nodes) (sym c.table_in-t.ensures) row)) (c.step_slot.auto.work ∙ c.id_of.auto.work) (stopped_some _ (sym c.is_ok-plays.ensures.value ∙ c.if-plays.false)) c.if-plays.false c.note.ensures),
      once_refused c.args.p c.id_of.ensures.1 refl unread c.if-plays.false (subst (λ (t : Table). Noted c.args.p t c.args.root c.args.action 0 c.step_slot.new.work c.note.new.work) c.table_in-t.ensures c.note.ensures),
    )
