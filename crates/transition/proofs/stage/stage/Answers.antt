-- The pass, the classes, and the rows put into the slot: as they stand where each is a class of its own, else the merged ones. Assumes nothing.
use mathlib.Core.Path.{◌∙◌}
use Prim.Native.Nat.{◌≤◌}
use native.Mathlib.Omega.{arith}
use Rattle.transition.specs.Laws.ChangedRows.{small}
use Rattle.transition.proofs.Stages.{stage_laid, stage_one, stage_levels, stage_many, stage_room, stage_classed, apart_inside, stage_apart, stage_few, stage_inside, stage_done}
use Rattle.transition.proofs.stage.stage.Goals as goal

pub change_table-rows-requires : goal.change_table-rows-requires
change_table-rows-requires c = (c.requires.0, stage_laid c.requires.0.1 c.requires.1)

pub put_down-requires : goal.put_down-requires
put_down-requires c =
    let slim : c.args.h.table.width ≤ 30 = omega (arith, c.requires.0.1.tabled.fits.wide, small c.requires.0.1.tabled) in
    (omega arith, omega (arith, slim, c.requires.1.has_slot_room), omega arith, omega (arith, slim, c.requires.1.room, c.change_table-rows.auto.work))

pub shape_of-work-then-rows-eq1 : goal.shape_of-work-then-rows-eq1
shape_of-work-then-rows-eq1 c = c.put_down.auto.work ∙ c.change_table-rows.auto.work

pub returns-then-rows-eq1 : goal.returns-then-rows-eq1
returns-then-rows-eq1 c =
    λ s x. stage_one x c.requires.1 (c.change_table-rows.ensures s x) c.change_table-rows.auto.work c.if-rows-eq1.true c.put_down.ensures

pub partition-classes-requires : goal.partition-classes-requires
partition-classes-requires c =
    let y = c.change_table-rows.ensures c.requires.0.0 c.requires.0.1 in record { levels = (stage_levels c.requires.0.1 c.requires.1 y c.change_table-rows.auto.work, y.some, omega arith); ordered = y.ordered }

pub shape_of-work-then-classes-gt32 : goal.shape_of-work-then-classes-gt32
shape_of-work-then-classes-gt32 c = c.partition-classes.auto.work ∙ c.change_table-rows.auto.work

pub returns-then-classes-gt32 : goal.returns-then-classes-gt32
returns-then-classes-gt32 c =
    λ s x. stage_many x c.requires.1 (c.change_table-rows.ensures s x) c.change_table-rows.auto.work c.partition-classes.ensures c.partition-classes.auto.work c.if-classes-gt32.true

pub put_down-requires-then-rows-classes : goal.put_down-requires-then-rows-classes
put_down-requires-then-rows-classes c =
    let (few, slim, inside) = apart_inside c.requires.0.1 c.requires.1 (c.change_table-rows.ensures c.requires.0.0 c.requires.0.1) c.change_table-rows.auto.work c.partition-classes.ensures c.partition-classes.auto.work (omega (arith, c.if-classes-gt32.false)) c.if-rows-classes.true in
    (few, slim, omega arith, inside)

pub shape_of-work-then-rows-classes : goal.shape_of-work-then-rows-classes
shape_of-work-then-rows-classes c =
    c.put_down-then-rows-classes.auto.work ∙ c.partition-classes.auto.work ∙ c.change_table-rows.auto.work

pub returns-then-rows-classes : goal.returns-then-rows-classes
returns-then-rows-classes c =
    λ s x. stage_apart x c.requires.1 (c.change_table-rows.ensures s x) c.change_table-rows.auto.work c.partition-classes.ensures c.partition-classes.auto.work (omega (arith, c.if-classes-gt32.false)) c.if-rows-classes.true c.put_down-then-rows-classes.ensures

pub write_merged-count-requires : goal.write_merged-count-requires
write_merged-count-requires c =
    let y = c.change_table-rows.ensures c.requires.0.0 c.requires.0.1 in record { room = stage_room c.requires.0.1 c.requires.1 y c.change_table-rows.auto.work c.partition-classes.ensures c.partition-classes.auto.work (omega (arith, c.if-classes-gt32.false)); classed = stage_classed c.requires.0.1 c.requires.1 y c.change_table-rows.auto.work c.partition-classes.ensures c.partition-classes.auto.work (omega (arith, c.if-classes-gt32.false)) }

pub put_down-requires-2 : goal.put_down-requires-2
put_down-requires-2 c =
    let y = c.change_table-rows.ensures c.requires.0.0 c.requires.0.1 in
    let l : c.partition-classes.result ≤ 32 = omega (arith, c.if-classes-gt32.false) in
    let (inside, slim, room) = stage_inside c.requires.0.1 c.requires.1 y c.change_table-rows.auto.work c.partition-classes.ensures c.partition-classes.auto.work l c.write_merged-count.ensures in
    ((stage_few c.requires.0.1 c.requires.1 y c.change_table-rows.auto.work c.partition-classes.ensures c.partition-classes.auto.work l c.write_merged-count.ensures).1, slim, omega arith, omega (arith, inside, room, c.write_merged-count.auto.work ∙ c.partition-classes.auto.work ∙ c.change_table-rows.auto.work))

pub shape_of-work : goal.shape_of-work
shape_of-work c =
    c.put_down-2.auto.work ∙ c.write_merged-count.auto.work ∙ c.partition-classes.auto.work ∙ c.change_table-rows.auto.work

pub returns : goal.returns
returns c =
    λ s x. stage_done x c.requires.1 (c.change_table-rows.ensures s x) c.change_table-rows.auto.work c.partition-classes.ensures c.partition-classes.auto.work (omega (arith, c.if-classes-gt32.false)) c.write_merged-count.ensures (c.write_merged-count.auto.work ∙ c.partition-classes.auto.work ∙ c.change_table-rows.auto.work) c.put_down-2.ensures
