-- The classes of the rows; where each row is one, the table stands as it is, else the merged rows are put in its place. Assumes nothing.
use mathlib.Core.Path.{◌∙◌}
use native.Mathlib.Omega.{arith}
use Rattle.transition.proofs.SilentRounds.{slot_levels, slot_classed, slot_apart, has_slot_room, slot_few, slot_done}
use Rattle.transition.proofs.round.merge_slot.Goals as goal

pub partition-classes-requires : goal.partition-classes-requires
partition-classes-requires c =
    record { levels = (slot_levels c.requires, c.requires.some, omega arith); ordered = c.requires.ordered }

pub shape_of-work-then-t-classes : goal.shape_of-work-then-t-classes
shape_of-work-then-t-classes c = c.partition-classes.auto.work

pub returns-then-t-classes : goal.returns-then-t-classes
returns-then-t-classes c = slot_apart c.requires c.partition-classes.ensures c.if-t-classes.true

pub write_merged-count-requires : goal.write_merged-count-requires
write_merged-count-requires c =
    record { room = has_slot_room c.requires c.partition-classes.ensures c.partition-classes.auto.work; classed = slot_classed c.requires c.partition-classes.ensures }

pub put_down-requires : goal.put_down-requires
put_down-requires c =
    let (some, most, slim, inside) = slot_few c.requires c.partition-classes.ensures c.write_merged-count.ensures in
    (most, inside, omega arith, omega (arith, slim, c.requires.room, c.write_merged-count.auto.work ∙ c.partition-classes.auto.work))

pub shape_of-work : goal.shape_of-work
shape_of-work c = c.put_down.auto.work ∙ c.write_merged-count.auto.work ∙ c.partition-classes.auto.work

pub returns : goal.returns
returns c =
    slot_done c.requires c.partition-classes.ensures c.write_merged-count.ensures (c.write_merged-count.auto.work ∙ c.partition-classes.auto.work) c.put_down.ensures
