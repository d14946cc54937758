-- Of the rows below i, the first of each class is put. Assumes nothing.
use Rattle.std.proofs.Common.{◌≡◌, arith}
use Rattle.chart.specs.Laws.MergedRows.{writing_none, writing_more, written_out, ordered_sound, room_same, sound_below}
use Rattle.chart.proofs.merge.write_merged.Goals as goal

pub loop-i-init : goal.loop-i-init
loop-i-init c = writing_none _ _ _ _ _ _ _ _

pub write_class-count-requires : goal.write_class-count-requires
write_class-count-requires c =
    let low = c.loop-i.invariant.low in record {
      room = room_same c.requires.room c.loop-i.auto.work low;
      sound = sound_below c.requires.room (ordered_sound c.requires.classed.ordered) low;
      within = (c.loop-i-test.true, omega (arith, c.loop-i.invariant.few));
    }

pub loop-i-preserved : goal.loop-i-preserved
loop-i-preserved c =
    writing_more c.requires.room (ordered_sound c.requires.classed.ordered) c.requires.classed.numbered c.loop-i-test.true c.loop-i.invariant c.write_class-count.ensures

pub returns : goal.returns
returns c =
    let e : c.loop-i.i ≡ c.args.t.nodes = omega arith in
    written_out c.requires.classed (rw e at c.loop-i.invariant)
