-- The rows below i are classed. Assumes nothing.
use Rattle.std.proofs.Common.{arith}
use Rattle.chart.proofs.Levels.{leveling_none, leveling_against, leveling_row, leveling_end}
use Rattle.chart.proofs.partition.level.Goals as goal

pub loop-i-init : goal.loop-i-init
loop-i-init c = leveling_none _ _ _ _ _ _ _ _ _

pub class_row-count-requires : goal.class_row-count-requires
class_row-count-requires c =
    let (l, sound) = c.requires.levels in
    let g = c.loop-i.invariant in record {
      room = (omega (arith, l), omega (arith, l, g.fewer), omega (arith, l), omega (arith, l, g.fewer));
      against = leveling_against l sound c.requires.finer c.loop-i.auto.work g c.loop-i-test.true;
    }

pub loop-i-preserved : goal.loop-i-preserved
loop-i-preserved c =
    let (l, sound) = c.requires.levels in
    leveling_row l sound c.requires.finer c.loop-i.auto.work c.loop-i.invariant c.loop-i-test.true c.class_row-count.ensures

pub returns : goal.returns
returns c =
    let (l, sound) = c.requires.levels in
    leveling_end l sound c.requires.finer c.loop-i.auto.work c.loop-i.invariant c.loop-i-test.false
