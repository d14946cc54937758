-- The old classes are exact at some depth, and there are `count` of them, at most `limit`; so `limit - count` falls. Assumes nothing.
use Rattle.std.proofs.Common.{refl, ◌∙◌, arith}
use Rattle.chart.proofs.PartitionLevels.{levels_same, valued-many, ordered_valued, parting_start, parted_since}
use Rattle.chart.proofs.PartitionLevels.{parting_sound, parting_finer, parting_many, parting_done, parting_apart}
use Rattle.chart.proofs.PartitionLevels.{parting_more}
use Rattle.chart.proofs.partition.partition.Goals as goal

pub returns-then-limit-count : goal.returns-then-limit-count
returns-then-limit-count c =
    valued-many c.requires.levels.0 c.requires.ordered c.value_level-count.ensures c.if-limit-count.true

pub loop-count-init : goal.loop-count-init
loop-count-init c =
    let start = parting_start c.requires.levels.0 c.requires.ordered c.value_level-count.ensures c.if-limit-count.false in
    (refl, levels_same c.requires.levels.0 c.value_level-count.auto.work, ordered_valued c.requires.levels.0 c.requires.ordered c.value_level-count.ensures, start)

pub level-next-requires : goal.level-next-requires
level-next-requires c =
    let (long, l, o, g) = c.loop-count.invariant in record { levels = (levels_same l long, parting_sound l o g); finer = parting_finer l o g }

pub returns-then-limit-next : goal.returns-then-limit-next
returns-then-limit-next c =
    let (long, l, o, g) = c.loop-count.invariant in
    let many = parting_many l o g c.level-next.ensures c.if-limit-next.true in
    parted_since c.requires.levels.0 c.requires.ordered c.value_level-count.ensures many

pub returns-then-next-count : goal.returns-then-next-count
returns-then-next-count c =
    let (long, l, o, g) = c.loop-count.invariant in
    let done = parting_done l o g c.level-next.ensures c.if-next-count.true in
    parted_since c.requires.levels.0 c.requires.ordered c.value_level-count.ensures done

pub loop-count-preserved : goal.loop-count-preserved
loop-count-preserved c =
    let (long, l, o, g) = c.loop-count.invariant in
    let more = parting_more l o g c.level-next.ensures (omega (arith, c.if-limit-next.false)) c.copy_part.ensures in
    (c.copy_part.auto.work ∙ c.level-next.auto.work ∙ long, l, o, more)

pub returns : goal.returns
returns c =
    let (long, l, o, g) = c.loop-count.invariant in
    parted_since c.requires.levels.0 c.requires.ordered c.value_level-count.ensures (parting_apart l o g c.loop-count-test.false)
