-- The entries below `done` are of rows with the same values, and there are at most 4096. Assumes nothing.
use Rattle.std.proofs.Common.{◌∙◌, ◌<◌, arith}
use Rattle.chart.proofs.SoughtPair.{seeking_few, seeking_place, seeking_paired, seeking_sound, seeking_pairs}
use Rattle.chart.proofs.SoughtPair.{seeking_other, seeking_more, seeking_none}
use Rattle.chart.proofs.pairs.seek.Goals as goal
use Rattle.chart.proofs.pairs.seek.Goals.{In-loop-done}

-- entry `done` is there
few : (c : In-loop-done) → c.loop-done.done < 4096
few c =
    seeking_few c.requires.paired.0 c.requires.paired.1 c.loop-done.invariant.1 c.loop-done-test.true

pub overflow_mul-done : goal.overflow_mul-done
overflow_mul-done c = omega (arith, few c)

pub overflow_add-done : goal.overflow_add-done
overflow_add-done c = omega (arith, few c, c.requires.paired.0)

pub other_value-requires : goal.other_value-requires
other_value-requires c =
    let (long, g) = c.loop-done.invariant in
    seeking_place c.requires.paired.0 c.requires.paired.1 g c.loop-done-test.true long

pub returns-in-Some : goal.returns-in-Some
returns-in-Some c =
    seeking_other c.requires.paired.0 c.requires.paired.1 c.loop-done.invariant.1 c.loop-done-test.true c.in-Some.ensures

pub meet_beliefs-count-requires : goal.meet_beliefs-count-requires
meet_beliefs-count-requires c =
    let (long, g) = c.loop-done.invariant in record { paired = (seeking_paired c.requires.paired.0 c.requires.paired.1 g long, seeking_sound c.requires.paired.0 c.requires.paired.1 g, c.loop-done-test.true); pairs_in = seeking_pairs c.requires.paired.0 c.requires.paired.1 g }

pub loop-done-smaller : goal.loop-done-smaller
loop-done-smaller c = omega (arith, few (goal.at.loop-done-smaller c).In-loop-done)

pub loop-done-preserved : goal.loop-done-preserved
loop-done-preserved c =
    let (long, g) = c.loop-done.invariant in
    (c.meet_beliefs-count.auto.work ∙ long, seeking_more c.requires.paired.0 c.requires.paired.1 g c.loop-done-test.true c.in_default.ensures c.meet_beliefs-count.ensures)

pub returns : goal.returns
returns c =
    seeking_none c.requires.paired.0 c.requires.paired.1 c.loop-done.invariant.1 c.loop-done-test.false
