-- The characters below d are followed. Assumes nothing.
use Rattle.std.proofs.Common.{sym, ◌<◌, arith}
use Rattle.chart.specs.Laws.Cells.{row_in}
use Rattle.chart.proofs.MetPairs.{entries_most, follows_left, follows_right, follows_meet, follows_more}
use Rattle.chart.proofs.pairs.meet_beliefs.Goals as goal
use Rattle.chart.proofs.pairs.meet_beliefs.Goals.{After-from, After-from-2}

-- the rows of entry `done` are there
left_in : (c : After-from) →
    c.from.result < c.args.t.nodes
left_in c =
    omega (arith, c.from.ensures, (c.requires.pairs_in.inside _ c.requires.paired.2).0)

pub overflow_mul-e : goal.overflow_mul-e
overflow_mul-e c = omega (arith, entries_most c.requires.paired.0.few c.requires.pairs_in)

pub overflow_add-e : goal.overflow_add-e
overflow_add-e c = omega (arith, entries_most c.requires.paired.0.few c.requires.pairs_in, c.requires.paired.0, c.well_formed)

pub bounds-work-e : goal.bounds-work-e
bounds-work-e c = omega (arith, entries_most c.requires.paired.0.few c.requires.pairs_in, c.requires.paired.0)

pub overflow_add-a-2 : goal.overflow_add-a-2
overflow_add-a-2 c =
    omega (arith, row_in _ c.args.t.width _ (left_in (goal.at.overflow_add-a-2 c).After-from), c.requires.paired.0, c.well_formed)

pub overflow_add-e-2 : goal.overflow_add-e-2
overflow_add-e-2 c =
    omega (arith, entries_most c.requires.paired.0.few c.requires.pairs_in, c.requires.paired.0, c.well_formed)

pub bounds-work-e-2 : goal.bounds-work-e-2
bounds-work-e-2 c =
    omega (arith, entries_most c.requires.paired.0.few c.requires.pairs_in, c.requires.paired.0)

pub overflow_add-a-in-loop-d : goal.overflow_add-a-in-loop-d
overflow_add-a-in-loop-d c =
    omega (arith, follows_left c.requires.paired.0 c.loop-d.invariant, c.loop-d-test.true, c.loop-d.invariant.long, c.well_formed)

pub bounds-work-a : goal.bounds-work-a
bounds-work-a c = omega (arith, follows_left c.requires.paired.0 c.loop-d.invariant, c.loop-d-test.true)

pub overflow_add-b-in-loop-d : goal.overflow_add-b-in-loop-d
overflow_add-b-in-loop-d c =
    omega (arith, follows_right c.requires.paired.0 c.loop-d.invariant, c.loop-d-test.true, c.loop-d.invariant.long, c.well_formed)

pub bounds-work-b : goal.bounds-work-b
bounds-work-b c = omega (arith, follows_right c.requires.paired.0 c.loop-d.invariant, c.loop-d-test.true)

pub meet-met-requires : goal.meet-met-requires
meet-met-requires c =
    let (small, room) = follows_meet c.requires.paired.0 c.loop-d.invariant c.requires.paired.1 c.loop-d-test.true (sym c.from-x.ensures) (sym c.from-y.ensures) in record {
      small = small;
      room = room;
    }

pub loop-d-preserved : goal.loop-d-preserved
loop-d-preserved c =
    follows_more c.requires.paired.0 c.loop-d.invariant c.requires.paired.1 c.loop-d-test.true (sym c.from-x.ensures) (sym c.from-y.ensures) c.meet-met.auto.work c.meet-met.ensures
