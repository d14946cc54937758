-- The slots of the characters below d are put. Assumes nothing.
use mathlib.Core.Path.{refl}
use lib.ListN.{length-set}
use native.Mathlib.Omega.{arith}
use Rattle.transition.specs.Inner.Change.{Scene, Stands}
use Rattle.transition.specs.Laws.ChangedRows.{stands_same, slots_none, slots_more, slots_all}
use Rattle.transition.proofs.change.put_slots.Goals as goal
use Rattle.transition.proofs.change.put_slots.Goals.{In-loop-d}

-- the table is as it was
here : (c : In-loop-d) {s : Scene} →
    Stands s c.args.pack.now c.args.places.now c.args.effects.now c.args.h c.args.work.now c.args.h.table → Stands s c.args.pack.now c.args.places.now c.args.effects.now c.args.h c.loop-d.work c.args.h.table
here c x =
    let (long, put) = c.loop-d.invariant in
    stands_same x (λ q l. (put c.requires.0.0 c.requires.0.1).low q (omega (arith, c.requires.2))) long

pub loop-d-init : goal.loop-d-init
loop-d-init c = (refl, λ s x. slots_none _ _ _ _ _)

pub slot_of-x-requires : goal.slot_of-x-requires
slot_of-x-requires c = ((c.requires.0.0, here c c.requires.0.1), c.requires.1, c.loop-d-test.true)

pub overflow_cast-work : goal.overflow_cast-work
overflow_cast-work c =
    omega (arith, (c.slot_of-x.ensures c.requires.0.0 (here (goal.at.overflow_cast-work c).In-loop-d c.requires.0.1)).below, c.requires.0.1.tabled.few)

pub overflow_add-work : goal.overflow_add-work
overflow_add-work c = omega (arith, c.requires.3, c.loop-d-test.true)

pub bounds-work-to : goal.bounds-work-to
bounds-work-to c = omega (arith, c.requires.3, c.loop-d-test.true, c.loop-d.invariant.0)

pub loop-d-preserved : goal.loop-d-preserved
loop-d-preserved c =
    let (long, put) = c.loop-d.invariant in
    (simp length-set long, λ s x. slots_more (put s x) (c.slot_of-x.ensures s (here (goal.at.loop-d-preserved c).In-loop-d x)) (omega (arith, c.requires.3, c.loop-d-test.true, long)))

pub shape_of-work : goal.shape_of-work
shape_of-work c = c.loop-d.invariant.0

pub returns : goal.returns
returns c =
    λ s x. let (long, put) = c.loop-d.invariant in slots_all (put s x) (omega arith) (omega arith)
