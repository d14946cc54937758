-- The pass: the rows below i are filled. Assumes nothing.
use mathlib.Core.Path.{refl, ◌∙◌}
use native.Mathlib.Omega.{arith}
use Rattle.chart.specs.Laws.Numbering.{numbering_none}
use Rattle.transition.specs.Inner.Change.{Scene, Stands, Laid}
use Rattle.transition.specs.Laws.ChangedRows.{stands_same}
use Rattle.transition.proofs.ChangePass.{Making, making_start, making_real, making_row, making_end}
use Rattle.transition.proofs.change.change_table.Goals as goal
use Rattle.transition.proofs.change.change_table.Goals.{After-change_row-arg-1}

here : (c : After-change_row-arg-1) {s : Scene} →
    Stands s c.args.pack.now c.args.places.now c.args.effects.now c.args.h c.number_of-root.new.work c.args.h.table → Stands s c.args.pack.now c.args.places.now c.args.effects.now c.args.h c.loop-i.work c.args.h.table
here c {s} x =
    let (long, key, making) = c.loop-i.invariant in
    stands_same x (λ q l. (making s x).low q (omega (arith, c.requires.1.source))) long

laid : (c : After-change_row-arg-1) →
    Laid c.loop-i.work c.args.h.table 40304 40756
laid c =
    record { source = c.requires.1.source; scratch = c.requires.1.scratch; room = omega (arith, c.requires.1.room, c.loop-i.invariant.0, c.number_of-root.auto.work, c.clear.auto.work) }

-- what is made, for the scene at hand
made : (c : After-change_row-arg-1) →
    Making c.requires.0.0 c.args.h c.args.h.table c.number_of-root.new.work c.loop-i.work 40304 40756 c.loop-i.i c.loop-i.count
made c =
    c.loop-i.invariant.2 c.requires.0.0 ((stands_same c.requires.0.1 (λ q l. c.number_of-root.ensures.low q (omega (arith, c.requires.1.source)) ∙ c.clear.ensures.low q (omega (arith, c.requires.1.source))) (c.number_of-root.auto.work ∙ c.clear.auto.work)))

pub overflow_mul-size : goal.overflow_mul-size
overflow_mul-size c = omega (arith, c.requires.0.1.tabled.few)

pub overflow_add-size : goal.overflow_add-size
overflow_add-size c = omega (arith, c.requires.0.1.tabled.few)

pub clear-requires : goal.clear-requires
clear-requires c = omega (arith, c.requires.1)

pub first_slot-first-requires : goal.first_slot-first-requires
first_slot-first-requires c =
    (c.requires.0.1.tabled.few, c.requires.0.1.root, c.requires.0.1.kinds.apart)

pub number_of-root-requires : goal.number_of-root-requires
number_of-root-requires c =
    record { room = (omega (arith, c.requires.1, c.clear.auto.work), omega (arith, c.requires.0.1.tabled.few), omega (arith, c.first_slot-first.ensures.below)); numbering = numbering_none _ _ _ _ c.clear.ensures }

pub more-count-requires : goal.more-count-requires
more-count-requires c = omega (arith, c.number_of-root.ensures.few, c.requires.0.1.tabled.few)

pub loop-i-init : goal.loop-i-init
loop-i-init c =
    (refl, (making_start c.requires.0.0 c.args.h c.args.h.table {u = 40756} c.first_slot-first.ensures c.number_of-root.ensures c.more-count.ensures).1, λ s x. (making_start s c.args.h c.args.h.table c.first_slot-first.ensures c.number_of-root.ensures c.more-count.ensures).0)

pub change_row-count-requires : goal.change_row-count-requires
change_row-count-requires c =
    let g = made c in record { scened = ((c.requires.0.0, here c ((stands_same c.requires.0.1 (λ q l. c.number_of-root.ensures.low q (omega (arith, c.requires.1.source)) ∙ c.clear.ensures.low q (omega (arith, c.requires.1.source))) (c.number_of-root.auto.work ∙ c.clear.auto.work)))), laid c); numbering = (g.numbering, c.loop-i-test.true, making_real c.requires.0.0 c.args.h c.args.h.table g c.loop-i-test.true) }

pub overflow_add-i : goal.overflow_add-i
overflow_add-i c =
    let g = made (goal.at.overflow_add-i c).After-change_row-arg-1 in
    omega (arith, g.room, c.loop-i-test.true, c.requires.0.1.tabled.few)

pub loop-i-smaller : goal.loop-i-smaller
loop-i-smaller c =
    let g = made (goal.at.loop-i-smaller c).After-change_row-arg-1 in
    omega (arith, g.room, c.loop-i-test.true)

pub loop-i-preserved : goal.loop-i-preserved
loop-i-preserved c =
    let (long, key, making) = c.loop-i.invariant in
    (c.change_row-count.auto.work ∙ long, key, λ s x. making_row s _ _ (laid (goal.at.loop-i-preserved c).After-change_row-arg-1) (omega (arith, x.tabled.fits.wide)) (making s x) c.loop-i-test.true (c.change_row-count.ensures s (here (goal.at.loop-i-preserved c).After-change_row-arg-1 x)))

pub shape_of-work : goal.shape_of-work
shape_of-work c = c.loop-i.invariant.0 ∙ c.number_of-root.auto.work ∙ c.clear.auto.work

pub returns : goal.returns
returns c =
    let (long, key, making) = c.loop-i.invariant in
    λ s x. making_end s _ _ (making s ((stands_same x (λ q l. c.number_of-root.ensures.low q (omega (arith, c.requires.1.source)) ∙ c.clear.ensures.low q (omega (arith, c.requires.1.source))) (c.number_of-root.auto.work ∙ c.clear.auto.work)))) c.loop-i-test.false key (λ q l. c.number_of-root.ensures.low q l ∙ c.clear.ensures.low q l) (λ q l. c.number_of-root.ensures.high q l ∙ c.clear.ensures.high q (omega arith)) c.requires.1.scratch
