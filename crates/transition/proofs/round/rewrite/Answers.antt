-- The effects in the rows below m are written. Assumes nothing.
use mathlib.Core.Path.{◌≡◌, refl, ◌∙◌, subst}
use native.Mathlib.Omega.{arith}
use Rattle.transition.specs.Inner.Round.{Rewritten}
use Rattle.transition.proofs.SilentRounds.{rewritten_none, row_inside, row_tellable, rewritten_more}
use Rattle.transition.proofs.round.rewrite.Goals as goal

pub loop-m-init : goal.loop-m-init
loop-m-init c = (refl, λ s x. rewritten_none s _ _)

pub offset_bounds-effects-m : goal.offset_bounds-effects-m
offset_bounds-effects-m c =
    let (s, x) = c.requires in
    omega (arith, x.tabled.few, c.loop-m-test.true)

pub bounds-effects-m : goal.bounds-effects-m
bounds-effects-m c =
    let (s, x) = c.requires in
    omega (arith, x.long, c.loop-m-test.true)

pub overflow_mul-m : goal.overflow_mul-m
overflow_mul-m c =
    let (s, x) = c.requires in
    omega (arith, row_inside x _ c.loop-m-test.true)

pub overflow_add-t : goal.overflow_add-t
overflow_add-t c =
    let (s, x) = c.requires in
    omega (arith, row_inside x _ c.loop-m-test.true)

pub write_told-requires : goal.write_told-requires
write_told-requires c =
    let (s, x) = c.requires in
    row_tellable x c.loop-m-test.true c.loop-m.invariant.0

pub loop-m-preserved : goal.loop-m-preserved
loop-m-preserved c =
    let (long, done) = c.loop-m.invariant in
    (c.write_told.ensures.only.long ∙ long, λ s x. rewritten_more x c.loop-m-test.true long (done s x) c.write_told.ensures)

pub shape_of-work : goal.shape_of-work
shape_of-work c = c.loop-m.invariant.0

pub returns : goal.returns
returns c =
    let (long, done) = c.loop-m.invariant in
    let e : c.loop-m.m ≡ c.args.t.nodes = omega arith in
    λ s x. subst (Rewritten s c.args.t c.args.work.now c.loop-m.work) e (done s x)
