-- The rows below m are judged. Assumes nothing.
use mathlib.Core.Path.{refl}
use lib.ListN.{length, length-set}
use borrow.Author.Tests.{ltb-true, ltb-false}
use native.Mathlib.Omega.{arith}
use Rattle.transition.proofs.FiringTriggers.{fired_none, fired_more, fired_all}
use Rattle.transition.proofs.fire.fire_all.Goals as goal

pub loop-m-init : goal.loop-m-init
loop-m-init c = (refl, λ d table ts x y. fired_none d _ ts _ table _)

pub firing-at-requires : goal.firing-at-requires
firing-at-requires c = (c.requires.0, c.loop-m-test.true)

pub offset_bounds-effects-m : goal.offset_bounds-effects-m
offset_bounds-effects-m c = omega (arith, c.requires.0.tabled.few, c.loop-m-test.true)

pub bounds-effects-m : goal.bounds-effects-m
bounds-effects-m c = omega (arith, c.requires.1, c.loop-m-test.true, c.loop-m.invariant.0)

pub loop-m-preserved : goal.loop-m-preserved
loop-m-preserved c =
    let (long, fired) = c.loop-m.invariant in (
      simp length-set long,
      λ d table ts x y.
          fired_more d c.args.pack.now ts c.args.t.characters table (fired d table ts x y) (c.firing-at.ensures d table ts x y) (omega (arith, c.requires.1, c.loop-m-test.true, long)) (ltb-true c.firing-at.result (length c.args.pack.now)) (ltb-false c.firing-at.result (length c.args.pack.now)),
    )

pub shape_of-effects : goal.shape_of-effects
shape_of-effects c = c.loop-m.invariant.0

pub returns : goal.returns
returns c =
    let (long, fired) = c.loop-m.invariant in
    λ d table ts x y. fired_all d _ ts _ table (fired d table ts x y) (omega arith) (omega arith)
