-- None of the triggers below i holds. Assumes nothing.
use mathlib.Core.Path.{refl}
use Prim.Native.Nat.{◌+◌, ◌*◌, ◌<◌, ◌≤◌}
use lib.ListN.{length}
use native.Mathlib.Omega.{arith}
use Rattle.transition.proofs.FiringTriggers.{fire_judged, idle_more, fires_here, fires-nothing}
use Rattle.transition.proofs.fire.firing.Goals as goal
use Rattle.transition.proofs.fire.firing.Goals.{In-loop-i}

-- the places of the triggers are marked
few : (c : In-loop-i) →
    (c.loop-i.i < 16) × (327 ≤ length c.args.places.now)
few c =
    (omega (arith, c.requires.0.triggered.few, c.loop-i-test.true), c.requires.0.triggered.marked)

pub loop-i-init : goal.loop-i-init
loop-i-init c = λ d table ts x y j l. absurd (omega arith)

pub overflow_mul-i : goal.overflow_mul-i
overflow_mul-i c = omega (arith, few c)

pub overflow_add-i : goal.overflow_add-i
overflow_add-i c = omega (arith, few c)

pub offset_bounds-places-i : goal.offset_bounds-places-i
offset_bounds-places-i c = omega (arith, few c)

pub bounds-places-i : goal.bounds-places-i
bounds-places-i c = omega (arith, few (goal.at.bounds-places-i c).In-loop-i)

pub overflow_cast-places : goal.overflow_cast-places
overflow_cast-places c = omega (arith, c.type_inv.places (288 + 2 * c.loop-i.i))

pub holds-requires : goal.holds-requires
holds-requires c = fire_judged _ _ _ _ c.args.m _ c.requires.0 c.requires.1 _ c.loop-i-test.true

pub overflow_mul-result : goal.overflow_mul-result
overflow_mul-result c = omega (arith, few (goal.at.overflow_mul-result c).In-loop-i)

pub overflow_add-result : goal.overflow_add-result
overflow_add-result c = omega (arith, few (goal.at.overflow_add-result c).In-loop-i)

pub offset_bounds-places-i-then-holds : goal.offset_bounds-places-i-then-holds
offset_bounds-places-i-then-holds c =
    omega (arith, few (goal.at.offset_bounds-places-i-then-holds c).In-loop-i)

pub bounds-places-i-then-holds : goal.bounds-places-i-then-holds
bounds-places-i-then-holds c = omega (arith, few (goal.at.bounds-places-i-then-holds c).In-loop-i)

pub returns-then-holds : goal.returns-then-holds
returns-then-holds c =
    fires_here c.args.pack.now c.args.places.now c.args.work.now c.args.triggers c.args.m c.args.t c.loop-i.i c.loop-i-test.true c.holds.ensures c.loop-i.invariant c.if-holds.true _ refl

pub loop-i-preserved : goal.loop-i-preserved
loop-i-preserved c =
    idle_more c.args.pack.now c.args.places.now c.args.work.now c.args.triggers c.args.m c.args.t c.loop-i.i c.loop-i-test.true c.holds.ensures c.loop-i.invariant c.if-holds.false

pub returns : goal.returns
returns c =
    fires-nothing c.args.pack.now c.args.places.now c.args.work.now c.args.triggers c.args.m c.args.t c.loop-i-test.false c.loop-i.invariant
