-- What the triggers below i write is in range. Assumes nothing.
use Prim.Native.Nat.{◌+◌, ◌*◌}
use mathlib.Core.Path.{◌∙◌}
use native.Mathlib.Omega.{arith}
use Rattle.planner.specs.Inner.Range.{wider_then}
use Rattle.planner.proofs.Pruning.{trigger_readable, triggers_more}
use Rattle.planner.proofs.range.widen_by_triggers.Goals as goal

pub overflow_cast-effects : goal.overflow_cast-effects
overflow_cast-effects c = omega (arith, c.type_inv.places (289 + 2 * c.loop-i.i))

pub widen-requires : goal.widen-requires
widen-requires c =
    (trigger_readable _ _ _ c.loop-i.i c.loop-i-test.true c.requires.0, record { lowest = omega (arith, c.loop-i.invariant.0, c.requires.1.lowest); highest = omega (arith, c.loop-i.invariant.1, c.requires.1.highest) })

pub loop-i-preserved : goal.loop-i-preserved
loop-i-preserved c =
    let (long, tall, wider, old) = c.loop-i.invariant in (
      c.widen.auto.lows ∙ long,
      c.widen.auto.highs ∙ tall,
      wider_then wider c.widen.ensures.wider,
      λ p n x. triggers_more _ _ _ c.loop-i.i c.loop-i-test.true c.widen.ensures p n x (old p n x),
    )
