-- What the actions below x write that could be played is in range. Assumes nothing.
use mathlib.Core.Path.{◌∙◌}
use Rattle.planner.specs.Inner.Range.{wider_then}
use Rattle.planner.proofs.Reckoning.{actions_more}
use Rattle.planner.proofs.reach.widen_level.Goals as goal

pub loop-x-preserved : goal.loop-x-preserved
loop-x-preserved c =
    let (long, tall, wider, old) = c.loop-x.invariant in (
      c.widen_action.auto.lows ∙ long,
      c.widen_action.auto.highs ∙ tall,
      wider_then wider c.widen_action.ensures.wider,
      λ p n x. actions_more _ _ c.loop-x-test.true c.widen_action.ensures p n x (old p n x),
    )
