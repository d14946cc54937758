-- The next step's line is put after those passed. Assumes nothing.
use Rattle.std.proofs.Common.{arith, refl, sym, ◌∙◌}
use Rattle.ending.proofs.Pieces.{put-length, put-steps_none, put-steps_next}
use Rattle.ending.proofs.text.put_steps.Goals as goal

pub loop-i-init : goal.loop-i-init
loop-i-init c = (omega arith, refl, omega arith, put-steps_none _)

pub loop-i-preserved : goal.loop-i-preserved
loop-i-preserved c =
    let step = c.put_step-end.ensures in (
      omega (arith, c.loop-i-test.true),
      put-length step.0 ∙ c.loop-i.invariant.1,
      omega (arith, step.1, c.loop-i.invariant.2),
      put-steps_next c.args.list.now c.loop-i.i (omega (arith, c.loop-i-test.true, c.requires.0)) c.loop-i.invariant.3
          (sym c.from.ensures) step.0,
    )
