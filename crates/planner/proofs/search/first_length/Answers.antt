-- The nearest, or one action where none need be played. Assumes nothing.
use native.Mathlib.Omega.{arith}
use Rattle.planner.proofs.search.first_length.Goals as goal

pub returns : goal.returns
returns c = (
  omega (arith, c.max.ensures),
  λ k some l. c.nearest.ensures.beyond k (omega (arith, c.max.ensures, some, l)),
)
