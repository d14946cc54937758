-- What is farther than so many actions is out of reach. Assumes nothing.
use native.Mathlib.Omega.{arith}
use borrow.Author.Tests.{leb-false}
use Rattle.planner.proofs.reach.within_reach.Goals as goal

pub returns-else-not-is_large : goal.returns-else-not-is_large
returns-else-not-is_large c =
    λ e. c.nearest.ensures.beyond c.args.h.left (omega (arith, leb-false c.nearest.result c.args.h.left e))
