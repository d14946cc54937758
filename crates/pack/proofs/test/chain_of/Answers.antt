-- The first byte of a test. Assumes nothing.
use mathlib.Core.Path.{◌∙◌}
use native.Mathlib.Omega.{arith}
use Rattle.pack.specs.Laws.OneByte.{test_read, chain_length}
use Rattle.pack.proofs.test.chain_of.Goals as goal

pub bounds-s-at : goal.bounds-s-at
bounds-s-at c = omega (arith, test_read c.requires)

pub returns : goal.returns
returns c = λ d small x n e. c.from.ensures ∙ chain_length d small _ _ x n e
