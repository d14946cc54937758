-- A test is four bytes and its chain. Assumes nothing.
use native.Mathlib.Omega.{arith}
use Rattle.pack.specs.Laws.OneByte.{test_bytes_lem, test_read}
use Rattle.pack.proofs.test.after_test.Goals as goal

pub overflow_add-result : goal.overflow_add-result
overflow_add-result c = omega (arith, test_read c.requires)

pub bounds-s-at : goal.bounds-s-at
bounds-s-at c = omega (arith, test_read c.requires)

pub overflow_add-result-2 : goal.overflow_add-result-2
overflow_add-result-2 c = omega (arith, test_read c.requires, c.from.ensures)

pub returns : goal.returns
returns c = λ d small x n e. omega (arith, (test_bytes_lem d small _ _ x n e).ends, c.from.ensures)
