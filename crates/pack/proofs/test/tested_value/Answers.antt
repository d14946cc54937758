-- The byte behind the chain, the kind and the fluent. Assumes nothing.
use Prim.Native.Nat.{ℕ, ◌+◌}
use mathlib.Core.Path.{◌≡◌, sym, ap, ◌∙◌}
use native.Mathlib.Omega.{arith}
use lib.ListN.{get_or}
use Rattle.pack.specs.Laws.OneByte.{test_bytes_lem, test_read}
use Rattle.pack.proofs.test.tested_value.Goals as goal

pub bounds-s-at : goal.bounds-s-at
bounds-s-at c = omega (arith, test_read c.requires)

pub overflow_add-result : goal.overflow_add-result
overflow_add-result c = omega (arith, test_read c.requires, c.from-n.ensures)

pub overflow_add-result-2 : goal.overflow_add-result-2
overflow_add-result-2 c = omega (arith, test_read c.requires, c.from-n.ensures)

pub bounds-s-at-2 : goal.bounds-s-at-2
bounds-s-at-2 c = omega (arith, test_read c.requires, c.from-n.ensures)

pub returns : goal.returns
returns c =
    let same : c.args.at + 3 + c.from-n.result ≡ (c.args.at + 1) + get_or c.args.s.now c.args.at 0 + 2 = omega (arith, c.from-n.ensures) in
    λ d small x n e. ap (λ (q : ℕ). get_or c.args.s.now q 0) same ∙ sym (test_bytes_lem d small _ _ x n e).value
