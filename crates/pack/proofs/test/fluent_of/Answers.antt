-- The byte behind the chain and the kind. Assumes nothing.
use Prim.Native.Nat.{ℕ, ◌+◌}
use mathlib.Core.Path.{◌≡◌, sym, ap, ◌∙◌}
use native.Mathlib.Omega.{arith}
use lib.ListN.{get_or}
use Rattle.pack.specs.Laws.OneByte.{test_bytes_lem, test_read}
use Rattle.pack.proofs.test.fluent_of.Goals as goal

pub bounds-s-at : goal.bounds-s-at
bounds-s-at c = omega (arith, test_read c.requires)

pub overflow_add-at : goal.overflow_add-at
overflow_add-at c = omega (arith, test_read c.requires, c.from-n.ensures)

pub overflow_add-at-2 : goal.overflow_add-at-2
overflow_add-at-2 c = omega (arith, test_read c.requires, c.from-n.ensures)

pub bounds-s-at-2 : goal.bounds-s-at-2
bounds-s-at-2 c = omega (arith, test_read c.requires, c.from-n.ensures)

pub returns : goal.returns
returns c =
    let same : c.args.at + 2 + c.from-n.result ≡ c.args.at + 1 + get_or c.args.s.now c.args.at 0 + 1 = omega (arith, c.from-n.ensures) in
    λ d small x n e. c.from.ensures ∙ ap (λ (q : ℕ). get_or c.args.s.now q 0) same ∙ sym (test_bytes_lem d small _ _ x n e).fluent
