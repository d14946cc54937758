-- The chain, the kind and the claim are in range, one after the other. Assumes nothing.
use native.Mathlib.Omega.{arith}
use Prim.Native.Nat.{◌+◌}
use mathlib.Core.Path.{◌≡◌, sym, ap, ◌∙◌}
use Rattle.pack.specs.Reading.{done}
use Rattle.pack.proofs.InRange.{test_reads}
use Rattle.pack.proofs.plain.plain_test.Goals as goal

pub returns-then-plain_claim : goal.returns-then-plain_claim
returns-then-plain_claim c =
    let n = (c.args.at + 1) + c.from-count.result in
    let three : (n + 1) + 2 ≡ n + 3 = omega arith in
    test_reads c.args.characters c.args.domains.now c.args.s.now c.args.at c.from-count.result n
    (omega arith) (sym c.from-count.ensures) (omega arith) (c.plain_chain.ensures c.if-plain_chain.true)
    (omega arith) c.if-s-n-lt3.true (c.plain_claim.ensures c.if-plain_claim.true ∙ ap (done tt) three)
