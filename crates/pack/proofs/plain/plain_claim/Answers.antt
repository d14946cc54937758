-- Both bytes are in range. Assumes nothing.
use borrow.Author.Tests.{ltb-true}
use native.Mathlib.Omega.{arith}
use mathlib.Core.Path.{sym}
use Rattle.pack.proofs.InRange.{claim_reads}
use Rattle.pack.proofs.plain.plain_claim.Goals as goal

pub returns-then-fluent-byte_limit : goal.returns-then-fluent-byte_limit
returns-then-fluent-byte_limit c =
    λ said. let small = ltb-true c.from.result c.byte_limit-then-fluent-byte_limit.result said in
    claim_reads c.args.domains.now c.args.s.now c.args.at c.from-fluent.result c.from.result
    (omega (arith, c.requires)) (sym c.from-fluent.ensures) (omega arith) (omega arith)
    (sym c.from.ensures) (omega (arith, small)) (omega (arith, small))
