-- Whom it is for and the claim are in range. Assumes nothing.
use native.Mathlib.Omega.{arith}
use Prim.Native.Nat.{◌+◌}
use mathlib.Core.Path.{◌≡◌, sym, ap, ◌∙◌}
use Rattle.pack.specs.Reading.{done}
use Rattle.pack.proofs.InRange.{effect_reads}
use Rattle.pack.proofs.plain.plain_effect.Goals as goal

pub returns-then-plain_claim : goal.returns-then-plain_claim
returns-then-plain_claim c =
    let three : (c.args.at + 1) + 2 ≡ c.args.at + 3 = omega arith in
    effect_reads c.args.characters c.args.domains.now c.args.s.now c.args.at c.from.result
    (omega arith) (sym c.from.ensures) (omega arith) (omega arith)
    (c.plain_claim.ensures c.if-plain_claim.true ∙ ap (done tt) three)
