-- The byte is 0, or it is not. Assumes nothing.
use Prim.Native.Nat.{◌+◌}
use native.Mathlib.Omega.{arith}
use lib.ListN.{get_or}
use borrow.Author.Tests.{ltb-true, ltb-false}
use Rattle.planner.proofs.intern.has_overflowed.Goals as goal

pub returns : goal.returns
returns c =
    let byte = get_or c.args.work.now (c.args.p.memory + 49) 0 in
    (λ e z. omega (arith, ltb-true 0 byte e, z), λ e. omega (arith, ltb-false 0 byte e))
