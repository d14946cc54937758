-- The place of an entry. Assumes nothing.
use Prim.Native.Nat.{ℕ, ◌+◌, ◌*◌, ◌<◌}
use mathlib.Core.Path.{sym, ap, subst}
use native.Mathlib.Omega.{arith}
use Rattle.planner.specs.Inner.Memory.{facts_at, Place}
use Rattle.planner.proofs.Slots.{sized_bounds}
use Rattle.planner.proofs.TrueMemory.{placed}
use Rattle.planner.proofs.entry.entry_at.Goals as goal

pub returns : goal.returns
returns c =
    let sizes = sized_bounds c.requires.0.entries in
    let some : 0 < c.args.p.lists = omega (arith, sizes) in
    let here = ap (λ (n : ℕ). facts_at c.args.p + 7 * n) c.remainder.ensures in
    (here, subst (Place c.args.p.lists (facts_at c.args.p) 7) (sym here) (placed c.args.p.lists some (facts_at c.args.p) 7 _))
