-- The place of an entry. Assumes nothing.
use Prim.Native.Nat.{ℕ, ◌+◌, ◌*◌, ◌/◌, ◌<◌}
use mathlib.Core.Path.{sym, ap, subst}
use native.Mathlib.Omega.{arith}
use Rattle.planner.specs.Inner.Memory.{steps_at, Place}
use Rattle.planner.proofs.Slots.{sized_bounds}
use Rattle.planner.proofs.TrueMemory.{placed}
use Rattle.planner.proofs.steps.step_at.Goals as goal

pub returns : goal.returns
returns c =
    let sizes = sized_bounds c.requires.0.entries in
    let some : 0 < c.args.p.lists / 2 = omega (arith, sizes) in
    let here = ap (λ (n : ℕ). steps_at c.args.p + 4 * n) c.remainder.ensures in
    (here, subst (Place (c.args.p.lists / 2) (steps_at c.args.p) 4) (sym here) (placed (c.args.p.lists / 2) some (steps_at c.args.p) 4 _))
