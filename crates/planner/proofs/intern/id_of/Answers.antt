-- The id that is known by the slot, or a new one. Assumes nothing.
use Prim.Native.Nat.{◌+◌}
use mathlib.Core.Path.{refl, sym}
use native.Mathlib.Omega.{arith}
use Rattle.planner.specs.Inner.Memory.{id_at}
use Rattle.planner.proofs.TrueMemory.{naming_known}
use Rattle.planner.proofs.intern.id_of.Goals as goal

pub returns-in-Some : goal.returns-in-Some
returns-in-Some c =
    let (some, is) = c.in-Some.ensures in (
      some,
      record {
        interning = naming_known c.args.p c.requires (omega (arith, is, c.slice_known-2-1.given (id_at c.args.p (c.args.slot + 1)))) some (sym is);
        known = λ _. refl;
      },
    )
