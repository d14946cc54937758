-- A table is kept where there is room; else all is forgotten. Assumes nothing.
use Prim.Native.Nat.{◌+◌}
use native.Mathlib.Omega.{arith}
use lib.Seq.{get_or-set_same}
use Rattle.planner.proofs.TrueMemory.{placed_wiped}
use Rattle.planner.proofs.intern.keep.Goals as goal

pub returns : goal.returns
returns c =
    let roomy = c.has_overflowed.ensures.1 c.if-has_overflowed.false in
    let one = get_or-set_same c.clear.new.work (c.args.p.memory + 49) 1 0 (omega (arith, c.clear.auto.work, c.store.auto.work, c.requires.laid.room, c.requires.room)) in
    (tt, (placed_wiped c.args.p c.requires.laid (c.in_default.ensures.1.0 (λ sp. omega (arith, sp.once, roomy))).only c.clear.ensures, λ room _. absurd (omega (arith, room, one))))
