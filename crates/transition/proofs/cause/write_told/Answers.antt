-- Effects stand before the pack's end, or there are none. Assumes nothing.
use native.Mathlib.Omega.{arith}
use Rattle.transition.proofs.Effects.{told_writable, told_written, told-nothing}
use Rattle.transition.proofs.cause.write_told.Goals as goal

pub write_effects-requires : goal.write_effects-requires
write_effects-requires c =
    told_writable c.requires.telling c.if-at-pack.true c.requires.wide c.requires.room

pub returns-then-at-pack : goal.returns-then-at-pack
returns-then-at-pack c = told_written c.if-at-pack.true c.write_effects.ensures

pub returns-else-at-pack : goal.returns-else-at-pack
returns-else-at-pack c = told-nothing _ _ _ _ (omega (arith, c.if-at-pack.false))
