-- Both slots stand for the row having taken part. Assumes nothing.
use mathlib.Core.Path.{sym}
use Prim.Native.Nat.{◌*◌}
use native.Mathlib.Omega.{arith}
use Rattle.transition.specs.Laws.ChangedRows.{slot_acted, member_first}
use Rattle.transition.proofs.change.first_slot.Goals as goal

pub returns-then-h-lt7 : goal.returns-then-h-lt7
returns-then-h-lt7 c =
    record { is = slot_acted c.args.h c.args.nodes c.args.h.root c.requires.1 c.if-h-lt7.true (c.requires.2 c.if-h-lt7.true); below = omega (arith, c.requires.1, c.if-h-lt7.true) }

pub returns-else-h-lt7 : goal.returns-else-h-lt7
returns-else-h-lt7 c =
    record { is = sym (member_first c.args.h c.args.nodes (c.args.nodes * 7) (omega arith)); below = omega arith }
