-- The row that it is made of, and what it is told besides. Assumes nothing.
use mathlib.Core.Path.{◌∙◌}
use Prim.Native.Nat.{◌/◌, ◌<◌}
use native.Mathlib.Omega.{arith}
use Rattle.transition.specs.Laws.ChangedRows.{tellable, edge_put, put_is}
use Rattle.transition.proofs.change.put_member.Goals as goal
use Rattle.transition.proofs.change.put_member.Goals.{Then-from}

-- a slot that is told something is one of a row's
inside : (c : Then-from) →
    c.args.slot / 7 < c.args.h.table.nodes
inside c =
    ((c.made_of-from.ensures c.requires.0.0 _ c.requires.0.1).told c.if-from.true).0

pub made_of-from-requires : goal.made_of-from-requires
made_of-from-requires c = ((_, c.requires.0), c.requires.1, c.requires.2)

pub put_row-requires : goal.put_row-requires
put_row-requires c =
    let q = c.made_of-from.ensures c.requires.0.0 _ c.requires.0.1 in
    (c.requires.0, q.inside, q.keeps, c.requires.3)

pub offset_bounds-effects-slot : goal.offset_bounds-effects-slot
offset_bounds-effects-slot c = omega (arith, inside c, c.requires.0.1.tabled.few)

pub bounds-effects-slot : goal.bounds-effects-slot
bounds-effects-slot c =
    omega (arith, inside (goal.at.bounds-effects-slot c).Then-from, c.requires.0.1.long)

pub overflow_cast-at : goal.overflow_cast-at
overflow_cast-at c = omega (arith, c.type_inv.effects (c.args.slot / 7))

pub overflow_add-slot : goal.overflow_add-slot
overflow_add-slot c = omega arith

pub write_told-requires : goal.write_told-requires
write_told-requires c =
    tellable c.requires.0.1 _ (inside (goal.at.write_told-requires c).Then-from) (omega (arith, c.requires.3.room, c.put_row.auto.work))

pub shape_of-work-then-from : goal.shape_of-work-then-from
shape_of-work-then-from c = c.write_told.auto.work ∙ c.put_row.auto.work

pub returns-then-from : goal.returns-then-from
returns-then-from c =
    λ s x.
    let told = (c.made_of-from.ensures s _ x).told c.if-from.true in
    put_is s _ _ told.2 (edge_put x _ _ _ told.0 (put_is s _ _ told.3 (c.put_row.ensures s x)) c.write_told.ensures)

pub shape_of-work-else-from : goal.shape_of-work-else-from
shape_of-work-else-from c = c.put_row.auto.work

pub returns-else-from : goal.returns-else-from
returns-else-from c =
    λ s x. put_is s _ _ ((c.made_of-from.ensures s _ x).plain c.if-from.false) (c.put_row.ensures s x)
