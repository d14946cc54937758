-- The values with the row's own effects, and the slots of its beliefs. Assumes nothing.
use mathlib.Core.Path.{◌∙◌}
use Prim.Native.Nat.{◌+◌, ◌*◌, ◌≤◌}
use lib.ListN.{length}
use native.Mathlib.Omega.{arith}
use Rattle.transition.specs.Laws.ChangedRows.{row_inside, tellable, later, acted_put}
use Rattle.transition.proofs.change.put_acted.Goals as goal
use Rattle.transition.proofs.change.put_acted.Goals.{After-struct_known-1}

-- the row lies before the place to write to
place : (s : After-struct_known-1) → (s.args.h.table.rows + s.args.m * s.args.h.table.width + s.args.h.table.fluents + s.args.h.table.characters ≤ s.args.h.table.rows + s.args.h.table.nodes * s.args.h.table.width) × (s.args.h.table.rows + s.args.h.table.nodes * s.args.h.table.width ≤ s.args.to) × (s.args.to + s.args.h.table.fluents + s.args.h.table.characters ≤ length s.args.work.now)
place s =
    (row_inside s.requires.0.1.tabled s.args.m s.requires.1, s.requires.2.behind, s.requires.2.room)

pub overflow_mul-from : goal.overflow_mul-from
overflow_mul-from c = omega (arith, place c)

pub overflow_add-from : goal.overflow_add-from
overflow_add-from c = omega (arith, place (goal.at.overflow_add-from c).After-struct_known-1)

pub copy_part-requires : goal.copy_part-requires
copy_part-requires c =
    (omega (arith, place (goal.at.copy_part-requires c).After-struct_known-1), omega (arith, place (goal.at.copy_part-requires c).After-struct_known-1), omega (arith, place (goal.at.copy_part-requires c).After-struct_known-1))

pub offset_bounds-effects-m : goal.offset_bounds-effects-m
offset_bounds-effects-m c = omega (arith, c.requires.1, c.requires.0.1.tabled.few)

pub bounds-effects-m : goal.bounds-effects-m
bounds-effects-m c = omega (arith, c.requires.1, c.requires.0.1.long)

pub overflow_cast-effects : goal.overflow_cast-effects
overflow_cast-effects c = omega (arith, c.type_inv.effects c.args.m)

pub write_told-requires : goal.write_told-requires
write_told-requires c =
    tellable c.requires.0.1 _ c.requires.1 (omega (arith, place (goal.at.write_told-requires c).After-struct_known-1, c.copy_part.auto.work))

pub overflow_add-to : goal.overflow_add-to
overflow_add-to c =
    omega (arith, place (goal.at.overflow_add-to c).After-struct_known-1, c.well_formed.1.1.1.1.0.0)

pub put_slots-requires : goal.put_slots-requires
put_slots-requires c =
    let long = c.write_told.ensures.only.long ∙ c.copy_part.auto.work in
    ((c.requires.0.0, later c.requires.0.1 c.requires.1 c.requires.2 (λ q l. c.write_told.ensures.only.below q l ∙ c.copy_part.ensures.low q l) long), c.requires.1, omega (arith, place (goal.at.put_slots-requires c).After-struct_known-1), omega (arith, place (goal.at.put_slots-requires c).After-struct_known-1, long))

pub returns : goal.returns
returns c =
    λ s x. acted_put x c.requires.1 c.requires.2 c.copy_part.ensures c.write_told.ensures (c.put_slots.ensures s (later x c.requires.1 c.requires.2 (λ q l. c.write_told.ensures.only.below q l ∙ c.copy_part.ensures.low q l) (c.write_told.ensures.only.long ∙ c.copy_part.auto.work)))
