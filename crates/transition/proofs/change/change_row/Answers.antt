-- The member's row, and then its beliefs by number. Assumes nothing.
use mathlib.Core.Path.{sym, ◌∙◌, subst}
use Prim.Native.Nat.{ℕ, ◌+◌, ◌*◌, ◌<◌, ◌≤◌}
use lib.ListN.{length}
use native.Mathlib.Omega.{arith}
use Rattle.chart.specs.Laws.Numbering.{numbering_same}
use Rattle.transition.specs.Laws.Changed.{There}
use Rattle.transition.specs.Inner.Change.{member_of}
use Rattle.transition.proofs.ChangePass.{row_room, row_made}
use Rattle.transition.proofs.change.change_row.Goals as goal
use Rattle.transition.proofs.change.change_row.Goals.{After-struct_known-1}

place : (s : After-struct_known-1) → (s.args.i < s.args.h.table.nodes * 7 + 1) × (40756 + s.args.i * s.args.h.table.width + s.args.h.table.width ≤ length s.args.work.now) × (s.args.h.table.fluents + s.args.h.table.characters ≤ s.args.h.table.width) × (40304 + (s.args.h.table.nodes * 7 + 1) + (s.args.h.table.nodes * 7 + 1) ≤ 40756) × (s.args.h.table.nodes ≤ 32)
place s =
    let (i, r, w) = row_room s.requires.scened.0.1 s.requires.scened.1 s.requires.numbering.0 s.requires.numbering.1 in (i, r, w, s.requires.scened.1.scratch, s.requires.scened.0.1.tabled.few)

pub overflow_mul-size : goal.overflow_mul-size
overflow_mul-size c = omega (arith, place c)

pub overflow_add-size : goal.overflow_add-size
overflow_add-size c = omega (arith, place c)

pub overflow_add-size-2 : goal.overflow_add-size-2
overflow_add-size-2 c = omega (arith, place c, c.well_formed.1.1.1.1.0.0)

pub overflow_add-size-3 : goal.overflow_add-size-3
overflow_add-size-3 c = omega (arith, place c, c.well_formed.1.1.1.1.0.0)

pub bounds-work-size : goal.bounds-work-size
bounds-work-size c = omega (arith, place (goal.at.bounds-work-size c).After-struct_known-1)

pub overflow_mul-to : goal.overflow_mul-to
overflow_mul-to c =
    omega (arith, place (goal.at.overflow_mul-to c).After-struct_known-1, c.well_formed.1.1.1.1.0.0)

pub overflow_add-to : goal.overflow_add-to
overflow_add-to c =
    omega (arith, place (goal.at.overflow_add-to c).After-struct_known-1, c.well_formed.1.1.1.1.0.0)

pub put_member-requires : goal.put_member-requires
put_member-requires c =
    (c.requires.scened.0, omega (arith, c.from-slot.ensures, c.requires.numbering.0.there _ c.requires.numbering.1), subst (λ (z : ℕ). There c.args.h.table.characters (member_of c.args.h c.args.h.table.nodes z)) (sym c.from-slot.ensures) c.requires.numbering.2, record { behind = omega (arith, place (goal.at.put_member-requires c).After-struct_known-1, c.requires.scened.1.source); room = omega (arith, place (goal.at.put_member-requires c).After-struct_known-1) })

pub overflow_add-to-2 : goal.overflow_add-to-2
overflow_add-to-2 c =
    omega (arith, place (goal.at.overflow_add-to-2 c).After-struct_known-1, c.well_formed.1.1.1.1.0.0)

pub name_beliefs-requires : goal.name_beliefs-requires
name_beliefs-requires c =
    let q = c.put_member.ensures c.requires.scened.0.0 c.requires.scened.0.1 in record { room = (omega (arith, place (goal.at.name_beliefs-requires c).After-struct_known-1), omega (arith, place (goal.at.name_beliefs-requires c).After-struct_known-1, c.put_member.auto.work), omega (arith, place (goal.at.name_beliefs-requires c).After-struct_known-1)); numbering = numbering_same _ _ _ _ _ c.requires.numbering.0 (λ z f g. q.low z (omega (arith, place (goal.at.name_beliefs-requires c).After-struct_known-1))); below = λ d l. (q.slots d l).below }

pub shape_of-work : goal.shape_of-work
shape_of-work c = c.name_beliefs.auto.work ∙ c.put_member.auto.work

pub returns : goal.returns
returns c =
    λ s x. row_made x c.requires.scened.1 c.requires.numbering.0 c.requires.numbering.1 c.from-slot.ensures (c.put_member.ensures s x) c.name_beliefs.ensures
