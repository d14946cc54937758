-- The slots of the characters below d are put. Assumes nothing.
use mathlib.Core.Path.{◌≡◌, refl, ◌∙◌}
use Prim.Native.Nat.{ℕ, ◌+◌, ◌*◌, ◌<◌, ◌≤◌}
use mathlib.Core.List.{List}
use lib.ListN.{length, length-set}
use native.Mathlib.Omega.{arith}
use Rattle.pack.specs.Syntax.{Node}
use Rattle.pack.specs.Grammar.{Dimensions}
use Rattle.pack.specs.Duties.Table.{Below}
use Rattle.pack.specs.declared.table.Table.{Table}
use Rattle.transition.specs.Duties.Cause.{Tabled}
use Rattle.transition.specs.Laws.ChangedRows.{row_inside, belief_told, tabled_same, old_slot, slots_none, slots_more, slots_all, old_put}
use Rattle.transition.proofs.change.put_old.Goals as goal
use Rattle.transition.proofs.change.put_old.Goals.{After-struct_known-1, In-loop-d, After-belief-q}

-- the row lies before the place to write to
place : (s : After-struct_known-1) → (s.args.h.table.rows + s.args.m * s.args.h.table.width + s.args.h.table.fluents + s.args.h.table.characters ≤ s.args.h.table.rows + s.args.h.table.nodes * s.args.h.table.width) × (s.args.h.table.rows + s.args.h.table.nodes * s.args.h.table.width ≤ s.args.to) × (s.args.to + s.args.h.table.fluents + s.args.h.table.characters ≤ length s.args.work.now)
place s =
    (row_inside s.requires.0.1 s.args.m s.requires.1, s.requires.3.behind, s.requires.3.room)

-- a table that lies before the place written to means the same afterwards
moved : (to : ℕ) {d : Dimensions} {T : List Node} {was now : List ℕ} {t : Table} →
    Tabled d T was t → t.rows + t.nodes * t.width ≤ to → Below was now to → length now ≡ length was → Tabled d T now t
moved to x before low long = tabled_same x (λ q l. low q (omega arith)) long

-- so the table does in the loop
here : (c : In-loop-d) {d : Dimensions} {T : List Node} →
    Tabled d T c.copy_part.new.work c.args.h.table → Tabled d T c.loop-d.work c.args.h.table
here c x =
    let (long, put) = c.loop-d.invariant in
    let tabled = moved c.args.to c.requires.0.1 c.requires.3.behind c.copy_part.ensures.low c.copy_part.auto.work in
    tabled_same x (λ q l. (put c.requires.0.0 tabled).low q (omega (arith, c.requires.3.behind))) long

few : (c : After-belief-q) → c.belief-q.result < 32
few c = omega (arith, c.belief-q.ensures.1, c.requires.0.1.few)

pub overflow_mul-from : goal.overflow_mul-from
overflow_mul-from c = omega (arith, place c)

pub overflow_add-from : goal.overflow_add-from
overflow_add-from c = omega (arith, place (goal.at.overflow_add-from c).After-struct_known-1)

pub copy_part-requires : goal.copy_part-requires
copy_part-requires c =
    (omega (arith, place (goal.at.copy_part-requires c).After-struct_known-1), omega (arith, place (goal.at.copy_part-requires c).After-struct_known-1), omega (arith, place (goal.at.copy_part-requires c).After-struct_known-1))

pub loop-d-init : goal.loop-d-init
loop-d-init c = (refl, λ s x. slots_none _ _ _ _ _)

pub belief-q-requires : goal.belief-q-requires
belief-q-requires c =
    let x = moved c.args.to c.requires.0.1 c.requires.3.behind c.copy_part.ensures.low c.copy_part.auto.work in
    ((here c x).fits, c.requires.1, c.loop-d-test.true)

pub overflow_mul-work : goal.overflow_mul-work
overflow_mul-work c = omega (arith, few c)

pub overflow_add-work : goal.overflow_add-work
overflow_add-work c = omega (arith, few (goal.at.overflow_add-work c).After-belief-q, c.requires.2)

pub overflow_cast-work : goal.overflow_cast-work
overflow_cast-work c = omega (arith, few (goal.at.overflow_cast-work c).After-belief-q, c.requires.2)

pub overflow_add-work-in-loop-d : goal.overflow_add-work-in-loop-d
overflow_add-work-in-loop-d c =
    omega (arith, place (goal.at.overflow_add-work-in-loop-d c).After-struct_known-1, c.well_formed.1.0.0)

pub overflow_add-work-in-loop-d-2 : goal.overflow_add-work-in-loop-d-2
overflow_add-work-in-loop-d-2 c =
    omega (arith, place (goal.at.overflow_add-work-in-loop-d-2 c).After-struct_known-1, c.well_formed.1.0.0, c.loop-d-test.true)

pub bounds-work-to : goal.bounds-work-to
bounds-work-to c =
    omega (arith, place (goal.at.bounds-work-to c).After-struct_known-1, c.loop-d.invariant.0, c.copy_part.auto.work, c.loop-d-test.true)

pub loop-d-preserved : goal.loop-d-preserved
loop-d-preserved c =
    let (long, put) = c.loop-d.invariant in
    (simp length-set long, λ s x. slots_more (put s x) (old_slot x _ _ _ c.requires.1 c.loop-d-test.true c.requires.2 _ (belief_told (here (goal.at.loop-d-preserved c).In-loop-d x) _ _ _ c.belief-q.ensures.0)) (omega (arith, place (goal.at.loop-d-preserved c).After-struct_known-1, long, c.copy_part.auto.work, c.loop-d-test.true)))

pub shape_of-work : goal.shape_of-work
shape_of-work c = c.loop-d.invariant.0 ∙ c.copy_part.auto.work

pub returns : goal.returns
returns c =
    λ s x. let (long, put) = c.loop-d.invariant in old_put s x c.requires.1 c.copy_part.ensures (slots_all (put s (moved c.args.to x c.requires.3.behind c.copy_part.ensures.low c.copy_part.auto.work)) (omega arith) (omega arith))
