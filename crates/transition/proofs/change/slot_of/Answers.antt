-- A belief that is told something has its own slot, any other that of the row believed in. Assumes nothing.
use Prim.Native.Nat.{ℕ, ◌+◌, ◌*◌, ◌<◌, ◌≤◌}
use mir.Syntax.{w64}
use mir.Val.{Fits}
use native.Mathlib.Omega.{arith}
use Rattle.transition.specs.declared.change.Change.{Change}
use Rattle.transition.specs.Laws.Changed.{Member}
use Rattle.transition.specs.Inner.Change.{Scene, Stands, believed, SlotIs}
use Rattle.transition.specs.Laws.ChangedRows.{telling, watched, small, belief_told, slot_told, slot_took, slot_kept}
use Rattle.transition.proofs.change.slot_of.Goals as goal
use Rattle.transition.proofs.change.slot_of.Goals.{After-belief-q, Else-takes, Then-takes}

few : (c : After-belief-q) → c.belief-q.result < 32
few c = omega (arith, c.belief-q.ensures.1, c.requires.0.1.tabled.few)

-- a slot is a number of the code
slot-fits : {h : Change} {n slot : ℕ} {k : Member} → n ≤ 32 → SlotIs h n k slot → Fits w64 slot
slot-fits few i = omega (arith, i.below)

took : (c : Then-takes) {s : Scene} →
    Stands s c.args.pack.now c.args.places.now c.args.effects.now c.args.h c.args.work.now c.args.h.table → SlotIs c.args.h c.args.h.table.nodes (believed s c.args.h.table.characters c.args.m c.args.d) (c.belief-q.result * 7 + c.args.h.acted)
took c x =
    slot_took x c.requires.1 c.requires.2 c.tells.ensures c.if-tells.false (belief_told x.tabled _ _ _ c.belief-q.ensures.0) c.takes.ensures c.if-takes.true

kept : (c : Else-takes) {s : Scene} →
    Stands s c.args.pack.now c.args.places.now c.args.effects.now c.args.h c.args.work.now c.args.h.table → SlotIs c.args.h c.args.h.table.nodes (believed s c.args.h.table.characters c.args.m c.args.d) (c.belief-q.result * 7 + c.args.h.old)
kept c x =
    slot_kept x c.requires.1 c.requires.2 c.tells.ensures c.if-tells.false (belief_told x.tabled _ _ _ c.belief-q.ensures.0) c.takes.ensures c.if-takes.false

pub offset_bounds-effects-m : goal.offset_bounds-effects-m
offset_bounds-effects-m c = omega (arith, c.requires.1, c.requires.0.1.tabled.few)

pub bounds-effects-m : goal.bounds-effects-m
bounds-effects-m c = omega (arith, c.requires.1, c.requires.0.1.long)

pub overflow_cast-effects : goal.overflow_cast-effects
overflow_cast-effects c = omega (arith, c.type_inv.effects c.args.m)

pub overflow_add-d : goal.overflow_add-d
overflow_add-d c = omega (arith, c.requires.2, small c.requires.0.1.tabled)

pub tells-requires : goal.tells-requires
tells-requires c = telling c.requires.0.1 _ c.requires.1

pub overflow_mul-result : goal.overflow_mul-result
overflow_mul-result c = omega (arith, c.requires.1, c.requires.0.1.tabled.few)

pub overflow_add-result : goal.overflow_add-result
overflow_add-result c =
    omega (arith, c.requires.1, c.requires.2, c.requires.0.1.tabled.few, small c.requires.0.1.tabled)

pub returns-then-tells : goal.returns-then-tells
returns-then-tells c = λ s x. slot_told x c.requires.1 c.requires.2 c.tells.ensures c.if-tells.true

pub belief-q-requires : goal.belief-q-requires
belief-q-requires c = (c.requires.0.1.tabled.fits, c.requires.1, c.requires.2)

pub takes-requires : goal.takes-requires
takes-requires c = watched c.requires.0.1 _ _ c.requires.1 c.requires.2

pub overflow_mul-result-then-takes : goal.overflow_mul-result-then-takes
overflow_mul-result-then-takes c =
    omega (arith, few (goal.at.overflow_mul-result-then-takes c).After-belief-q)

pub overflow_add-result-then-takes : goal.overflow_add-result-then-takes
overflow_add-result-then-takes c =
    slot-fits c.requires.0.1.tabled.few (took (goal.at.overflow_add-result-then-takes c).Then-takes c.requires.0.1)

pub overflow_mul-result-else-takes : goal.overflow_mul-result-else-takes
overflow_mul-result-else-takes c =
    omega (arith, few (goal.at.overflow_mul-result-else-takes c).After-belief-q)

pub overflow_add-result-else-takes : goal.overflow_add-result-else-takes
overflow_add-result-else-takes c =
    slot-fits c.requires.0.1.tabled.few (kept (goal.at.overflow_add-result-else-takes c).Else-takes c.requires.0.1)

pub returns-then-takes : goal.returns-then-takes
returns-then-takes c = λ s x. took (goal.at.returns-then-takes c).Then-takes x

pub returns-else-takes : goal.returns-else-takes
returns-else-takes c = λ s x. kept (goal.at.returns-else-takes c).Else-takes x
