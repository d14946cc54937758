-- The condition, part 1, the rounds. Assumes nothing.
use mathlib.Core.Path.{◌∙◌}
use native.Mathlib.Omega.{arith}
use Prim.Native.Nat.{◌*◌}
use Rattle.std.proofs.lemmas.Result.{err_from_is_err_and}
use Rattle.transition.proofs.PartOne.{act_places}
use Rattle.transition.proofs.PlayedInSlot.{play_table, play_judged, play_forbidden, play_many, play_setting, play_slotted, play_settled}
use Rattle.transition.proofs.step.step_slot.Goals as goal

pub overflow_mul-m : goal.overflow_mul-m
overflow_mul-m c =
    let (p, (T, (n, (x, l, i)))) = c.requires in
    omega (arith, act_places x l)

pub offset_bounds-places-m : goal.offset_bounds-places-m
offset_bounds-places-m c =
    let (p, (T, (n, (x, l, i)))) = c.requires in
    omega (arith, act_places x l)

pub bounds-places-m : goal.bounds-places-m
bounds-places-m c =
    let (p, (T, (n, (x, l, i)))) = c.requires in
    omega (arith, act_places x l)

pub overflow_cast-places : goal.overflow_cast-places
overflow_cast-places c = omega (arith, c.type_inv.places (9 * c.args.m.action))

pub holds-requires : goal.holds-requires
holds-requires c =
    let (p, (T, (n, (x, l, i)))) = c.requires in
    play_judged x l _ i

pub returns-then-not-holds : goal.returns-then-not-holds
returns-then-not-holds c = λ p T n x l i. play_forbidden x l _ i c.holds.ensures (c.if-not-holds.true)

pub act-requires : goal.act-requires
act-requires c =
    let (p, (T, (n, (x, l, i)))) = c.requires in
    (p, (T, (n, (_, (x, l, i)))))

pub returns-in_err-nodes : goal.returns-in_err-nodes
returns-in_err-nodes c =
    let left = err_from_is_err_and c.from_residual.result c.from_residual.ensures.1 in
    rw (left.1, left.2)
    (λ p T n x l i. play_many x l _ i c.holds.ensures c.if-not-holds.false (c.in_err-nodes.ensures p T n _ x l i))

pub overflow_add-left : goal.overflow_add-left
overflow_add-left c =
    let (p, (T, (n, (x, l, i)))) = c.requires in
    omega (arith, x.room.has_slot_room)

pub settle-requires : goal.settle-requires
settle-requires c =
    let (p, (T, (n, (x, l, i)))) = c.requires in
    let y = c.in_ok-nodes.ensures p T n _ x l i in
    let e = c.if-not-holds.false in
    (p, (play_table x l _ i c.holds.ensures e y c.act.auto.work, (n, (play_setting x l _ i c.holds.ensures e y c.act.auto.work, play_slotted x l _ i c.holds.ensures e y c.act.auto.work))))

pub shape_of-work : goal.shape_of-work
shape_of-work c = c.settle.auto.work ∙ c.act.auto.work

pub returns : goal.returns
returns c =
    let e = c.if-not-holds.false in
    λ p T n x l i.
    let y = c.in_ok-nodes.ensures p T n _ x l i in
    let long = c.act.auto.work in
    play_settled x l _ i c.holds.ensures e y long (c.settle.ensures p (play_table x l _ i c.holds.ensures e y long) n (play_setting x l _ i c.holds.ensures e y long) (play_slotted x l _ i c.holds.ensures e y long))
