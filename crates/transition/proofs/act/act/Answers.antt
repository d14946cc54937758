-- The stage of the action's effects. Assumes nothing.
use native.Mathlib.Omega.{arith}
use Prim.Native.Nat.{◌+◌, ◌*◌}
use Rattle.transition.proofs.PartOne.{act_places, act_telling, scene, act_stands, acted_in}
use Rattle.transition.proofs.act.act.Goals as goal

pub overflow_mul-place : goal.overflow_mul-place
overflow_mul-place c =
    let (p, (T, (n, (k, (x, l, i))))) = c.requires in
    omega (arith, act_places x l)

pub overflow_add-place : goal.overflow_add-place
overflow_add-place c =
    let (p, (T, (n, (k, (x, l, i))))) = c.requires in
    omega (arith, act_places x l)

pub offset_bounds-places-action : goal.offset_bounds-places-action
offset_bounds-places-action c =
    let (p, (T, (n, (k, (x, l, i))))) = c.requires in
    omega (arith, act_places x l)

pub bounds-places-action : goal.bounds-places-action
bounds-places-action c =
    let (p, (T, (n, (k, (x, l, i))))) = c.requires in
    omega (arith, act_places x l)

pub overflow_cast-at : goal.overflow_cast-at
overflow_cast-at c = omega (arith, c.type_inv.places (9 * c.args.action + 1))

pub lowest_untold-requires : goal.lowest_untold-requires
lowest_untold-requires c =
    let (p, (T, (n, (k, (x, l, i))))) = c.requires in
    (act_telling x l, omega (arith, act_places x l))

pub overflow_mul-observers : goal.overflow_mul-observers
overflow_mul-observers c =
    let (p, (T, (n, (k, (x, l, i))))) = c.requires in
    omega (arith, act_places x l)

pub overflow_add-observers : goal.overflow_add-observers
overflow_add-observers c =
    let (p, (T, (n, (k, (x, l, i))))) = c.requires in
    omega (arith, act_places x l)

pub stage-requires : goal.stage-requires
stage-requires c =
    let (p, (T, (n, (k, (x, l, i))))) = c.requires in
    ((scene x l, act_stands x l _ i _ _ c.unwrap_or.ensures c.lowest_untold.ensures), x.room)

pub returns : goal.returns
returns c =
    λ p T n k x l i. acted_in x l _ i (c.stage.ensures (scene x l) (act_stands x l _ i _ _ c.unwrap_or.ensures c.lowest_untold.ensures))
