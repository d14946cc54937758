-- After so many rounds the state that has come about stands in the slot. Assumes nothing.
use mathlib.Core.Path.{refl, ap, ◌∙◌}
use native.Mathlib.Omega.{arith}
use Rattle.pack.specs.declared.table.Table.{Table}
use Rattle.std.proofs.lemmas.Result.{err_from_is_err_and}
use Rattle.transition.proofs.Rounds.{round_start, round_table, round_firable, theory_triggers, round-idle, round_quiet, round_last, round_scene, round_slotted, round_stands, round_room, round-many, round_next}
use Rattle.transition.proofs.settle.settle.Goals as goal

pub returns-then-triggers-eq0 : goal.returns-then-triggers-eq0
returns-then-triggers-eq0 c = λ p T n x y. round-idle x (round_start x y) refl c.if-triggers-eq0.true

pub loop-init : goal.loop-init
loop-init c = (refl, refl, λ p T n x y. round_start x y)

pub fire_all-requires : goal.fire_all-requires
fire_all-requires c =
    let (p, (T, (n, (x, y)))) = c.requires in
    let (long, table, going) = c.loop.invariant in
    let g = going p T n x y in
    rw table (round_firable x g long, omega (arith, g.holds.few, c.loop-test.array_long))

pub returns-then-not-fire_all : goal.returns-then-not-fire_all
returns-then-not-fire_all c =
    let (long, table, going) = c.loop.invariant in
    let fired = rw table at c.fire_all.ensures in
    λ p T n x y. let g = going p T n x y in round_quiet x g long (fired _ _ _ (round_table x g long) (theory_triggers x.theorized)) c.if-not-fire_all.true

-- In a round everyone takes part, and in each row that takes effect which fired there: all rows are judged before any
-- is written.
pub round-requires : goal.round-requires
round-requires c =
    let (p, (T, (n, (x, y)))) = c.requires in
    let (long, table, going) = c.loop.invariant in
    let g = going p T n x y in
    let fired = (rw table at c.fire_all.ensures) _ _ _ (round_table x g long) (theory_triggers x.theorized) in
    let e = c.if-not-fire_all.false in
    rw table ((round_scene x g long fired e, round_stands x g long fired e c.if-not-fire_all.array_long), round_room x g long fired e, record { all = refl; root = refl }, round_slotted x g long)

pub returns-in_err-now : goal.returns-in_err-now
returns-in_err-now c =
    let (long, table, going) = c.loop.invariant in
    let e = c.if-not-fire_all.false in
    let left = err_from_is_err_and c.from_residual.result c.from_residual.ensures.1 in
    rw (left.1, left.2)
    (λ p T n x y.
    let g = going p T n x y in
    let fired = (rw table at c.fire_all.ensures) _ _ _ (round_table x g long) (theory_triggers x.theorized) in
    round-many x g long fired e ((rw table at c.in_err-now.ensures) (round_scene x g long fired e) (round_stands x g long fired e c.if-not-fire_all.array_long)) (omega arith) refl)

pub loop-preserved : goal.loop-preserved
loop-preserved c =
    let (long, table, going) = c.loop.invariant in
    let e = c.if-not-fire_all.false in (
      c.round.auto.work ∙ long,
      ap (λ (t : Table). record { rows = t.rows; nodes = c.in_ok-now.field-0; fluents = t.fluents; characters = t.characters; width = t.width }) table,
      λ p T n x y.
          let g = going p T n x y in
          let fired = (rw table at c.fire_all.ensures) _ _ _ (round_table x g long) (theory_triggers x.theorized) in
          round_next x g long fired e ((rw table at c.in_ok-now.ensures) (round_scene x g long fired e) (round_stands x g long fired e c.if-not-fire_all.array_long)) (omega arith) refl,
    )

-- Behind the last round the triggers are judged once more, in the rows that it has left, which are as many as the table
-- says, and at most 32.
pub fire_all-requires-2 : goal.fire_all-requires-2
fire_all-requires-2 c =
    let (p, (T, (n, (x, y)))) = c.requires in
    let (long, table, going) = c.loop.invariant in
    let g = going p T n x y in
    rw table (round_firable x g long, omega (arith, g.holds.few, c.loop-test.array_long))

pub returns-then-fire_all : goal.returns-then-fire_all
returns-then-fire_all c =
    let (long, table, going) = c.loop.invariant in
    let fired = rw table at c.fire_all-2.ensures in
    λ p T n x y. let g = going p T n x y in round_last x g long (fired _ _ _ (round_table x g long) (theory_triggers x.theorized)) c.if-fire_all.true (omega arith)

pub returns : goal.returns
returns c =
    let (long, table, going) = c.loop.invariant in
    let idle = rw table at c.fire_all-2.ensures in
    λ p T n x y. let g = going p T n x y in round_quiet x g long (idle _ _ _ (round_table x g long) (theory_triggers x.theorized)) c.if-fire_all.false
