-- Nothing is put down, a rank changes, or a cell is filled. Assumes nothing.
use Prim.Native.Nat.{ℕ, ◌+◌}
use mathlib.Core.Path.{ap, ◌∙◌, subst}
use native.Mathlib.Omega.{arith}
use lib.Seq.{get_or-set_other}
use Rattle.planner.specs.Inner.Memory.{CellPut}
use Rattle.planner.proofs.TrueMemory.{remembered_nothing}
use Rattle.planner.proofs.CellMemory.{way_in, remembered_rank, remembered_cell, kept_higher, kept_put}
use Rattle.planner.proofs.cell.remember_cell.Goals as goal
use Rattle.planner.proofs.cell.remember_cell.Goals.{then-from-gt-ROWS-via-then-from-gt-ROWS, then-from-gt-ROWS-via-else-from-gt-ROWS+then-not-storable}

pub returns-then-from-gt-ROWS : goal.returns-then-from-gt-ROWS
returns-then-from-gt-ROWS c = (
  remembered_nothing c.args.p c.requires.0,
  record {
    stands = λ few fits. elim c.then-from-gt-ROWS.branch [
      | then-from-gt-ROWS-via-then-from-gt-ROWS w ↦ absurd (omega (arith, few, w.if-from-gt-ROWS.true, c.from.ensures))
      | then-from-gt-ROWS-via-else-from-gt-ROWS+then-not-storable w ↦ absurd ((w.storable.ensures 1 (omega arith)).1 w.if-not-storable.true fits)
    ];
  },
)

pub returns-then-rank-old : goal.returns-then-rank-old
returns-then-rank-old c =
    (remembered_rank c.args.p c.args.work.now _ c.args.slot c.args.mark c.args.k c.requires.1 c.bucket_at-first.ensures.1 c.lowest-at.ensures.0.few (λ q n. get_or-set_other c.args.work.now (c.lowest-at.result + 6) q _ 0 (λ e. n (e ∙ ap (λ (z : ℕ). z + 6) c.lowest-at.ensures.0.is))), kept_higher c.args.p c.args.work.now c.lowest-at.result c.bucket_at-first.ensures.0 c.lowest-at.ensures.1 (omega (arith, c.if-rank-old.true)))

pub returns : goal.returns
returns c =
    let filled = subst (λ (q : ℕ). CellPut c.args.p c.args.slot q c.args.mark c.args.k c.args.work.now c.put_cell.new.work) c.lowest-at.ensures.0.is c.put_cell.ensures in
    (remembered_cell c.args.p c.args.work.now c.put_cell.new.work c.args.slot c.args.mark c.args.k c.requires.1 c.bucket_at-first.ensures.1 c.lowest-at.ensures.0.few (omega (arith, c.if-from-gt-ROWS.false, c.from.ensures)) filled, kept_put c.args.p c.requires.0 (omega (arith, c.bucket_at-first.ensures.1.is)) c.bucket_at-first.ensures.0 c.lowest-at.ensures.0.few filled)

pub bounds-work-at : goal.bounds-work-at
bounds-work-at c =
    omega (arith, c.lowest-at.ensures.0.is, way_in c.args.p c.bucket_at-first.ensures.1 c.lowest-at.ensures.0.few, c.requires.0.room)

pub put_cell-requires : goal.put_cell-requires
put_cell-requires c =
    let s = (c.storable.ensures 1 (omega arith)).0 (c.if-not-storable.false) in
    (c.requires.0, omega (arith, c.lowest-at.ensures.0.is, way_in c.args.p c.bucket_at-first.ensures.1 c.lowest-at.ensures.0.few), omega (arith, c.if-from-gt-ROWS.false, c.from.ensures), omega (arith, c.lowest-at.ensures.0.is, c.bucket_at-first.ensures.1.is), s.who, s.nesting, s.number, s.base)
