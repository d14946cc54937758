-- A table is put behind those that are kept. Assumes nothing.
use Prim.Native.Nat.{ℕ, ◌+◌, ◌*◌, ◌/◌, ◌≤◌}
use mathlib.Core.Path.{refl, sym, ◌∙◌, subst}
use native.Mathlib.Omega.{arith}
use lib.ListN.{set, length-set}
use Rattle.chart.specs.Duties.Put.{PartCopied}
use Rattle.planner.proofs.TrueMemory.{placed_none, placed_new}
use Rattle.planner.proofs.intern.store.Goals as goal

pub returns-then-taken-more-gt-BLOCKS : goal.returns-then-taken-more-gt-BLOCKS
returns-then-taken-more-gt-BLOCKS c =
    (tt, (λ _. placed_none c.args.p, λ f. absurd (omega (arith, f, c.from-taken.ensures, c.if-taken-more-gt-BLOCKS.true))))

pub overflow_add-work : goal.overflow_add-work
overflow_add-work c = omega (arith, c.if-taken-more-gt-BLOCKS.false)

pub overflow_cast-work-2 : goal.overflow_cast-work-2
overflow_cast-work-2 c = omega (arith, c.if-taken-more-gt-BLOCKS.false)

pub returns : goal.returns
returns c =
    let fits : c.from-taken.result + (c.args.t.nodes * c.args.t.width / c.args.p.block + 1) ≤ 255 = omega (arith, c.if-taken-more-gt-BLOCKS.false) in
    let copied = subst (λ (x : ℕ). PartCopied (set c.args.work.now (x + c.args.p.block * c.from-taken.result) c.args.t.nodes) c.copy_part.new.work c.args.t.rows (x + c.args.p.block * c.from-taken.result + 1) (c.args.t.nodes * c.args.t.width)) c.requires.laid.tabled c.copy_part.ensures in
    (omega arith, (placed_new c.args.p c.requires (sym c.from-taken.ensures) fits copied refl (c.copy_part.auto.work ∙ length-set c.args.work.now (c.args.p.tables + c.args.p.block * c.from-taken.result) c.args.t.nodes), λ _. omega arith))
