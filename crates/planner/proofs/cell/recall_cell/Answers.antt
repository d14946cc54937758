-- No cell before the one that is looked at holds it. Assumes nothing.
use Prim.Native.Nat.{ℕ, ◌+◌, ◌*◌}
use mathlib.Core.Path.{◌≡◌, sym, ap, ◌∙◌, subst}
use mathlib.Core.Logic.{by_cases}
use native.Mathlib.Decide.{ℕ_discrete}
use native.Mathlib.Omega.{arith}
use lib.ListN.{get_or}
use Rattle.planner.specs.Inner.Memory.{Holds, cell_size, bucket_at}
use Rattle.planner.proofs.cell.recall_cell.Goals as goal

pub returns-then-cell_has : goal.returns-then-cell_has
returns-then-cell_has c =
    let here : c.bucket_at-first.result + c.loop-i.i * c.cell_size-size.result ≡ bucket_at c.args.p c.args.work.now c.args.slot c.args.k + c.loop-i.i * cell_size c.args.p = ap (λ (s : ℕ). c.bucket_at-first.result + c.loop-i.i * s) c.cell_size-size.ensures ∙ ap (λ (q : ℕ). q + c.loop-i.i * cell_size c.args.p) c.bucket_at-first.ensures.0 in
    let holds = c.cell_has.ensures.0 c.if-cell_has.true in record {
      found = λ _. (c.loop-i.i, c.loop-i-test.true, subst (λ (q : ℕ). Holds c.args.p c.args.work.now c.args.slot q c.args.k) here holds, ap (λ (q : ℕ). get_or c.args.work.now q 0) (sym here));
      none = λ e. absurd (omega (arith, e, holds.some));
    }

pub loop-i-preserved : goal.loop-i-preserved
loop-i-preserved c =
    λ j g. by_cases (ℕ_discrete j c.loop-i.i)
    (λ e. subst (λ (j : ℕ). ¬ Holds c.args.p c.args.work.now c.args.slot (c.bucket_at-first.result + j * c.cell_size-size.result) c.args.k) (sym e) (c.cell_has.ensures.1 c.if-cell_has.false))
    (λ n. c.loop-i.invariant j (omega (arith, g, n)))

pub returns : goal.returns
returns c = record {
  found = λ z. absurd (omega (arith, z));
  none = λ _ i few x.
      let here : bucket_at c.args.p c.args.work.now c.args.slot c.args.k + i * cell_size c.args.p ≡ c.bucket_at-first.result + i * c.cell_size-size.result = ap (λ (q : ℕ). q + i * cell_size c.args.p) (sym c.bucket_at-first.ensures.0) ∙ ap (λ (s : ℕ). c.bucket_at-first.result + i * s) (sym c.cell_size-size.ensures) in
      c.loop-i.invariant i (omega (arith, few, c.loop-i-test.false)) (subst (λ (q : ℕ). Holds c.args.p c.args.work.now c.args.slot q c.args.k) here x);
}
