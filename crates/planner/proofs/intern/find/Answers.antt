-- Of the ids on the chain those before this one are not the table's. Assumes nothing.
use Prim.Native.Nat.{◌+◌}
use mathlib.Core.Path.{sym, subst}
use mathlib.Core.Logic.{⊎_elim}
use native.Mathlib.Omega.{arith}
use Rattle.planner.specs.Inner.Memory.{links_at, Behind, OnChain, Alike}
use Rattle.planner.proofs.Chains.{behind_here, behind_on, behind_none, chain_next}
use Rattle.planner.proofs.intern.find.Goals as goal

pub returns-then-id-next : goal.returns-then-id-next
returns-then-id-next c = (
  tt,
  record {
    small = omega arith;
    alike = λ z. absurd (omega (arith, z));
    listed = λ z. absurd (omega (arith, z));
    none = λ _ n x y.
        let (k, z) = c.loop-id.invariant.2 n x y in
        ⊎_elim (λ e. c.has_id.ensures.1 c.if-has_id.false (subst (Alike c.args.p c.args.work.now c.args.t) (sym e) y)) (λ (falls, _). omega (arith, falls, c.from-next.ensures, c.if-id-next.true)) (behind_on c.args.p c.args.work.now n k c.loop-id.id z);
  },
)

pub loop-id-preserved : goal.loop-id-preserved
loop-id-preserved c = (
  omega (arith, c.from-next.ensures, c.type_inv.work (links_at c.args.p + c.loop-id.id)),
  λ z. subst (OnChain c.args.p c.args.work.now c.args.at) (sym c.from-next.ensures) (chain_next c.args.p (omega (arith, c.from-next.ensures, c.if-id-next.false)) (omega (arith, c.from-next.ensures, z)) (c.loop-id.invariant.1 (omega (arith, c.loop-id-test.true)))),
  λ n x y.
      let (k, z) = c.loop-id.invariant.2 n x y in
      ⊎_elim (λ i. absurd (c.has_id.ensures.1 c.if-has_id.false (subst (Alike c.args.p c.args.work.now c.args.t) (sym i) y))) (λ (_, (j, w)). (j, subst (Behind c.args.p c.args.work.now n j) (sym c.from-next.ensures) w)) (behind_on c.args.p c.args.work.now n k c.loop-id.id z),
)

pub returns : goal.returns
returns c = (
  tt,
  record {
    small = omega arith;
    alike = λ z. absurd (omega (arith, z));
    listed = λ z. absurd (omega (arith, z));
    none = λ _ n x y. let (k, z) = c.loop-id.invariant.2 n x y in behind_none c.args.p c.args.work.now n k c.loop-id.id x.some (omega (arith, c.loop-id-test.false)) z;
  },
)

pub loop-id-init : goal.loop-id-init
loop-id-init c =
    let small = c.type_inv.work c.args.at in (
      omega (arith, c.from-id.ensures, small),
      λ z. record { some = z; low = omega (arith, small); links = 0; behind = subst (Behind c.args.p c.args.work.now c.from-id.result 0) c.from-id.ensures (behind_here c.args.p c.args.work.now c.from-id.result) },
      λ n x y. (x.links, subst (Behind c.args.p c.args.work.now n x.links) (sym c.from-id.ensures) x.behind),
    )
