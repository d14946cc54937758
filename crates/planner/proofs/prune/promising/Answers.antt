-- Its condition fails, or it is the last action and nothing could exceed. Assumes nothing.
use Prim.Native.Nat.{ℕ}
use mathlib.Core.Path.{◌≡◌, sym, subst}
use native.Mathlib.Omega.{arith}
use Rattle.planner.specs.Inner.Who.{rules_of}
use Rattle.planner.specs.Inner.Look.{Hopeless}
use Rattle.planner.proofs.Pruning.{try_judged, try_forbidden}
use Rattle.planner.proofs.prune.promising.Goals as goal

pub returns-else-h-gt0 : goal.returns-else-h-gt0
returns-else-h-gt0 c =
    let none : c.args.h.left ≡ 0 = omega (arith, c.if-h-gt0.false) in
    λ e. subst (λ (left : ℕ). Hopeless c.args.pack.now c.args.places.now c.args.p.triggers c.args.x c.args.work.now c.args.t (rules_of c.args.h.whose) left c.args.h.base) (sym none) (c.could_leave.ensures e)

pub holds-requires : goal.holds-requires
holds-requires c = try_judged _ _ _ _ _ _ c.requires

pub returns-then-not-holds : goal.returns-then-not-holds
returns-then-not-holds c = λ e. try_forbidden _ _ _ _ _ _ c.holds.ensures c.if-not-holds.true _ _ _
