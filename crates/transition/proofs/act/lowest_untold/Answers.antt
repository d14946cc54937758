-- The characters below c are told something. Assumes nothing.
use mathlib.Core.Path.{◌≡◌, sym, ap, ◌∙◌, subst}
use mathlib.Core.Bool.{true, false}
use mathlib.Core.List.{List}
use Prim.Native.Nat.{ℕ, suc, ◌<◌}
use native.Mathlib.Numerals.{add-one}
use native.Mathlib.Omega.{arith}
use borrow.Author.Count.{below_more}
use Rattle.pack.specs.Syntax.{Effect}
use Rattle.pack.specs.Grammar.{Dimensions}
use Rattle.pack.specs.Duties.Judge.{Small}
use Rattle.transition.specs.Duties.Cause.{told, EffectsAt}
use Rattle.transition.proofs.act.lowest_untold.Goals as goal
use Rattle.transition.proofs.act.lowest_untold.Goals.{After-tells}

-- what is told of the next character
here : (c : After-tells) →
    (d : Dimensions) → Small d → (es : List Effect) → EffectsAt d c.args.pack.now c.args.at es → told es (suc c.loop-c.c) ≡ c.tells.result
here c d small es x =
    ap (told es) (sym (add-one c.loop-c.c)) ∙ sym (c.tells.ensures d small es x)

pub loop-c-init : goal.loop-c-init
loop-c-init c = λ d small es x k l. absurd (omega arith)

pub overflow_add-c : goal.overflow_add-c
overflow_add-c c = omega (arith, c.requires.1, c.loop-c-test.true)

pub tells-requires : goal.tells-requires
tells-requires c = c.requires.0

pub returns-then-not-tells : goal.returns-then-not-tells
returns-then-not-tells c =
    λ d small es x. record {
      one = λ k e.
          let same : c.loop-c.c ≡ k = cc in
          subst (λ (k : ℕ). (k < c.args.characters) × (told es (suc k) ≡ false)) same (c.loop-c-test.true, here (goal.at.returns-then-not-tells c).After-tells d small es x ∙ c.if-not-tells.true);
      none = λ e. absurd cc;
    }

pub loop-c-preserved : goal.loop-c-preserved
loop-c-preserved c =
    λ d small es x. below_more (λ k. told es (suc k) ≡ true) c.loop-c.c (c.loop-c.invariant d small es x) (here (goal.at.loop-c-preserved c).After-tells d small es x ∙ c.if-not-tells.false)

pub returns : goal.returns
returns c =
    λ d small es x. record { one = λ k e. absurd cc; none = λ e k l. c.loop-c.invariant d small es x k (omega arith) }
