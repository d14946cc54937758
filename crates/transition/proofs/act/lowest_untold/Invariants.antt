-- The characters below c are told something. Assumes nothing.
use mathlib.Core.Path.{◌≡◌}
use mathlib.Core.Bool.{true}
use mathlib.Core.List.{List}
use Prim.Native.Nat.{ℕ, suc, ◌<◌}
use Rattle.pack.specs.Syntax.{Effect}
use Rattle.pack.specs.Grammar.{Dimensions}
use Rattle.pack.specs.Duties.Judge.{Small}
use Rattle.transition.specs.Duties.Cause.{told, EffectsAt}
use Rattle.transition.proofs.act.lowest_untold.Given as goal

abbrev pub invariant-loop-c : goal.invariant-loop-c
invariant-loop-c l =
    (d : Dimensions) → Small d → (es : List Effect) → EffectsAt d l.pack l.at es → (k : ℕ) → k < l.c → told es (suc k) ≡ true
