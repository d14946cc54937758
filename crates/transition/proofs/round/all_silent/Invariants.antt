-- The effects in the rows so far are meant for nobody's beliefs. Assumes nothing.
use mathlib.Core.List.{List}
use Prim.Native.Nat.{ℕ, ◌<◌}
use lib.ListN.{get_or}
use Rattle.pack.specs.Syntax.{Effect}
use Rattle.pack.specs.Grammar.{Dimensions}
use Rattle.pack.specs.Duties.Judge.{Small}
use Rattle.transition.specs.Duties.Cause.{EffectsAt}
use Rattle.transition.specs.Inner.Round.{Silent}
use Rattle.transition.proofs.round.all_silent.Given as goal

abbrev pub invariant-loop-at : goal.invariant-loop-at
invariant-loop-at l =
    (i : ℕ) → i < l.at-index → (d : Dimensions) → Small d → (es : List Effect) → EffectsAt d l.pack (get_or l.effects i 0) es → Silent es
