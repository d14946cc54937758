-- None of the effects so far is such a one. Assumes nothing.
use Prim.Native.Nat.{ℕ, ◌-◌}
use mathlib.Core.Path.{◌≡◌}
use mathlib.Core.List.{List}
use Rattle.pack.specs.Syntax.{Effect}
use Rattle.pack.specs.Reading.{done}
use Rattle.pack.specs.Grammar.{Dimensions, effect_at, effects_at}
use Rattle.pack.specs.Duties.Judge.{Small}
use Rattle.pack.specs.Duties.Effects.{asks, some_of}
use Rattle.pack.specs.Laws.Judged.{Left}
use Rattle.pack.proofs.effects.some_effect.Given as goal

abbrev pub invariant-loop : goal.invariant-loop
invariant-loop l =
    (d : Dimensions) → Small d → (xs : List Effect) (end : ℕ) → effects_at d l.s l.at ≡ done xs end → Left (effect_at d) l.s l.n (l.end - l.counter) (some_of (asks l.w)) xs end
