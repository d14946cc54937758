-- What is left ends where the whole ends. Assumes nothing.
use Prim.Native.Nat.{ℕ, ◌-◌}
use mathlib.Core.Path.{◌≡◌}
use Rattle.pack.specs.Duties.Judge.{alternative_at, Small}
use Rattle.pack.specs.Grammar.{Dimensions, condition_at}
use Rattle.pack.specs.Syntax.{Condition}
use Rattle.pack.specs.Reading.{done}
use Rattle.pack.specs.Laws.Judged.{Left}
use Rattle.pack.proofs.judge.after_condition.Given as goal

abbrev pub invariant-loop : goal.invariant-loop
invariant-loop l =
    (d : Dimensions) → Small d → (xs : Condition) (end : ℕ) → condition_at d l.s l.at ≡ done xs end → Left (alternative_at d) l.s l.n (l.end - l.counter) (λ (l : Condition). tt {0}) xs end
