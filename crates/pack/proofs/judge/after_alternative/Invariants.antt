-- What is left ends where the whole ends. Assumes nothing.
use Prim.Native.Nat.{ℕ, ◌-◌}
use mathlib.Core.Path.{◌≡◌}
use mathlib.Core.List.{List}
use Rattle.pack.specs.Duties.Judge.{alternative_at, Small}
use Rattle.pack.specs.Grammar.{Dimensions, test_at}
use Rattle.pack.specs.Syntax.{Test}
use Rattle.pack.specs.Reading.{done}
use Rattle.pack.specs.Laws.Judged.{Left}
use Rattle.pack.proofs.judge.after_alternative.Given as goal

abbrev pub invariant-loop : goal.invariant-loop
invariant-loop l =
    (d : Dimensions) → Small d → (xs : List Test) (end : ℕ) → alternative_at d l.s l.at ≡ done xs end → Left (test_at d) l.s l.n (l.end - l.counter) (λ (l : List Test). tt {0}) xs end
