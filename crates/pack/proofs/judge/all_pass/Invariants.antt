-- What is left says of the state what the whole says. Assumes nothing.
use Prim.Native.Nat.{ℕ, ◌-◌}
use mathlib.Core.Path.{◌≡◌}
use mathlib.Core.List.{List}
use Rattle.pack.specs.Duties.Table.{state_of}
use Rattle.pack.specs.Duties.Judge.{alternative_at, Over}
use Rattle.pack.specs.Condition.{all_pass}
use Rattle.pack.specs.Grammar.{Dimensions, test_at}
use Rattle.pack.specs.Syntax.{Test}
use Rattle.pack.specs.Reading.{done}
use Rattle.pack.specs.Laws.Judged.{Left}
use Rattle.pack.proofs.judge.all_pass.Given as goal

abbrev pub invariant-loop : goal.invariant-loop
invariant-loop l =
    (d : Dimensions) → Over d l.t → (xs : List Test) (end : ℕ) → alternative_at d l.s l.at ≡ done xs end → Left (test_at d) l.s l.n (l.end - l.counter) (all_pass (state_of l.t l.buffer l.node)) xs end
