-- What is left says of the state what the whole says. Assumes nothing.
use Prim.Native.Nat.{ℕ, ◌-◌}
use mathlib.Core.Path.{◌≡◌}
use Rattle.pack.specs.Duties.Table.{state_of}
use Rattle.pack.specs.Duties.Judge.{alternative_at, Over}
use Rattle.pack.specs.Grammar.{Dimensions, condition_at}
use Rattle.pack.specs.Syntax.{Condition}
use Rattle.pack.specs.Reading.{done}
use Rattle.pack.specs.Laws.Judged.{Left}
use Rattle.pack.proofs.judge.holds.Given as goal

abbrev pub invariant-loop-i : goal.invariant-loop-i
invariant-loop-i l =
    (d : Dimensions) → Over d l.t → (xs : Condition) (end : ℕ) → condition_at d l.s l.at ≡ done xs end → Left (alternative_at d) l.s l.n (l.count - l.i) (Rattle.pack.specs.Condition.holds (state_of l.t l.buffer l.node)) xs end
