-- What is left gives the state the number that the whole gives it. Assumes nothing.
use Prim.Native.Nat.{ℕ, ◌-◌}
use mathlib.Core.Path.{◌≡◌}
use mathlib.Core.List.{List}
use Rattle.pack.specs.Duties.Table.{state_of}
use Rattle.pack.specs.Duties.Judge.{Over}
use Rattle.pack.specs.Grammar.{Dimensions, rule_at, rules_at}
use Rattle.pack.specs.Syntax.{Rule}
use Rattle.pack.specs.Reading.{done}
use Rattle.pack.specs.Laws.Judged.{Left}
use Rattle.pack.proofs.judge.utility.Given as goal

abbrev pub invariant-loop-i : goal.invariant-loop-i
invariant-loop-i l =
    (d : Dimensions) → Over d l.t → (xs : List Rule) (end : ℕ) → rules_at d l.s l.at ≡ done xs end → Left (rule_at d) l.s l.n (l.count - l.i) (Rattle.pack.specs.Condition.utility (state_of l.t l.buffer l.node)) xs end
