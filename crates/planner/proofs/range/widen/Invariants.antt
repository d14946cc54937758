-- What the effects so far write is in range. Assumes nothing.
use Prim.Native.Nat.{ℕ, ◌-◌}
use mathlib.Core.Path.{◌≡◌}
use mathlib.Core.List.{List}
use lib.ListN.{length}
use Rattle.pack.specs.Syntax.{Effect}
use Rattle.pack.specs.Reading.{done}
use Rattle.pack.specs.Grammar.{Dimensions, effects_at}
use Rattle.pack.specs.Duties.Judge.{Small}
use Rattle.planner.specs.Inner.Range.{Wider}
use Rattle.planner.proofs.Pruning.{Widening}
use Rattle.planner.proofs.range.widen.Given as goal

abbrev pub invariant-loop-i : goal.invariant-loop-i
invariant-loop-i l =
    (length l.lows ≡ length l.initial.lows) × (length l.highs ≡ length l.initial.highs) × Wider l.initial.lows l.initial.highs l.lows l.highs × ((d : Dimensions) → Small d → (xs : List Effect) (end : ℕ) → effects_at d l.pack l.at ≡ done xs end → Widening l.lows l.highs d l.pack l.n (l.count - l.i) xs end)
