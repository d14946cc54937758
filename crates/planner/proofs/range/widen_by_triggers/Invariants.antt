-- What the triggers below i write is in range. Assumes nothing.
use Prim.Native.Nat.{ℕ}
use mathlib.Core.Path.{◌≡◌}
use lib.ListN.{length}
use Rattle.pack.specs.Syntax.{Theory}
use Rattle.transition.specs.Duties.Play.{Theorized}
use Rattle.planner.specs.Inner.Range.{TriggersInRange, Wider}
use Rattle.planner.proofs.range.widen_by_triggers.Given as goal

abbrev pub invariant-loop-i : goal.invariant-loop-i
invariant-loop-i l =
    (length l.lows ≡ length l.initial.lows) × (length l.highs ≡ length l.initial.highs) × Wider l.initial.lows l.initial.highs l.lows l.highs × ((p : Theory) (n : ℕ) → Theorized p l.pack l.places n l.triggers → TriggersInRange l.lows l.highs p.triggers l.i)
