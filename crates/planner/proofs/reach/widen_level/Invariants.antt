-- What the actions below x write that could be played is in range. Assumes nothing.
use Prim.Native.Nat.{ℕ}
use mathlib.Core.Path.{◌≡◌}
use lib.ListN.{length}
use Rattle.pack.specs.Syntax.{Theory}
use Rattle.transition.specs.Duties.Play.{Theorized}
use Rattle.planner.specs.Inner.Range.{Wider}
use Rattle.planner.specs.Inner.Reach.{ActionsInRange}
use Rattle.planner.proofs.reach.widen_level.Given as goal

abbrev pub invariant-loop-x : goal.invariant-loop-x
invariant-loop-x l =
    (length l.lows ≡ length l.initial.lows) × (length l.highs ≡ length l.initial.highs) × Wider l.initial.lows l.initial.highs l.lows l.highs × ((p : Theory) (n : ℕ) → Theorized p l.pack l.places l.actions n → ActionsInRange p l.lower l.upper l.lows l.highs l.x)
