-- Every list within reach passes a state within the ranges of the level. Assumes nothing.
use Prim.Native.Nat.{ℕ, ◌+◌, ◌<◌}
use mathlib.Core.Path.{◌≡◌}
use mathlib.Core.List.{List}
use lib.ListN.{length}
use Rattle.pack.specs.Syntax.{Node, Theory}
use Rattle.planner.specs.Inner.Lists.{slot_table}
use Rattle.planner.specs.Inner.Who.{rules_of}
use Rattle.planner.specs.Inner.Explain.{Stage}
use Rattle.planner.specs.Inner.Range.{TriggersInRange}
use Rattle.planner.specs.Inner.Levels.{OutOfReach}
use Rattle.planner.proofs.Reckoning.{Bounded}
use Rattle.planner.proofs.reach.nearest.Given as goal

-- of every number of levels: lists of that many actions more than have been reckoned
abbrev pub invariant-loop-i : goal.invariant-loop-i
invariant-loop-i l =
    (length l.lows ≡ 24) × (length l.highs ≡ 24)
    × ((th : Theory) (T : List Node) (x : Stage th T l.pack l.places l.p l.work (slot_table l.p l.work l.slot) (l.slot + l.p.stride)) → TriggersInRange l.lows l.highs th.triggers l.p.triggers × ((m : ℕ) → Bounded x l.lows l.highs (l.i + m) m))
    × ((k : ℕ) → k < l.i → OutOfReach l.pack l.places l.p l.work l.slot (rules_of l.h.whose) k l.h.base)
