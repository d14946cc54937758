-- Explanations over states in slots. Assumes nothing.
use Prim.Native.Nat.{ℕ, suc, ◌+◌, ◌*◌, ◌<◌}
use mathlib.Core.Path.{◌≡◌}
use mathlib.Core.List.{List}
use lib.ListN.{length}
use Rattle.pack.specs.Syntax.{Node, Theory}
use Rattle.pack.specs.State.{meaning}
use Rattle.pack.specs.Duties.Table.{Below, Above}
use Rattle.chart.specs.Call.{work_room}
use Rattle.planner.specs.Inner.Lists.{slot_table, AboveBy}
use Rattle.planner.specs.Inner.Memory.{Memory}
use Rattle.planner.specs.Inner.Explain.{Stage}
use Rattle.planner.proofs.Explanations.{Content}
use Rattle.planner.proofs.explain.+explaining.Given as goal

abbrev pub decreases-allowed : goal.decreases-allowed
decreases-allowed l = 1000 * l.d.nesting.0 + 4

abbrev pub invariant-allowed-loop-i : goal.invariant-allowed-loop-i
invariant-allowed-loop-i l =
    (length l.work ≡ length l.initial.work) × Below l.initial.work l.work (l.slot + l.p.stride) × Above l.initial.work l.work work_room
    × ((th : Theory) (T : List Node) → Stage th T l.pack l.places l.p l.initial.work (slot_table l.p l.initial.work l.slot) (l.slot + l.p.stride) → Memory th l.p.foresight.0 l.p (l.slot + l.p.stride) l.initial.work → Memory th l.p.foresight.0 l.p (l.slot + l.p.stride) l.work × ((j : ℕ) → j < l.i → Content th l.p.foresight.0 l.d.nesting.0 l.d.who l.d.action (meaning l.p.characters T 0) j))

abbrev pub decreases-explained : goal.decreases-explained
decreases-explained l = 1000 * l.d.nesting.0 + 2

abbrev pub decreases-explains : goal.decreases-explains
decreases-explains l = 1000 * l.d.nesting.0

abbrev pub decreases-extends : goal.decreases-extends
decreases-extends l =
    1000 * l.quest.goal.nesting.0 + 4 + 3 * l.quest.left

abbrev pub decreases-extends_by : goal.decreases-extends_by
decreases-extends_by l =
    1000 * l.quest.goal.nesting.0 + 6 + 3 * l.quest.left

abbrev pub invariant-extends_by-loop-x : goal.invariant-extends_by-loop-x
invariant-extends_by-loop-x l =
    (length l.work ≡ length l.initial.work) × Below l.initial.work l.work (l.slot + l.p.stride) × Above l.initial.work l.work work_room
    × ((th : Theory) (T : List Node) → Stage th T l.pack l.places l.p l.initial.work (slot_table l.p l.initial.work l.slot) (l.slot + l.p.stride) → Memory th l.p.foresight.0 l.p (l.slot + l.p.stride) l.initial.work → Memory th l.p.foresight.0 l.p (l.slot + l.p.stride) l.work × ((y : ℕ) → y < l.x → AboveBy th l.p.foresight.0 l.quest.goal.nesting.0 l.quest.who l.quest.goal.base (suc l.quest.left) y (meaning l.p.characters T 0) → ⊥))

abbrev pub decreases-fine : goal.decreases-fine
decreases-fine l = 1000 * l.d.nesting.0 + 3

abbrev pub decreases-judged : goal.decreases-judged
decreases-judged l = 1000 * l.d.nesting.0 + 1

abbrev pub decreases-via : goal.decreases-via
decreases-via l =
    1000 * l.quest.goal.nesting.0 + 5 + 3 * l.quest.left
