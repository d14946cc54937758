-- The author's lists over states in slots. Assumes nothing.
use Prim.Native.Nat.{ℕ, suc, ◌+◌, ◌*◌, ◌<◌}
use mathlib.Core.Path.{◌≡◌}
use mathlib.Core.List.{List}
use lib.ListN.{length}
use Rattle.pack.specs.Syntax.{Node, Theory}
use Rattle.pack.specs.State.{meaning}
use Rattle.pack.specs.Duties.Table.{Below, Above}
use Rattle.chart.specs.Call.{work_room}
use Rattle.planner.specs.Inner.Lists.{slot_table, EndsBy}
use Rattle.planner.specs.Inner.Memory.{Memory}
use Rattle.planner.specs.Inner.Explain.{Stage}
use Rattle.planner.specs.Inner.Search.{Trail}
use Rattle.planner.proofs.search.+completing.Given as goal

abbrev pub decreases-completes : goal.decreases-completes
decreases-completes l = 3 * l.ahead.left

abbrev pub decreases-completes_after : goal.decreases-completes_after
decreases-completes_after l = 3 * l.ahead.left + 2

abbrev pub invariant-completes_after-loop-x : goal.invariant-completes_after-loop-x
invariant-completes_after-loop-x l =
    (length l.work ≡ length l.initial.work) × (l.list ≡ l.initial.list) × Below l.initial.work l.work (l.ahead.done * l.p.stride + l.p.stride) × Above l.initial.work l.work work_room
    × ((th : Theory) (T : List Node) → Stage th T l.pack l.places l.p l.initial.work (slot_table l.p l.initial.work (l.ahead.done * l.p.stride)) (l.ahead.done * l.p.stride + l.p.stride) → Memory th l.p.foresight.0 l.p (l.ahead.done * l.p.stride + l.p.stride) l.initial.work → Trail th l.p.foresight.0 l.ahead.goal.nesting.0 l.ahead.goal.base l.p l.initial.work l.ahead.done (suc l.ahead.left) (meaning l.p.characters T 0) → Memory th l.p.foresight.0 l.p (l.ahead.done * l.p.stride + l.p.stride) l.work × ((y : ℕ) → y < l.x → (list : List ℕ) (v : ℕ) → length list ≡ suc l.ahead.left → ¬ EndsBy th l.p.foresight.0 l.ahead.goal.nesting.0 l.ahead.goal.base y (meaning l.p.characters T 0) list v))

abbrev pub decreases-completes_by : goal.decreases-completes_by
decreases-completes_by l = 3 * l.ahead.left + 1
