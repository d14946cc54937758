-- Length after length, the shortest first. Assumes nothing.
use Prim.Native.Nat.{ℕ, ◌+◌, ◌<◌, ◌≤◌}
use mathlib.Core.Path.{◌≡◌}
use mathlib.Core.List.{List}
use lib.ListN.{length}
use Rattle.pack.specs.Syntax.{Node, Theory}
use Rattle.pack.specs.State.{meaning}
use Rattle.pack.specs.Duties.Table.{Below, Above}
use Rattle.chart.specs.Call.{work_room}
use Rattle.chart.specs.Chart.{Written}
use Rattle.planner.specs.Ending.{author_utility}
use Rattle.planner.specs.Inner.Lists.{slot_table, Ends}
use Rattle.planner.specs.Inner.Memory.{Memory}
use Rattle.planner.specs.Inner.Explain.{Stage}
use Rattle.planner.proofs.search.deepen.Given as goal

abbrev pub invariant-loop-n : goal.invariant-loop-n
invariant-loop-n l =
    (0 < l.n) × (length l.work ≡ length l.initial.work) × (l.list ≡ l.initial.list) × Below l.initial.work l.work (0 + l.p.stride) × Above l.initial.work l.work work_room
    × ((th : Theory) (T : List Node) → Stage th T l.pack l.places l.p l.initial.work (slot_table l.p l.initial.work 0) (0 + l.p.stride) → Memory th l.p.foresight.0 l.p (0 + l.p.stride) l.initial.work → Written l.p.characters T → author_utility th (meaning l.p.characters T 0) ≤ l.g.base → Memory th l.p.foresight.0 l.p (0 + l.p.stride) l.work × ((list : List ℕ) (v : ℕ) → 0 < length list → length list < l.n → ¬ Ends th l.p.foresight.0 l.g.nesting.0 l.g.base (meaning l.p.characters T 0) list v))
