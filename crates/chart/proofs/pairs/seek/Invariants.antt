-- The entries below `done` are of rows with the same values, and there are at most 4096. Assumes nothing.
use Rattle.std.proofs.Common.{◌≡◌, ◌-◌, length}
use Rattle.chart.proofs.SoughtPair.{Seeking}
use Rattle.chart.proofs.pairs.seek.Given as goal

abbrev pub invariant-loop-done : goal.invariant-loop-done
invariant-loop-done l =
    (length l.work ≡ length l.initial.work) × Seeking l.initial.work l.work l.t.nodes l.t.width l.t.fluents l.t.characters l.t.rows 2048 6144 l.count l.done

abbrev pub decreases-loop-done : goal.decreases-loop-done
decreases-loop-done l = 4096 - l.done
