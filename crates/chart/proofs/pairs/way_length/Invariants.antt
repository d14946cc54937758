-- The way to entry e is k characters longer than that to entry `at`. Assumes nothing.
use Rattle.std.proofs.Common.{◌≡◌, ◌≤◌, ◌+◌, length}
use Rattle.chart.specs.Inner.Pairs.{Ways}
use Rattle.chart.proofs.pairs.way_length.Given as goal

abbrev pub invariant-loop-at : goal.invariant-loop-at
invariant-loop-at l =
    (l.at + l.k ≤ l.e) × ((x : Ways l.work 6144 l.e) → length (x.way l.e) ≡ l.k + length (x.way l.at))

abbrev pub decreases-loop-at : goal.decreases-loop-at
decreases-loop-at l = l.at
