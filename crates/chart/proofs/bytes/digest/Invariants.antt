-- The sum is that of the bytes so far. Assumes nothing.
use Rattle.std.proofs.Common.{◌≡◌, ◌<◌}
use Rattle.chart.specs.Laws.Sums.{sum_of}
use Rattle.chart.proofs.bytes.digest.Given as goal

abbrev pub invariant-loop-x : goal.invariant-loop-x
invariant-loop-x g l =
    (l.sum < 4294967296) × (l.sum ≡ sum_of g.row.FACTOR l.fn.work l.fn.a l.x-index)
