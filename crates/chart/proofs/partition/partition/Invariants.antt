-- The old classes are exact at some depth, and there are `count` of them, at most `limit`; so `limit - count` falls. Assumes nothing.
use Rattle.std.proofs.Common.{◌≡◌, ◌-◌, length}
use Rattle.chart.specs.Chart.{Ordered}
use Rattle.pack.specs.Duties.Table.{rows_at}
use Rattle.chart.specs.Duties.Level.{Levels}
use Rattle.chart.proofs.PartitionLevels.{Parting}
use Rattle.chart.proofs.partition.partition.Given as goal

abbrev pub invariant-loop-count : goal.invariant-loop-count
invariant-loop-count l =
    (length l.work ≡ length l.initial.work) ×
    Levels l.initial.work l.t.nodes l.t.width l.t.fluents l.t.characters l.t.rows l.g.level l.g.classes l.g.firsts ×
    Ordered l.t.characters (rows_at l.initial.work l.t.width l.t.fluents l.t.characters l.t.rows l.t.nodes) ×
    Parting l.initial.work l.t.nodes l.t.width l.t.fluents l.t.characters l.t.rows l.work l.g.level l.g.classes l.g.firsts
    l.limit l.count

abbrev pub decreases-loop-count : goal.decreases-loop-count
decreases-loop-count l = l.limit - l.count
