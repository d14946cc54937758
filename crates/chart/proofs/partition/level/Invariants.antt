-- The rows below i are classed. Assumes nothing.
use Rattle.chart.proofs.Levels.{Leveling}
use Rattle.chart.proofs.partition.level.Given as goal

abbrev pub invariant-loop-i : goal.invariant-loop-i
invariant-loop-i l =
    Leveling l.initial.work l.work l.t.nodes l.t.width l.t.fluents l.t.characters l.t.rows l.g.level l.g.classes l.g.firsts
    l.i l.count
