-- The rows below i are classed by their values. Assumes nothing.
use Rattle.chart.proofs.ValueClasses.{Valuing}
use Rattle.chart.proofs.values.value_level.Given as goal

abbrev pub invariant-loop-i : goal.invariant-loop-i
invariant-loop-i l =
    Valuing l.initial.work l.work l.heads l.t.nodes l.t.width l.t.fluents l.t.rows l.g.level l.g.classes l.g.firsts l.i l.count
