-- None of the leading rows below q is alike to row i. Assumes nothing.
use Rattle.chart.proofs.Levels.{NoneBelow}
use Rattle.chart.proofs.partition.class_of.Given as goal

abbrev pub invariant-loop-q : goal.invariant-loop-q
invariant-loop-q l =
    NoneBelow l.work l.t.width l.t.fluents l.t.characters l.t.rows l.g.classes l.g.firsts l.count l.i l.q
