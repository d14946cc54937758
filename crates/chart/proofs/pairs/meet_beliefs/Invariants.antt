-- The characters below d are followed. Assumes nothing.
use Rattle.chart.proofs.MetPairs.{Follows}
use Rattle.chart.proofs.pairs.meet_beliefs.Given as goal

abbrev pub invariant-loop-d : goal.invariant-loop-d
invariant-loop-d l =
    Follows l.initial.work l.work l.fn.t.nodes l.fn.t.width l.fn.t.fluents l.fn.t.characters l.fn.t.rows 2048 6144 l.done l.count l.a l.b l.met l.d
