-- From class `next` - 1 on none of row i's hash has a leading row with the values of row i. Assumes nothing.
use Rattle.chart.proofs.ValueClasses.{Looking}
use Rattle.chart.proofs.values.value_class.Given as goal

abbrev pub invariant-loop-p : goal.invariant-loop-p
invariant-loop-p l =
    Looking l.work l.t.width l.t.fluents l.t.rows l.g.firsts l.i l.count l.next

abbrev pub decreases-loop-p : goal.decreases-loop-p
decreases-loop-p l = l.next
