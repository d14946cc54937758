-- The rows below i are put. Assumes nothing.
use Rattle.chart.specs.Duties.Out.{RowsPut}
use Rattle.chart.proofs.out.put_rows.Given as goal

abbrev pub invariant-loop-i : goal.invariant-loop-i
invariant-loop-i l =
    RowsPut l.src l.initial.out l.out l.t.width l.t.fluents l.t.characters l.t.rows l.to l.s.more l.s.less l.i
