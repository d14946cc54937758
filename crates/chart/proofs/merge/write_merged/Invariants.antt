-- Of the rows below i, the first of each class is put. Assumes nothing.
use Rattle.chart.specs.Duties.OfTable.{of_table}
use Rattle.chart.specs.Laws.MergedRows.{Writing}
use Rattle.chart.proofs.merge.write_merged.Given as goal

abbrev pub invariant-loop-i : goal.invariant-loop-i
invariant-loop-i l = of_table (Writing l.initial.work l.work) l.t l.k l.u l.i l.count
