-- The rows below i are put. Assumes nothing.
use Rattle.chart.proofs.RowsOut.{rows_next}
use Rattle.chart.proofs.out.put_rows.Goals as goal
use Rattle.chart.proofs.out.put_rows.Goals.{In-loop-i}

pub loop-i-preserved : goal.loop-i-preserved
loop-i-preserved c =
    rows_next c.requires.room.0 c.requires.room.1 c.loop-i.invariant c.put_beside.ensures
