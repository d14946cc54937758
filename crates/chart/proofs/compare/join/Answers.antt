-- The first chart's rows, and behind them the second's. Assumes nothing.
use Rattle.std.proofs.Common.{arith}
use Rattle.chart.proofs.JoinedCharts.{join_room, join_inside, join_shifts, join_shifts_other, joined}
use Rattle.chart.proofs.compare.join.Goals as goal

pub put_rows-requires : goal.put_rows-requires
put_rows-requires c = rw c.at-one.ensures (record {
  room = (omega arith, omega arith, (join_inside c.requires).0, omega (arith, join_room c.requires, c.requires.room));
  shifts = join_shifts c.requires;
})

pub put_rows-requires-2 : goal.put_rows-requires-2
put_rows-requires-2 c = rw c.at-one.ensures (record {
  room = (omega arith, omega arith, (join_inside c.requires).1, omega (arith, join_room c.requires, c.requires.room, c.put_rows.auto.out));
  shifts = join_shifts_other c.requires;
})

pub returns : goal.returns
returns c = joined c.requires (rw c.at-one.ensures at c.put_rows.ensures) (rw c.at-one.ensures at c.put_rows-2.ensures)
