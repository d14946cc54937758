-- A pair that is marked, or one that is stored. Assumes nothing.
use Rattle.std.proofs.Common.{arith}
use Rattle.chart.proofs.MetPairs.{pair_new}
use Rattle.chart.proofs.pairs.meet.Goals as goal

pub returns : goal.returns
returns c =
    rw c.to_be_bytes.ensures
    (pair_new c.args.work.now 2048 6144 c.args.count c.args.x c.args.y c.args.from c.args.d c.requires.small.0 c.requires.small.1 (omega arith) (omega arith) (omega (arith, c.requires.room)) c.if-work-mark-ne0.false)
