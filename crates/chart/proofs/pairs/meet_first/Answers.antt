-- All marks are cleared, then one pair is met. Assumes nothing.
use Rattle.std.proofs.Common.{arith}
use Rattle.chart.proofs.MetPairs.{first-met}
use Rattle.chart.proofs.pairs.meet_first.Goals as goal

pub returns : goal.returns
returns c = first-met c.clear.ensures c.requires.0 c.requires.1 (omega arith) c.meet.ensures
