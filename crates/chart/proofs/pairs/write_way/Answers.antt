-- The characters from i on are written. Assumes nothing.
use Rattle.std.proofs.Common.{arith}
use Rattle.chart.proofs.WayBack.{tracing_more, tracing_end}
use Rattle.chart.proofs.pairs.write_way.Goals as goal

pub loop-i-preserved : goal.loop-i-preserved
loop-i-preserved c =
    tracing_more c.loop-i.invariant c.requires.ways (c.requires.long_way.0 c.requires.ways) c.loop-i-test.true (omega (arith, c.requires.long_way)) _ c.met_from-at.ensures

pub returns : goal.returns
returns c = tracing_end c.loop-i.invariant c.loop-i-test.false
