-- One byte more. Assumes nothing.
use Rattle.std.proofs.Common.{◌+◌, arith}
use Rattle.std.proofs.lemmas.List.Edits.{get_or-between}
use Rattle.chart.specs.Laws.Sums.{sum_none, sum_more}
use Rattle.chart.proofs.bytes.digest.Goals as goal

pub loop-x-init : goal.loop-x-init
loop-x-init g c = grind (arith, sum_none)

pub loop-x-preserved : goal.loop-x-preserved
loop-x-preserved g c =
    let byte = get_or-between c.args.work.now c.args.a (c.args.a + c.args.n) c.loop-x.x-index 0 (omega arith) in
    grind (arith, sum_more)
