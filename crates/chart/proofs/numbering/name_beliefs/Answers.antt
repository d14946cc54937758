-- The beliefs below k are named. Assumes nothing.
use Rattle.std.proofs.Common.{◌+◌, ◌∙◌, arith}
use Rattle.chart.specs.Laws.PassRows.{named_none, named_more}
use Rattle.chart.proofs.numbering.name_beliefs.Goals as goal

pub loop-k-init : goal.loop-k-init
loop-k-init c = named_none _ _ _ _ _ _ c.requires.numbering

pub loop-k-preserved : goal.loop-k-preserved
loop-k-preserved c =
    named_more c.loop-k.invariant c.number_of-r.ensures (c.from-x.ensures ∙ c.loop-k.invariant.high (c.args.to + c.loop-k.k) (omega arith)) c.more-met.ensures (omega arith) (omega arith)
