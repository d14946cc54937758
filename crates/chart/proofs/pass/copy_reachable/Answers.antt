-- The rows below i are filled, and those that they name have numbers. Assumes nothing.
use Rattle.std.proofs.Common.{◌∙◌, arith, rules}
use Rattle.chart.proofs.CopyPass.{copying_start, copying_row, copying_end, laid_same, sound_same}
use Rattle.chart.proofs.pass.copy_reachable.Goals as goal

pub loop-i-init : goal.loop-i-init
loop-i-init c =
    (search rules, copying_start (laid_same c.requires.0 (c.number_of-first.auto.work ∙ c.clear.auto.work)) (sound_same c.requires.0 c.requires.1 (λ p l. c.number_of-first.ensures.low p l ∙ c.clear.ensures.low p l)) c.number_of-first.ensures c.more-count.ensures)

pub loop-i-preserved : goal.loop-i-preserved
loop-i-preserved c =
    (c.fill_row-count.auto.work ∙ c.loop-i.invariant.0, copying_row c.loop-i.invariant.1 c.loop-i-test.true c.fill_row-count.ensures c.fill_row-count.auto.work)

pub returns : goal.returns
returns c =
    copying_end c.loop-i.invariant.1 c.loop-i-test.false (λ p l. c.number_of-first.ensures.low p l ∙ c.clear.ensures.low p l) (λ p l. c.number_of-first.ensures.high p l ∙ c.clear.ensures.high p (omega arith))
