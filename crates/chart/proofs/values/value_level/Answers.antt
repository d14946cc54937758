-- The rows below i are classed by their values. Assumes nothing.
use Rattle.std.proofs.Common.{ℕ, refl}
use Rattle.std.proofs.lemmas.List.{get_or-replicate}
use Rattle.chart.proofs.ValueClasses.{valuing_none, valuing_row}
use Rattle.chart.proofs.values.value_level.Goals as goal

pub loop-i-init : goal.loop-i-init
loop-i-init c = valuing_none _ _ _ _ _ _ _ _ _ refl (λ b h. get_or-replicate {A = ℕ} 131 b 0 0 h)

pub loop-i-preserved : goal.loop-i-preserved
loop-i-preserved c = valuing_row c.requires c.loop-i.auto.work c.loop-i.invariant c.loop-i-test.true c.value_row-count.ensures
