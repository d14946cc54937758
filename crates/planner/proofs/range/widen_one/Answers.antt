-- Only the ranges of the effect's fluent change, and they have its value. Assumes nothing.
use native.Mathlib.Omega.{arith}
use Rattle.planner.proofs.Pruning.{effect_few, widened_one}
use Rattle.planner.proofs.range.widen_one.Goals as goal

pub returns-then-whom_of-eq0 : goal.returns-then-whom_of-eq0
returns-then-whom_of-eq0 c =
    let few = effect_few c.requires.0 c.written_fluent-f.ensures in
    widened_one c.written_fluent-f.ensures c.written_value-value.ensures (omega (arith, few, c.requires.1.lowest)) (omega (arith, few, c.requires.1.highest)) (omega (arith, c.min.ensures), omega (arith, c.min.ensures)) (omega (arith, c.max.ensures), omega (arith, c.max.ensures))

pub bounds-lows-f : goal.bounds-lows-f
bounds-lows-f c =
    let few = effect_few c.requires.0 c.written_fluent-f.ensures in
    omega (arith, few, c.requires.1.lowest)

pub bounds-lows-f-then-whom_of-eq0 : goal.bounds-lows-f-then-whom_of-eq0
bounds-lows-f-then-whom_of-eq0 c =
    let few = effect_few c.requires.0 c.written_fluent-f.ensures in
    omega (arith, few, c.requires.1.lowest)

pub bounds-highs-f : goal.bounds-highs-f
bounds-highs-f c =
    let few = effect_few c.requires.0 c.written_fluent-f.ensures in
    omega (arith, few, c.requires.1.highest)

pub bounds-highs-f-then-whom_of-eq0 : goal.bounds-highs-f-then-whom_of-eq0
bounds-highs-f-then-whom_of-eq0 c =
    let few = effect_few c.requires.0 c.written_fluent-f.ensures in
    omega (arith, few, c.requires.1.highest)
