-- A remainder, so one of the buckets that there are. Assumes nothing.
use Prim.Native.Nat.{ℕ, ◌+◌, ◌*◌, ◌-◌, ◌/◌, ◌%◌}
use mathlib.Core.Path.{refl, sym, ap, ◌∙◌, subst}
use Rattle.chart.specs.Laws.Sums.{sum_of}
use Rattle.transition.specs.Duties.Stage.{scratch_at}
use Rattle.planner.specs.Inner.Memory.{steps_at, cell_size, Bucket}
use Rattle.planner.proofs.CellMemory.{bucket_placed, reckoned}
use Rattle.planner.proofs.cell.bucket_at.Goals as goal

pub returns : goal.returns
returns c =
    let x : ℕ → ℕ = λ s. s + c.args.k.who % 8 * 37 + c.args.k.number % 32 * 5 + c.args.k.nesting % 4 in
    let there : ℕ → ℕ = λ s. steps_at c.args.p + 4 * cell_size c.args.p * (x s % ((scratch_at - steps_at c.args.p) / (4 * cell_size c.args.p))) in
    let is = (reckoned c.args.p c.requires.laid (x c.digest.result) (ap (λ (s : ℕ). 4 * s) c.cell_size-size.ensures) refl).is in
    let sum = c.digest.ensures.0 ∙ ap (sum_of 5 c.args.work.now c.args.slot) c.extent.ensures in
    (is ∙ ap there sum, subst (Bucket c.args.p) (sym is) (bucket_placed c.args.p c.requires.laid (x c.digest.result)))
