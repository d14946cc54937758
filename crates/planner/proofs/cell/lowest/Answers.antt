-- One of the four, as each of the three times it is one of two. Assumes nothing.
use Prim.Native.Nat.{ℕ, ◌+◌, ◌*◌, ◌<◌, ◌≤◌}
use mathlib.Core.Path.{◌≡◌, ap}
use mathlib.Core.Logic.{⊎_elim}
use native.Mathlib.Omega.{arith}
use Rattle.planner.specs.Inner.Memory.{cell_size, CellIn, rank_at}
use Rattle.planner.proofs.CellMemory.{four}
use Rattle.planner.proofs.cell.lowest.Goals as goal

pub returns : goal.returns
returns c =
    let cell : (i : ℕ) → i < 4 → c.lower.result ≡ c.args.first + i * cell_size c.args.p → CellIn c.args.p c.args.first c.lower.result = λ i few is. record { number = i; few = few; is = is } in
    let none : c.args.first ≡ c.args.first + 0 * cell_size c.args.p = omega arith in
    let one : c.args.first + c.cell_size-size.result ≡ c.args.first + 1 * cell_size c.args.p = omega (arith, c.cell_size-size.ensures) in
    let two : c.args.first + 2 * c.cell_size-size.result ≡ c.args.first + 2 * cell_size c.args.p = omega (arith, c.cell_size-size.ensures) in
    let three : c.args.first + 3 * c.cell_size-size.result ≡ c.args.first + 3 * cell_size c.args.p = omega (arith, c.cell_size-size.ensures) in (
      ⊎_elim
          (λ e. ⊎_elim (λ f. cell 0 (omega arith) (omega (arith, e, f))) (λ f. cell 1 (omega arith) (omega (arith, e, f, c.cell_size-size.ensures))) c.lower-one.ensures.0)
          (λ e. ⊎_elim (λ f. cell 2 (omega arith) (omega (arith, e, f, c.cell_size-size.ensures))) (λ f. cell 3 (omega arith) (omega (arith, e, f, c.cell_size-size.ensures))) c.lower-other.ensures.0)
          c.lower.ensures.0,
      four c.args.p (λ (i : ℕ). rank_at c.args.work.now c.lower.result ≤ rank_at c.args.work.now (c.args.first + i * cell_size c.args.p))
          (omega (arith, c.lower.ensures.1, c.lower-one.ensures.1, ap (rank_at c.args.work.now) none)) (omega (arith, c.lower.ensures.1, c.lower-one.ensures.2, ap (rank_at c.args.work.now) one)) (omega (arith, c.lower.ensures.2, c.lower-other.ensures.1, ap (rank_at c.args.work.now) two)) (omega (arith, c.lower.ensures.2, c.lower-other.ensures.2, ap (rank_at c.args.work.now) three)),
    )
