-- A state held against those before it. Assumes nothing.
use Prim.Native.Nat.{ℕ, ◌*◌, ◌<◌}
use Rattle.chart.specs.Duties.Level.{SameByte}
use Rattle.planner.proofs.search.repeats.Given as goal

abbrev pub invariant-loop-i : goal.invariant-loop-i
invariant-loop-i l =
    ((j : ℕ) → j < l.i → ((q : ℕ) → q < l.n → SameByte l.work l.slot (j * l.p.stride) q) → ⊥)
