-- Of the ids on the chain those before this one are not the table's. Assumes nothing.
use Prim.Native.Nat.{ℕ, ◌<◌}
use Rattle.planner.specs.Inner.Memory.{Behind, OnChain, Alike}
use Rattle.planner.proofs.intern.find.Given as goal

abbrev pub invariant-loop-id : goal.invariant-loop-id
invariant-loop-id l =
    (l.id < 256) × (0 < l.id → OnChain l.p l.work l.at l.id)
    × ((n : ℕ) → OnChain l.p l.work l.at n → Alike l.p l.work l.t n → (k : ℕ) × Behind l.p l.work n k l.id)

abbrev pub decreases-loop-id : goal.decreases-loop-id
decreases-loop-id l = l.id
