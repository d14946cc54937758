-- The id that is found; else a new one, in front of its chain. Assumes nothing.
use Prim.Native.Nat.{ℕ, ◌<◌}
use Rattle.planner.specs.Inner.Memory.{Stored, Roomy, Fits}
use Rattle.planner.proofs.TrueMemory.{unnamed, stored_found, stored_none, stored_linked}
use Rattle.planner.proofs.intern.intern.Goals as goal

pub returns-in_err-id : goal.returns-in_err-id
returns-in_err-id c =
    let (placed, kept) = c.in_err-id.ensures.1 in
    unnamed (λ (id : ℕ). Stored c.args.p c.args.t c.args.work.now c.keep.new.work id × (Roomy c.args.p c.keep.new.work → Fits c.args.p c.args.t → 0 < id))
    c.from_residual.ensures (stored_none c.args.p c.requires c.head_of-at.ensures c.in_default.ensures.1 placed, kept)

pub returns-in-Some : goal.returns-in-Some
returns-in-Some c =
    let (some, found) = c.in-Some.ensures in
    (some, (stored_found c.args.p c.requires c.head_of-at.ensures found, λ _ _. some))

pub returns : goal.returns
returns c =
    let (some, (placed, kept)) = c.in_ok-id.ensures in
    (some, (stored_linked c.args.p c.requires c.keep.auto.work c.link.auto.work c.head_of-at.ensures c.in_default.ensures.1 some placed c.link.ensures, λ _ _. some))
