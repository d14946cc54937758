-- The table of an id is copied into a slot, which has that id from then on. Assumes nothing.
use Prim.Native.Nat.{ℕ, ◌+◌, ◌*◌, ◌-◌}
use mathlib.Core.Path.{◌≡◌, sym, ap, subst}
use native.Mathlib.Omega.{arith}
use lib.ListN.{get_or}
use Rattle.chart.specs.Duties.Put.{PartCopied}
use Rattle.planner.specs.Inner.Memory.{id_byte, id_at, kept_at, Again}
use lib.ListN.{set}
use mathlib.Core.Bool.{true}
use Rattle.planner.proofs.TrueMemory.{again_kept, copied_again}
use Rattle.planner.proofs.steps.again.Goals as goal

pub returns : goal.returns
returns c =
    let k = (again_kept c.in-Some.is c.requires.1).1 in
    let here : c.args.p.tables - c.args.p.block + c.args.p.block * c.in-Some.next ≡ kept_at c.args.p c.in-Some.next = ap (λ (x : ℕ). x - c.args.p.block + c.args.p.block * c.in-Some.next) c.requires.0.laid.tabled in
    let whole = subst (λ (n : ℕ). PartCopied c.args.work.now c.copy_part.new.work (c.args.p.tables - c.args.p.block + c.args.p.block * c.in-Some.next) c.args.slot (1 + n * (c.args.p.fluents + c.args.p.characters))) c.from-nodes.ensures c.copy_part.ensures in
    subst (λ (n : ℕ). Again c.args.p n c.args.slot c.args.work.now (set c.copy_part.new.work (id_at c.args.p (c.args.slot + 1)) c.in-Some.next) true) (sym (ap id_byte c.in-Some.is))
    (copied_again c.args.p c.requires.0 (omega (arith, c.slice_known-1.given (c.args.p.memory + 48))) k (subst (λ (q : ℕ). PartCopied c.args.work.now c.copy_part.new.work q c.args.slot (1 + get_or c.args.work.now q 0 * (c.args.p.fluents + c.args.p.characters))) here whole) c.copy_part.auto.work)
