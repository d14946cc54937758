-- The id that is looked up is the slot's. Assumes nothing.
use Prim.Native.Nat.{ℕ, ◌+◌, ◌<◌}
use mathlib.Core.Path.{sym, subst}
use Rattle.pack.specs.declared.table.Table.{Table}
use Rattle.planner.specs.Inner.Memory.{id_at, id_byte, Roomy, Fits, Stored, Interning}
use Rattle.planner.specs.Inner.Lists.{slot_table}
use lib.ListN.{set}
use Rattle.planner.proofs.TrueMemory.{naming_new}
use Rattle.planner.proofs.intern.intern_slot.Goals as goal

pub returns : goal.returns
returns c =
    let (given, (stored, kept)) = c.intern-id.ensures in
    let id = id_byte c.intern-id.result in
    let named = naming_new c.args.p c.intern-id.auto.work c.requires (subst (λ (t : Table). Stored c.args.p t c.args.work.now c.intern-id.new.work id) c.table_in-t.ensures stored) (subst (λ (t : Table). Roomy c.args.p c.intern-id.new.work → Fits c.args.p t → 0 < id) c.table_in-t.ensures kept) in
    (given, subst (λ (b : ℕ). Interning c.args.p (slot_table c.args.p c.args.work.now c.args.slot) c.args.work.now (set c.intern-id.new.work (id_at c.args.p (c.args.slot + 1)) b) id) (sym c.id_byte.ensures) named)
