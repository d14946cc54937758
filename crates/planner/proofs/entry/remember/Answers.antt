-- An entry put down by the table's id. Assumes nothing.
use native.Mathlib.Omega.{arith}
use Rattle.planner.proofs.TrueMemory.{remembered, notes, remembered_none}
use Rattle.planner.proofs.entry.remember.Goals as goal

pub returns-then-storable : goal.returns-then-storable
returns-then-storable c =
    let some = c.in-Some.ensures.0 in
    let (at, place) = c.entry_at-at.ensures in
    (remembered c.args.p c.requires c.id_of.auto.work c.put_key.auto.work c.in-Some.ensures.1 some at place c.put_key.ensures, notes c.args.p c.requires c.id_of.auto.work c.put_key.auto.work c.in-Some.ensures.1 some at place c.put_key.ensures)

pub put_key-requires : goal.put_key-requires
put_key-requires c =
    let s = (c.storable.ensures c.in-Some.id c.in-Some.ensures.0).0 c.if-storable.true in
    (omega (arith, c.entry_at-at.ensures.1.is, c.entry_at-at.ensures.1.few, c.id_of.auto.work, c.requires.room, c.requires.laid.room), s.who, s.nesting, s.number, s.base)

pub returns-in_default : goal.returns-in_default
returns-in_default c =
    remembered_none c.args.p c.requires c.in_default.ensures.1 (λ s. omega (arith, s.some))

pub returns-else-storable : goal.returns-else-storable
returns-else-storable c =
    remembered_none c.args.p c.requires c.in-Some.ensures.1 ((c.storable.ensures c.in-Some.id c.in-Some.ensures.0).1 c.if-storable.false)
