-- What a cell says, or an entry with the table's id and this key. Assumes nothing.
use native.Mathlib.Omega.{arith}
use Rattle.planner.proofs.CellMemory.{recalled_cell}
use Rattle.planner.proofs.TrueMemory.{fact_here, recalled_none, recalled}
use Rattle.planner.proofs.entry.recall.Goals as goal
use Rattle.planner.proofs.entry.recall.Goals.{then-from-id-via-then-from-id, then-from-id-via-else-from-id+then-not-keyed}

pub returns-then-from-id : goal.returns-then-from-id
returns-then-from-id c =
    let r = recalled_none c.args.p c.requires c.in-Some.ensures.1 (λ m f.
    let here = fact_here c.args.p c.requires c.in-Some.ensures.1 c.entry_at-at.ensures.0 f in
    elim c.then-from-id.branch [
      | then-from-id-via-then-from-id w ↦ omega (arith, here.read, c.from.ensures, w.if-from-id.true)
      | then-from-id-via-else-from-id+then-not-keyed w ↦ w.keyed.ensures.1 w.if-not-keyed.true here.key
    ]) in
    (r.0, λ _. r.1, λ sp. absurd (c.in_cells.ensures.1 c.if-in_cells.false sp))

pub returns : goal.returns
returns c =
    let r = recalled c.args.p c.requires c.id_of.auto.work c.in-Some.ensures.1 c.in-Some.ensures.0 c.entry_at-at.ensures.0 c.entry_at-at.ensures.1 (omega (arith, c.from.ensures, c.if-from-id.false)) (c.keyed.ensures.0 (c.if-not-keyed.false)) in
    (r.0, λ _. r.1, λ sp. absurd (c.in_cells.ensures.1 c.if-in_cells.false sp))

pub returns-then-in_cells : goal.returns-then-in_cells
returns-then-in_cells c =
    let sp = c.in_cells.ensures.0 c.if-in_cells.true in
    let found = c.recall_cell.ensures in
    (recalled_cell c.args.p c.requires.laid sp found, λ room. absurd (omega (arith, room, sp.once)), λ _. found)

pub returns-in_default : goal.returns-in_default
returns-in_default c =
    let is = c.in_default.ensures.1 in
    let r = recalled_none c.args.p c.requires is (λ m f. omega (arith, f.some, is.interning.stands)) in
    (r.0, λ _. r.1, λ sp. absurd (c.in_cells.ensures.1 c.if-in_cells.false sp))
