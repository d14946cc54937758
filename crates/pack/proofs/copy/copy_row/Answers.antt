-- The values come first, the beliefs behind them. Assumes nothing.
use native.Mathlib.Omega.{arith}
use mathlib.Core.Path.{◌∙◌}
use Rattle.pack.specs.Laws.CopiedRows.{node_bytes_lem, row_values, row_beliefs, row_ends, row_copied}
use Rattle.pack.proofs.copy.copy_row.Goals as goal

pub copy_bytes-requires : goal.copy_bytes-requires
copy_bytes-requires c =
    row_values _ _ _ _ _ _ c.args.buffer.now c.args.to (node_bytes_lem c.requires.dimensions c.args.fluents c.args.characters c.requires.sized c.requires.nodes c.requires.few c.args.s.now c.args.from c.requires.value c.requires.end c.requires.reads) c.requires.room

pub overflow_add-from : goal.overflow_add-from
overflow_add-from c =
    omega (arith, (row_ends c.args.s.now c.args.from c.args.fluents c.args.characters _ _ 18446744073709551615 (node_bytes_lem c.requires.dimensions c.args.fluents c.args.characters c.requires.sized c.requires.nodes c.requires.few c.args.s.now c.args.from c.requires.value c.requires.end c.requires.reads) (omega arith) (omega arith)).0)

pub overflow_add-to : goal.overflow_add-to
overflow_add-to c = omega (arith, c.requires.room)

pub copy_bytes-requires-2 : goal.copy_bytes-requires-2
copy_bytes-requires-2 c =
    row_beliefs _ _ _ _ _ _ c.copy_bytes.new.buffer c.args.to (node_bytes_lem c.requires.dimensions c.args.fluents c.args.characters c.requires.sized c.requires.nodes c.requires.few c.args.s.now c.args.from c.requires.value c.requires.end c.requires.reads) (omega (arith, c.requires.room, c.copy_bytes.ensures.only.long))

pub shape_of-buffer : goal.shape_of-buffer
shape_of-buffer c = c.copy_bytes-2.ensures.only.long ∙ c.copy_bytes.ensures.only.long

pub returns : goal.returns
returns c =
    row_copied c.args.s.now c.args.from c.args.buffer.now c.copy_bytes.new.buffer c.copy_bytes-2.new.buffer c.args.to c.args.fluents c.args.characters c.copy_bytes.ensures c.copy_bytes-2.ensures
