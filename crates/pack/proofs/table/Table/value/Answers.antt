-- A row's byte is its node's value. Assumes nothing.
use Rattle.std.proofs.Common.{sym}
use Rattle.pack.specs.Laws.Rows.{value-at}
use Rattle.pack.proofs.table.Table.value.Goals as goal

pub returns : goal.returns
returns c = sym (value-at c.args.self c.args.buffer.now c.args.n c.args.f c.requires.1 c.requires.2)
