-- A row's byte is its node's belief, and each belief is a node. Assumes nothing.
use Rattle.std.proofs.Common.{sym, ◌∙◌, arith}
use Rattle.pack.specs.Laws.Rows.{belief-at, belief_in_table}
use Rattle.pack.proofs.table.Table.belief.Goals as goal

pub returns : goal.returns
returns c =
    let T = c.args.self in
    let bytes = c.args.buffer.now in
    let near = belief_in_table T bytes c.requires.0 c.args.n c.args.c c.requires.1 c.requires.2 in
    (c.from.ensures ∙ sym (belief-at T bytes c.args.n c.args.c c.requires.1 c.requires.2), omega (arith, c.from.ensures))
