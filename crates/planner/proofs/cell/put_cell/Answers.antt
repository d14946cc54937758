-- The mark and the key, the rank, and the table, one behind the other. Assumes nothing.
use Rattle.planner.proofs.CellMemory.{cell_put}
use Rattle.planner.proofs.cell.put_cell.Goals as goal

pub returns : goal.returns
returns c =
    cell_put c.args.p c.args.slot c.args.rank c.requires.0 c.requires.2 c.requires.3 c.put_key.ensures c.copy_part.ensures c.extent-n.ensures
