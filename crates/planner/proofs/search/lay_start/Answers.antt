-- The nodes laid out as a table, merged, and put into the first slot; then the memory emptied. Assumes nothing.
use mathlib.Core.Path.{subst}
use Rattle.chart.specs.Laws.LoadedNodes.{read_merges}
use Rattle.chart.specs.Duties.Put.{Cleared}
use Rattle.planner.proofs.TrueMemory.{fixed}
use Rattle.planner.proofs.StartSlot.{lay_done}
use Rattle.planner.proofs.search.lay_start.Goals as goal

pub merge_table-rows-requires : goal.merge_table-rows-requires
merge_table-rows-requires c =
    let (T, x) = c.requires in
    read_merges x.read x.room c.copy_table.ensures

pub returns : goal.returns
returns c =
    λ T x. lay_done x c.copy_table.ensures c.merge_table-rows.ensures c.merge_table-rows.auto.work c.copy_part.ensures (subst (Cleared c.copy_part.new.work c.clear.new.work c.args.p.memory) (fixed x.laid) c.clear.ensures)
