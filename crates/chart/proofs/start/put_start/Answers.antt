-- Loaded, merged, written out, cleared. Assumes nothing.
use Rattle.std.proofs.Common.{◌∙◌}
use Rattle.chart.specs.Laws.LoadedNodes.{read_merges}
use Rattle.chart.proofs.MergedStart.{start_writes, start_put}
use Rattle.chart.proofs.start.put_start.Goals as goal

pub merge_table-rows-requires : goal.merge_table-rows-requires
merge_table-rows-requires c = read_merges c.requires.read c.requires.has_work_room c.copy_table.ensures

pub write_chart-length-requires : goal.write_chart-length-requires
write_chart-length-requires c =
    let (room, sound) = start_writes c.requires c.copy_table.ensures c.merge_table-rows.ensures c.merge_table-rows.auto.work in
    rw c.at-t.ensures (record { room = room; sound = sound })

pub returns : goal.returns
returns c =
    λ x. start_put x c.copy_table.ensures c.merge_table-rows.ensures c.merge_table-rows.auto.work (rw c.at-t.ensures at c.write_chart-length.ensures) c.write_chart-length.auto.out c.clear.ensures (c.clear.auto.work ∙ c.merge_table-rows.auto.work ∙ c.copy_table.ensures.long)
