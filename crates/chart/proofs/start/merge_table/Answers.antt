-- The pass, the partition, and the merged table, which is the rows themselves where each is a class of its own. Assumes nothing.
use Rattle.chart.proofs.MergedStart.{merge_room, merge_classed, merge_copied, merge_merged}
use Rattle.chart.proofs.start.merge_table.Goals as goal

pub returns-then-reached-classes : goal.returns-then-reached-classes
returns-then-reached-classes c =
    merge_merged c.requires c.copy_reachable-reached.ensures c.copy_reachable-reached.auto.work c.partition-classes.ensures c.partition-classes.auto.work (merge_copied c.requires c.copy_reachable-reached.ensures c.copy_reachable-reached.auto.work c.partition-classes.ensures c.partition-classes.auto.work c.if-reached-classes.true c.copy_part.ensures)

pub write_merged-requires : goal.write_merged-requires
write_merged-requires c =
    record { room = merge_room c.requires c.copy_reachable-reached.ensures c.copy_reachable-reached.auto.work c.partition-classes.ensures c.partition-classes.auto.work; classed = (merge_classed c.requires c.copy_reachable-reached.ensures c.copy_reachable-reached.auto.work c.partition-classes.ensures c.partition-classes.auto.work).0 }

pub returns : goal.returns
returns c =
    merge_merged c.requires c.copy_reachable-reached.ensures c.copy_reachable-reached.auto.work c.partition-classes.ensures c.partition-classes.auto.work c.write_merged.ensures
