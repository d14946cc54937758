-- The call sees as much of the work buffer as the report allows; what it says is told. Assumes nothing.
use Rattle.pirwodd.proofs.Returned.{compare_returned}
use Rattle.pirwodd.proofs.pirwodd_compare.Goals as goal

pub returns : goal.returns
returns c =
    compare_returned _ _ _ c.lent-room.ensures _ _ _ c.compare-said.auto.work c.compare-said.ensures c.hand_back.ensures.number
    c.hand_back.ensures.entries
