-- The call sees as much of the work buffer as the report allows; what it says is told. Assumes nothing.
use Rattle.pirwodd.proofs.Returned.{start_returned}
use Rattle.pirwodd.proofs.pirwodd_start.Goals as goal

pub returns : goal.returns
returns c =
    start_returned _ _ _ c.lent-room.ensures _ _ _ c.start.auto.work c.start.ensures c.hand_back.ensures.number
    c.hand_back.ensures.entries
