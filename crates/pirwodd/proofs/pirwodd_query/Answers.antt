-- The call sees as much of the work buffer as the report allows; what it says is told. Assumes nothing.
use Rattle.std.proofs.Common.{refl}
use Rattle.pirwodd.proofs.Returned.{query_returned}
use Rattle.pirwodd.proofs.pirwodd_query.Goals as goal

pub returns : goal.returns
returns c =
    query_returned _ _ _ c.lent-room.ensures _ _ _ c.query-said.auto.work refl c.query-said.ensures c.hand_back.ensures.number
    c.hand_back.ensures.entries
