-- The call sees as much of the work buffer as the report allows; what it says is told. Assumes nothing.
use Rattle.std.proofs.Common.{refl}
use Rattle.pirwodd.proofs.Returned.{search_returned}
use Rattle.pirwodd.proofs.pirwodd_search.Goals as goal

pub returns : goal.returns
returns c =
    search_returned _ _ _ c.lent-room.ensures _ _ _ c.search-said.auto.work refl refl refl c.search-said.ensures c.hand_back.ensures.number
    c.hand_back.ensures.entries
