-- Its condition could not hold, or what it writes is in range. Assumes nothing.
use Rattle.planner.proofs.Reckoning.{action_condition, action_effects}
use Rattle.planner.proofs.reach.widen_action.Goals as goal

pub could_hold-requires : goal.could_hold-requires
could_hold-requires c = (action_condition _ _ _ c.requires.0, c.requires.1)

pub widen-requires : goal.widen-requires
widen-requires c = (action_effects _ _ _ c.requires.0, c.requires.2)
