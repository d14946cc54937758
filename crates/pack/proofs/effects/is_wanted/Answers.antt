-- As its first byte says, by what is asked. Assumes nothing.
use Rattle.pack.specs.Laws.Wanted.{wanted_for, wanted_belief}
use Rattle.pack.proofs.effects.is_wanted.Goals as goal

pub returns-in-For : goal.returns-in-For
returns-in-For c = λ d small x n e. wanted_for x _ c.in-For.is (c.whom_of-whom.ensures d small x n e)

pub returns-in-Belief : goal.returns-in-Belief
returns-in-Belief c =
    λ d small x n e. wanted_belief x _ c.in-Belief.is (c.whom_of-whom.ensures d small x n e)
