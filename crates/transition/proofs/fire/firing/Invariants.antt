-- None of the triggers below i holds. Assumes nothing.
use Rattle.transition.proofs.FiringTriggers.{Idle}
use Rattle.transition.proofs.fire.firing.Given as goal

abbrev pub invariant-loop-i : goal.invariant-loop-i
invariant-loop-i l = Idle l.pack l.places l.triggers l.work l.t l.m l.i
