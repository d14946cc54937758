-- The effects in the rows below m are written. Assumes nothing.
use mathlib.Core.Path.{◌≡◌}
use lib.ListN.{length}
use Rattle.transition.specs.Inner.Change.{Scene}
use Rattle.transition.specs.Inner.Round.{Caused, Rewritten}
use Rattle.transition.proofs.round.rewrite.Given as goal

abbrev pub invariant-loop-m : goal.invariant-loop-m
invariant-loop-m l =
    (length l.work ≡ length l.initial.work) × ((s : Scene) → Caused s l.pack l.effects l.initial.work l.t → Rewritten s l.t l.initial.work l.work l.m)
