-- The rows below m are judged. Assumes nothing.
use mathlib.Core.Path.{◌≡◌}
use mathlib.Core.List.{List}
use lib.ListN.{length}
use Rattle.pack.specs.Syntax.{Trigger, Node}
use Rattle.pack.specs.Grammar.{Dimensions}
use Rattle.transition.specs.Duties.Cause.{Tabled}
use Rattle.transition.specs.Inner.Fire.{Triggered, FiredBelow}
use Rattle.transition.proofs.fire.fire_all.Given as goal

abbrev pub invariant-loop-m : goal.invariant-loop-m
invariant-loop-m l =
    (length l.effects ≡ length l.initial.effects) × ((d : Dimensions) (table : List Node) (ts : List Trigger) → Tabled d table l.work l.t → Triggered d l.pack l.places ts l.triggers → FiredBelow d l.pack ts l.t.characters table l.m l.effects l.any)
