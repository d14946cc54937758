-- Behind the pack's end there are none; elsewhere the effects are asked. Assumes nothing.
use mathlib.Core.Path.{◌∙◌}
use lib.ListN.{length}
use borrow.Author.Tests.{le-ltb}
use Rattle.transition.proofs.Effects.{effects_there, tell_nothing}
use Rattle.transition.proofs.cause.tells.Goals as goal

pub returns-else-at-pack : goal.returns-else-at-pack
returns-else-at-pack c =
    λ d small es x. le-ltb c.args.at (length c.args.pack.now) c.if-at-pack.false ∙ tell_nothing c.args.pack.now c.args.at c.args.whom c.if-at-pack.false d small es x

pub some_effect-requires : goal.some_effect-requires
some_effect-requires c = effects_there c.if-at-pack.true c.requires

pub returns-then-at-pack : goal.returns-then-at-pack
returns-then-at-pack c =
    λ d small es x. let there = x.some c.if-at-pack.true in c.some_effect.ensures d small es there.end there.reads
