-- Behind the pack's end there are no effects; elsewhere none of them is meant for a belief. Assumes nothing.
use Prim.Native.Nat.{suc}
use mathlib.Core.Path.{sym, ◌∙◌}
use native.Mathlib.Omega.{arith}
use Rattle.std.proofs.lemmas.Bool.{not-true}
use Rattle.transition.proofs.Effects.{effects_there, tell_nothing, none_silent}
use Rattle.transition.proofs.round.silent.Goals as goal

pub returns-then-pack-at : goal.returns-then-pack-at
returns-then-pack-at c =
    λ d small es x e k. sym (tell_nothing c.args.pack.now c.args.at (suc k) c.if-pack-at.true d small es x)

pub some_effect-requires : goal.some_effect-requires
some_effect-requires c = effects_there (omega (arith, c.if-pack-at.false)) c.requires

pub returns-else-pack-at : goal.returns-else-pack-at
returns-else-pack-at c =
    λ d small es x e.
    let there = x.some (omega (arith, c.if-pack-at.false)) in
    none_silent es (sym (c.some_effect.ensures d small es there.end there.reads) ∙ not-true _ e)
