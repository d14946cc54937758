-- Everyone, or those whose condition holds. Assumes nothing.
use native.Mathlib.Omega.{arith}
use Prim.Native.Nat.{◌+◌}
use mathlib.Core.Path.{◌∙◌}
use Rattle.std.proofs.Common.{eq-eqb}
use Rattle.transition.proofs.Effects.{took_all, watched_judged, took_judged}
use Rattle.transition.proofs.cause.takes.Goals as goal

pub returns-then-observed-eq-PLACES : goal.returns-then-observed-eq-PLACES
returns-then-observed-eq-PLACES c =
    λ d T k s o. eq-eqb c.args.observed 327 c.if-observed-eq-PLACES.true ∙ took_all _ _ _ _ _ _ _ c.if-observed-eq-PLACES.true d T k s o

pub overflow_add-observed : goal.overflow_add-observed
overflow_add-observed c =
    omega (arith, c.requires.observes.inside c.if-observed-eq-PLACES.false, c.requires.character)

pub offset_bounds-places-observed : goal.offset_bounds-places-observed
offset_bounds-places-observed c =
    omega (arith, c.requires.observes.few, c.requires.character, c.requires.stands.over.characters, c.requires.stands.over.small.characters)

pub bounds-places-observed : goal.bounds-places-observed
bounds-places-observed c =
    omega (arith, c.requires.observes.inside c.if-observed-eq-PLACES.false, c.requires.character)

-- a place that was read fits a number
pub overflow_cast-places : goal.overflow_cast-places
overflow_cast-places c = omega (arith, c.type_inv.places (c.args.observed + c.args.c))

pub holds-requires : goal.holds-requires
holds-requires c = watched_judged _ _ _ _ _ _ _ c.requires c.if-observed-eq-PLACES.false

pub returns-else-observed-eq-PLACES : goal.returns-else-observed-eq-PLACES
returns-else-observed-eq-PLACES c = took_judged _ _ _ _ _ _ _ c.requires c.if-observed-eq-PLACES.false c.holds.ensures
