-- The second byte of an effect. Assumes nothing.
use mathlib.Core.Path.{sym, ◌∙◌}
use native.Mathlib.Omega.{arith}
use Rattle.pack.specs.Laws.OneByte.{effect_bytes_lem, effect_read}
use Rattle.pack.proofs.effects.written_fluent.Goals as goal

pub overflow_add-at : goal.overflow_add-at
overflow_add-at c = omega (arith, effect_read c.requires)

pub bounds-s-at : goal.bounds-s-at
bounds-s-at c = omega (arith, effect_read c.requires)

pub returns : goal.returns
returns c = λ d small x n e. c.from.ensures ∙ sym (effect_bytes_lem d small _ _ x n e).fluent
