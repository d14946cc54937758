-- An effect is three bytes. Assumes nothing.
use mathlib.Core.Path.{sym}
use native.Mathlib.Omega.{arith}
use Rattle.pack.specs.Laws.OneByte.{effect_bytes_lem, effect_read}
use Rattle.pack.proofs.effects.after_effect.Goals as goal

pub overflow_add-result : goal.overflow_add-result
overflow_add-result c = omega (arith, effect_read c.requires)

pub returns : goal.returns
returns c = λ d small x n e. sym (effect_bytes_lem d small _ _ x n e).ends
