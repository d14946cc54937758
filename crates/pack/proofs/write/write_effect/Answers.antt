-- The value goes to its fluent exactly where the effect is meant for whom. Assumes nothing.
use native.Mathlib.Omega.{arith}
use mathlib.Core.Path.{refl, sym}
use lib.ListN.{length-set}
use Rattle.pack.specs.Laws.OneByte.{effect_bytes_lem}
use Rattle.pack.specs.Laws.WrittenValues.{effect_meant, effect_other}
use Rattle.pack.proofs.write.write_effect.Goals as goal

pub bounds-s-at : goal.bounds-s-at
bounds-s-at c =
    omega (arith, (effect_bytes_lem c.requires.dimensions c.requires.small c.args.s.now c.args.at c.requires.value c.requires.end c.requires.reads).inside)

pub overflow_add-at : goal.overflow_add-at
overflow_add-at c =
    omega (arith, (effect_bytes_lem c.requires.dimensions c.requires.small c.args.s.now c.args.at c.requires.value c.requires.end c.requires.reads).inside)

pub bounds-s-at-then-from-whom : goal.bounds-s-at-then-from-whom
bounds-s-at-then-from-whom c =
    omega (arith, (effect_bytes_lem c.requires.dimensions c.requires.small c.args.s.now c.args.at c.requires.value c.requires.end c.requires.reads).inside)

pub overflow_add-f : goal.overflow_add-f
overflow_add-f c =
    let b = (effect_bytes_lem c.requires.dimensions c.requires.small c.args.s.now c.args.at c.requires.value c.requires.end c.requires.reads) in
    omega arith

pub overflow_add-buffer : goal.overflow_add-buffer
overflow_add-buffer c =
    omega (arith, (effect_bytes_lem c.requires.dimensions c.requires.small c.args.s.now c.args.at c.requires.value c.requires.end c.requires.reads).inside)

pub bounds-s-at-then-from-whom-2 : goal.bounds-s-at-then-from-whom-2
bounds-s-at-then-from-whom-2 c =
    omega (arith, (effect_bytes_lem c.requires.dimensions c.requires.small c.args.s.now c.args.at c.requires.value c.requires.end c.requires.reads).inside)

pub bounds-buffer-f : goal.bounds-buffer-f
bounds-buffer-f c =
    let b = (effect_bytes_lem c.requires.dimensions c.requires.small c.args.s.now c.args.at c.requires.value c.requires.end c.requires.reads) in
    omega arith

pub shape_of-buffer : goal.shape_of-buffer
shape_of-buffer c = simp length-set

pub returns-then-from-whom : goal.returns-then-from-whom
returns-then-from-whom c =
    effect_meant c.args.s.now c.args.at c.args.whom c.args.buffer.now c.args.row c.args.fluents _ _ _ (sym c.from.ensures) c.if-from-whom.true (sym c.from-then-from-whom.ensures) refl (let b = (effect_bytes_lem c.requires.dimensions c.requires.small c.args.s.now c.args.at c.requires.value c.requires.end c.requires.reads) in
    omega arith) c.requires.inside

pub returns-else-from-whom : goal.returns-else-from-whom
returns-else-from-whom c =
    effect_other c.args.s.now c.args.at c.args.whom c.args.buffer.now c.args.row c.args.fluents _ (sym c.from.ensures) c.if-from-whom.false
