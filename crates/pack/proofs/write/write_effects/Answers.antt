-- What is left of the effects still has to be written to make what the whole writes. Assumes nothing.
use native.Mathlib.Omega.{arith}
use mathlib.Core.Path.{refl, sym}
use Rattle.pack.specs.Grammar.{effect_at, effects_at}
use Rattle.pack.specs.Laws.Judged.{counted_starts}
use Rattle.pack.specs.Laws.WrittenValues.{only_none, only_then, owed_one, owed_after, owed_none, write-first, write_nil}
use Rattle.pack.proofs.write.write_effects.Goals as goal

pub overflow_add-n : goal.overflow_add-n
unfolding effects_at
overflow_add-n c =
    omega (arith, (counted_starts 17 (effect_at c.requires.dimensions) c.args.s.now c.args.at c.requires.value c.requires.end (omega arith) c.requires.reads _ refl).1)

pub bounds-s-at : goal.bounds-s-at
unfolding effects_at
bounds-s-at c =
    (counted_starts 17 (effect_at c.requires.dimensions) c.args.s.now c.args.at c.requires.value c.requires.end (omega arith) c.requires.reads _ refl).1

pub loop-init : goal.loop-init
unfolding effects_at
loop-init c =
    (λ d small wide xs end e. record { rest = xs; reads = (counted_starts 17 (effect_at d) c.args.s.now c.args.at xs end (omega arith) e _ (omega arith)).0; same = refl }, only_none _ _ _)

pub write_effect-requires : goal.write_effect-requires
unfolding effects_at
write_effect-requires c =
    let x = owed_one _ _ _ _ _ _ _ _ (c.loop.invariant.0 c.requires.dimensions c.requires.small c.requires.wide c.requires.value c.requires.end c.requires.reads) (omega arith) in
    record { dimensions = c.requires.dimensions; small = c.requires.small; wide = c.requires.wide; value = x.item; end = x.place; reads = x.here; inside = omega (arith, c.requires.inside, c.loop.invariant.1.long) }

pub after_effect-n-requires : goal.after_effect-n-requires
unfolding effects_at
after_effect-n-requires c =
    let x = owed_one _ _ _ _ _ _ _ _ (c.loop.invariant.0 c.requires.dimensions c.requires.small c.requires.wide c.requires.value c.requires.end c.requires.reads) (omega arith) in
    record { over = c.requires.dimensions; small = c.requires.small; value = x.item; end = x.place; reads = x.here }

pub loop-preserved : goal.loop-preserved
unfolding effects_at
loop-preserved c = (
  λ d small wide xs end e.
      let x = owed_one _ _ _ _ _ _ _ _ (c.loop.invariant.0 d small wide xs end e) (omega arith) in
      owed_after _ _ _ _ _ _ _ _ _ x _ _ (sym (c.after_effect-n.ensures d small x.item x.place x.here)) (write-first _ x.item x.rest _ _ (c.write_effect.ensures.values d small wide x.item x.place x.here)),
  only_then _ _ _ _ _ c.loop.invariant.1 c.write_effect.ensures.only,
)

pub shape_of-buffer : goal.shape_of-buffer
unfolding effects_at
shape_of-buffer c = c.loop.invariant.1.long

pub returns : goal.returns
unfolding effects_at
returns c =
    record { values = λ d small wide xs end e. sym (owed_none _ _ _ _ _ _ _ _ (c.loop.invariant.0 d small wide xs end e) (omega arith) (write_nil _ _)); only = c.loop.invariant.1 }
