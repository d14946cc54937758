-- What the effects so far write is in range. Assumes nothing.
use Prim.Native.Nat.{◌-◌}
use mathlib.Core.Path.{refl, ◌∙◌}
use native.Mathlib.Omega.{arith}
use Rattle.planner.specs.Inner.Range.{wider_same, wider_then}
use Rattle.planner.proofs.Pruning.{widening_start, widening_one, widening_next, widening_none, effects_inside}
use Rattle.planner.proofs.range.widen.Goals as goal

pub loop-i-preserved : goal.loop-i-preserved
loop-i-preserved c =
    let (long, tall, wider, owed) = c.loop-i.invariant in (
      c.widen_one.auto.lows ∙ long,
      c.widen_one.auto.highs ∙ tall,
      wider_then wider c.widen_one.ensures.wider,
      λ d small xs end e. widening_next (owed d small xs end e) (omega (arith, c.loop-i-test.true)) small c.widen_one.ensures c.after_effect-n.ensures (omega (arith, c.loop-i-test.true)),
    )

pub overflow_add-n : goal.overflow_add-n
overflow_add-n c = omega (arith, effects_inside c.requires.0)

pub bounds-pack-at : goal.bounds-pack-at
bounds-pack-at c = effects_inside c.requires.0

pub loop-i-init : goal.loop-i-init
loop-i-init c =
    (refl, refl, wider_same, λ d small xs end e. widening_start d _ _ e (c.from-count.result - 0) (omega (arith, c.from-count.ensures)))

pub widen_one-requires : goal.widen_one-requires
widen_one-requires c =
    let x = widening_one (c.loop-i.invariant.3 c.requires.0.over c.requires.0.small c.requires.0.value c.requires.0.end c.requires.0.reads) (omega (arith, c.loop-i-test.true)) in
    (record { over = c.requires.0.over; small = c.requires.0.small; value = x.item; end = x.place; reads = x.here }, record { lowest = omega (arith, c.loop-i.invariant.0, c.requires.1.lowest); highest = omega (arith, c.loop-i.invariant.1, c.requires.1.highest) })

pub after_effect-n-requires : goal.after_effect-n-requires
after_effect-n-requires c =
    let x = widening_one (c.loop-i.invariant.3 c.requires.0.over c.requires.0.small c.requires.0.value c.requires.0.end c.requires.0.reads) (omega (arith, c.loop-i-test.true)) in
    record { over = c.requires.0.over; small = c.requires.0.small; value = x.item; end = x.place; reads = x.here }

pub returns : goal.returns
returns c =
    record { wider = c.loop-i.invariant.2; covers = λ d small xs end e. widening_none (c.loop-i.invariant.3 d small xs end e) (omega (arith, c.loop-i-test.false)) }
