-- None of the effects so far is such a one. Assumes nothing.
use Prim.Native.Nat.{ℕ, ◌-◌}
use lib.ListN.{get_or}
use mathlib.Core.Path.{◌≡◌, refl, sym, ◌∙◌}
use mathlib.Core.List.{List}
use native.Mathlib.Omega.{arith}
use Rattle.pack.specs.Syntax.{Effect}
use Rattle.pack.specs.Reading.{done}
use Rattle.pack.specs.Grammar.{Dimensions, effect_at, effects_at}
use Rattle.pack.specs.Duties.Judge.{Small}
use Rattle.pack.specs.Duties.Effects.{asks, some_of}
use Rattle.pack.specs.Laws.Judged.{Next, left_one, left_after, left_none, counted_starts, counted_left}
use Rattle.pack.specs.Laws.Wanted.{some_here, some_on, some_nil}
use Rattle.pack.proofs.effects.some_effect.Goals as goal
use Rattle.pack.proofs.effects.some_effect.Goals.{In-loop}

-- the next effect
next : (c : In-loop) →
    (d : Dimensions) → Small d → (xs : List Effect) (end : ℕ) → effects_at d c.args.s.now c.args.at ≡ done xs end
    → Next (effect_at d) c.args.s.now c.loop.n (get_or c.args.s.now c.args.at 0 - c.loop.counter) (some_of (asks c.args.w)) xs end
next c d small xs end e =
    left_one _ _ _ _ _ _ _ (c.loop.invariant d small xs end e) (omega arith)

pub overflow_add-n : goal.overflow_add-n
unfolding effects_at
overflow_add-n c =
    omega (arith, (counted_starts 17 (effect_at c.requires.over) c.args.s.now c.args.at c.requires.value c.requires.end (omega arith) c.requires.reads _ refl).1)

pub bounds-s-at : goal.bounds-s-at
unfolding effects_at
bounds-s-at c =
    (counted_starts 17 (effect_at c.requires.over) c.args.s.now c.args.at c.requires.value c.requires.end (omega arith) c.requires.reads _ refl).1

pub loop-init : goal.loop-init
unfolding effects_at
loop-init c = λ d small xs end e. counted_left 17 (effect_at d) _ _ _ xs end (omega arith) e

pub is_wanted-requires : goal.is_wanted-requires
unfolding effects_at
is_wanted-requires c =
    let x = next c c.requires.over c.requires.small c.requires.value c.requires.end c.requires.reads in
    record { over = c.requires.over; small = c.requires.small; value = x.item; end = x.place; reads = x.here }

pub returns-then-is_wanted : goal.returns-then-is_wanted
unfolding effects_at
returns-then-is_wanted c =
    λ d small xs end e.
    let x = next (goal.at.returns-then-is_wanted c).In-loop d small xs end e in
    sym (x.same ∙ some_here _ x.item x.rest (sym (c.is_wanted.ensures d small x.item x.place x.here) ∙ c.if-is_wanted.true))

pub after_effect-n-requires : goal.after_effect-n-requires
unfolding effects_at
after_effect-n-requires c =
    let x = next (goal.at.after_effect-n-requires c).In-loop c.requires.over c.requires.small c.requires.value c.requires.end c.requires.reads in
    record { over = c.requires.over; small = c.requires.small; value = x.item; end = x.place; reads = x.here }

pub loop-preserved : goal.loop-preserved
unfolding effects_at
loop-preserved c =
    λ d small xs end e.
    let x = next (goal.at.loop-preserved c).In-loop d small xs end e in
    left_after _ _ _ _ _ _ _ _ x _ (sym (c.after_effect-n.ensures d small x.item x.place x.here))
    (some_on _ x.item x.rest (sym (c.is_wanted.ensures d small x.item x.place x.here) ∙ c.if-is_wanted.false))

pub returns : goal.returns
unfolding effects_at
returns c =
    λ d small xs end e. sym (left_none _ _ _ _ _ _ _ (c.loop.invariant d small xs end e) (omega arith) ∙ some_nil _)
