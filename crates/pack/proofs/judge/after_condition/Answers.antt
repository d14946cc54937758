-- What is left ends where the whole ends. Assumes nothing.
use native.Mathlib.Omega.{arith}
use mathlib.Core.Path.{refl, sym}
use Rattle.pack.specs.Duties.Judge.{alternative_at}
use Rattle.pack.specs.Grammar.{condition_at}
use Rattle.pack.specs.Syntax.{Condition}
use Rattle.pack.specs.Laws.Judged.{left_one, left_after, left_end, counted_starts, counted_left}
use Rattle.pack.proofs.judge.after_condition.Goals as goal

pub overflow_add-n : goal.overflow_add-n
unfolding condition_at
overflow_add-n c =
    omega (arith, (counted_starts 9 (alternative_at c.requires.over) c.args.s.now c.args.at c.requires.value c.requires.end (omega arith) c.requires.reads _ refl).1)

pub bounds-s-at : goal.bounds-s-at
unfolding condition_at
bounds-s-at c =
    (counted_starts 9 (alternative_at c.requires.over) c.args.s.now c.args.at c.requires.value c.requires.end (omega arith) c.requires.reads _ refl).1

pub loop-init : goal.loop-init
unfolding condition_at
loop-init c = λ d small xs end e. counted_left 9 (alternative_at d) _ _ _ xs end (omega arith) e

pub after_alternative-n-requires : goal.after_alternative-n-requires
unfolding condition_at
after_alternative-n-requires c =
    let x = (left_one _ _ _ _ _ _ _ (c.loop.invariant c.requires.over c.requires.small c.requires.value c.requires.end c.requires.reads) (omega arith)) in
    record { over = c.requires.over; small = c.requires.small; value = x.item; end = x.place; reads = x.here }

pub loop-preserved : goal.loop-preserved
unfolding condition_at
loop-preserved c =
    λ d small xs end e. let x = left_one _ _ _ _ _ _ _ (c.loop.invariant d small xs end e) (omega arith) in
    left_after _ _ _ _ _ _ _ _ x _ (sym (c.after_alternative-n.ensures d small x.item x.place x.here)) refl

pub returns : goal.returns
unfolding condition_at
returns c =
    λ d small xs end e. left_end _ _ (λ (l : Condition). tt {0}) _ _ _ _ (c.loop.invariant d small xs end e) (omega arith)
