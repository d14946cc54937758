-- What is left ends where the whole ends. Assumes nothing.
use native.Mathlib.Omega.{arith}
use Prim.Native.Nat.{ℕ, ◌-◌}
use mathlib.Core.Path.{◌≡◌, refl, sym}
use mathlib.Core.List.{List}
use lib.ListN.{get_or}
use Rattle.pack.specs.Duties.Judge.{alternative_at, Small}
use Rattle.pack.specs.Grammar.{Dimensions, test_at}
use Rattle.pack.specs.Syntax.{Test}
use Rattle.pack.specs.Reading.{done}
use Rattle.pack.specs.Laws.Judged.{Next, left_one, left_after, left_end, counted_starts, counted_left}
use Rattle.pack.proofs.judge.after_alternative.Goals as goal
use Rattle.pack.proofs.judge.after_alternative.Goals.{In-loop}

-- the next test
next : (c : In-loop) →
    (d : Dimensions) → Small d → (xs : List Test) (end : ℕ) → alternative_at d c.args.s.now c.args.at ≡ done xs end
    → Next (test_at d) c.args.s.now c.loop.n (get_or c.args.s.now c.args.at 0 - c.loop.counter) (λ (l : List Test). tt {0}) xs end
next c d small xs end e =
    left_one _ _ _ _ _ _ _ (c.loop.invariant d small xs end e) (omega arith)

pub overflow_add-n : goal.overflow_add-n
overflow_add-n c =
    omega (arith, (counted_starts 9 (test_at c.requires.over) c.args.s.now c.args.at c.requires.value c.requires.end (omega arith) c.requires.reads _ refl).1)

pub bounds-s-at : goal.bounds-s-at
bounds-s-at c =
    (counted_starts 9 (test_at c.requires.over) c.args.s.now c.args.at c.requires.value c.requires.end (omega arith) c.requires.reads _ refl).1

pub loop-init : goal.loop-init
loop-init c = λ d small xs end e. counted_left 9 (test_at d) _ _ _ xs end (omega arith) e

pub after_test-n-requires : goal.after_test-n-requires
after_test-n-requires c =
    let x = next c c.requires.over c.requires.small c.requires.value c.requires.end c.requires.reads in
    record { over = c.requires.over; small = c.requires.small; value = x.item; end = x.place; reads = x.here }

pub loop-preserved : goal.loop-preserved
loop-preserved c =
    λ d small xs end e. let x = next (goal.at.loop-preserved c).In-loop d small xs end e in left_after _ _ _ _ _ _ _ _ x _ (sym (c.after_test-n.ensures d small x.item x.place x.here)) refl

pub returns : goal.returns
returns c =
    λ d small xs end e. left_end _ _ (λ (l : List Test). tt {0}) _ _ _ _ (c.loop.invariant d small xs end e) (omega arith)
