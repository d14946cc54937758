-- What is left says of the state what the whole says. Assumes nothing.
use native.Mathlib.Omega.{arith}
use Prim.Native.Nat.{ℕ, ◌-◌}
use lib.ListN.{get_or}
use mathlib.Core.Path.{◌≡◌, refl, sym, ◌∙◌}
use mathlib.Core.List.{List}
use Rattle.pack.specs.Duties.Table.{state_of}
use Rattle.pack.specs.Duties.Judge.{alternative_at, Over}
use Rattle.pack.specs.Condition.{all_pass}
use Rattle.pack.specs.Grammar.{Dimensions, test_at}
use Rattle.pack.specs.Syntax.{Test}
use Rattle.pack.specs.Reading.{done}
use Rattle.pack.specs.Laws.Judged.{Next, left_one, left_after, left_none, counted_starts, counted_left, all_next, all_fails, all_none}
use Rattle.pack.proofs.judge.all_pass.Goals as goal
use Rattle.pack.proofs.judge.all_pass.Goals.{In-loop}

-- the next test
next : (c : In-loop) →
    (d : Dimensions) → Over d c.args.t → (xs : List Test) (end : ℕ) → alternative_at d c.args.s.now c.args.at ≡ done xs end
    → Next (test_at d) c.args.s.now c.loop.n (get_or c.args.s.now c.args.at 0 - c.loop.counter) (all_pass (state_of c.args.t c.args.buffer.now c.args.node)) xs end
next c d over xs end e =
    left_one _ _ _ _ _ _ _ (c.loop.invariant d over xs end e) (omega arith)

pub overflow_add-n : goal.overflow_add-n
overflow_add-n c =
    omega (arith, (counted_starts 9 (test_at c.requires.dimensions) c.args.s.now c.args.at c.requires.value c.requires.end (omega arith) c.requires.reads _ refl).1)

pub bounds-s-at : goal.bounds-s-at
bounds-s-at c =
    (counted_starts 9 (test_at c.requires.dimensions) c.args.s.now c.args.at c.requires.value c.requires.end (omega arith) c.requires.reads _ refl).1

pub loop-init : goal.loop-init
loop-init c = λ d over xs end e. counted_left 9 (test_at d) _ _ _ xs end (omega arith) e

pub passes-requires : goal.passes-requires
passes-requires c =
    let x = next c c.requires.dimensions c.requires.over c.requires.value c.requires.end c.requires.reads in
    record { table = c.requires.table; there = c.requires.there; dimensions = c.requires.dimensions; over = c.requires.over; value = x.item; end = x.place; reads = x.here }

pub after_test-n-requires : goal.after_test-n-requires
after_test-n-requires c =
    let x = next (goal.at.after_test-n-requires c).In-loop c.requires.dimensions c.requires.over c.requires.value c.requires.end c.requires.reads in
    record { over = c.requires.dimensions; small = c.requires.over.small; value = x.item; end = x.place; reads = x.here }

pub loop-preserved : goal.loop-preserved
loop-preserved c =
    λ d over xs end e.
    let x = next (goal.at.loop-preserved c).In-loop d over xs end e in
    left_after _ _ _ _ _ _ _ _ x _ (sym (c.after_test-n.ensures d over.small x.item x.place x.here))
    (all_next _ x.item x.rest (sym (c.passes.ensures d over x.item x.place x.here) ∙ c.if-not-passes.false))

pub returns-then-not-passes : goal.returns-then-not-passes
returns-then-not-passes c =
    λ d over xs end e.
    let x = next (goal.at.returns-then-not-passes c).In-loop d over xs end e in
    sym (x.same ∙ all_fails _ x.item x.rest (sym (c.passes.ensures d over x.item x.place x.here) ∙ c.if-not-passes.true))

pub returns : goal.returns
returns c =
    λ d over xs end e. sym (left_none _ _ _ _ _ _ _ (c.loop.invariant d over xs end e) (omega arith) ∙ all_none _)
