-- What is left says of the state what the whole says. Assumes nothing.
use native.Mathlib.Omega.{arith}
use mathlib.Core.Bool.{true}
use mathlib.Core.Path.{◌≡◌, refl, sym, ◌∙◌}
use Rattle.pack.specs.Duties.Table.{state_of}
use Rattle.pack.specs.Duties.Judge.{alternative_at}
use Rattle.pack.specs.Grammar.{condition_at}
use Rattle.pack.specs.Laws.Judged.{left_one, left_after, left_last, left_none, counted_starts, counted_left, some_next, some_holds, some_none}
use Rattle.pack.proofs.judge.holds.Goals as goal

pub overflow_add-n : goal.overflow_add-n
unfolding condition_at
overflow_add-n c =
    omega (arith, (counted_starts 9 (alternative_at c.requires.dimensions) c.args.s.now c.args.at c.requires.value c.requires.end (omega arith) c.requires.reads _ refl).1)

pub bounds-s-at : goal.bounds-s-at
unfolding condition_at
bounds-s-at c =
    (counted_starts 9 (alternative_at c.requires.dimensions) c.args.s.now c.args.at c.requires.value c.requires.end (omega arith) c.requires.reads _ refl).1

pub loop-i-init : goal.loop-i-init
unfolding condition_at
loop-i-init c = λ d over xs end e. counted_left 9 (alternative_at d) _ _ _ xs end (omega arith) e

pub all_pass-requires : goal.all_pass-requires
unfolding condition_at
all_pass-requires c =
    let x = (left_one _ _ _ _ _ _ _ (c.loop-i.invariant c.requires.dimensions c.requires.over c.requires.value c.requires.end c.requires.reads) (omega arith)) in
    record { table = c.requires.table; there = c.requires.there; dimensions = c.requires.dimensions; over = c.requires.over; value = x.item; end = x.place; reads = x.here }

pub returns-then-all_pass : goal.returns-then-all_pass
unfolding condition_at
returns-then-all_pass c =
    let met : c.all_pass.result ≡ true = c.if-all_pass.true in
    λ d over xs end e. let x = left_one _ _ _ _ _ _ _ (c.loop-i.invariant d over xs end e) (omega arith) in
    sym (x.same ∙ some_holds (state_of c.args.t c.args.buffer.now c.args.node) x.item x.rest (sym (c.all_pass.ensures d over x.item x.place x.here) ∙ met))

pub returns-then-i-count : goal.returns-then-i-count
unfolding condition_at
returns-then-i-count c =
    let z = state_of c.args.t c.args.buffer.now c.args.node in
    λ d over xs end e. let x = left_one _ _ _ _ _ _ _ (c.loop-i.invariant d over xs end e) (omega arith) in
    sym (left_last _ _ _ _ _ _ _ x (omega (arith, c.if-i-count.true)) (some_next z x.item x.rest (sym (c.all_pass.ensures d over x.item x.place x.here) ∙ c.if-all_pass.false)) ∙ some_none z)

pub after_alternative-n-requires : goal.after_alternative-n-requires
unfolding condition_at
after_alternative-n-requires c =
    let x = (left_one _ _ _ _ _ _ _ (c.loop-i.invariant c.requires.dimensions c.requires.over c.requires.value c.requires.end c.requires.reads) (omega arith)) in
    record { over = c.requires.dimensions; small = c.requires.over.small; value = x.item; end = x.place; reads = x.here }

pub loop-i-preserved : goal.loop-i-preserved
unfolding condition_at
loop-i-preserved c =
    λ d over xs end e. let x = left_one _ _ _ _ _ _ _ (c.loop-i.invariant d over xs end e) (omega arith) in
    left_after _ _ _ _ _ _ _ _ x _ (sym (c.after_alternative-n.ensures d over.small x.item x.place x.here)) (some_next (state_of c.args.t c.args.buffer.now c.args.node) x.item x.rest (sym (c.all_pass.ensures d over x.item x.place x.here) ∙ c.if-all_pass.false))

pub returns : goal.returns
unfolding condition_at
returns c =
    λ d over xs end e. sym (left_none _ _ _ _ _ _ _ (c.loop-i.invariant d over xs end e) (omega arith) ∙ some_none (state_of c.args.t c.args.buffer.now c.args.node))
