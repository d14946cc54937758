-- The match has the kinds in the order of their numbers. Assumes nothing.
use mathlib.Core.Path.{sym, ap, ◌∙◌}
use mathlib.Core.Bool.{Bool, not, ◌&&◌, ◌||◌}
use native.Mathlib.Omega.{arith}
use lib.Dec.{eqb, leb}
use borrow.Author.Tests.{lt-ltb, le-ltb, le-leb, lt-leb}
use Rattle.planner.specs.Inner.Range.{could_meet}
use Rattle.planner.proofs.range.some_relates.Goals as goal

pub returns-then-low-value : goal.returns-then-low-value
unfolding could_meet
returns-then-low-value c =
    λ known. rw c.in-0.is (sym (ap (λ (b : Bool). b && leb c.args.value c.args.high) (le-leb c.args.low c.args.value c.if-low-value.true)))

pub returns-else-low-value : goal.returns-else-low-value
unfolding could_meet
returns-else-low-value c =
    λ known.
    let past = lt-leb c.args.low c.args.value (omega (arith, c.if-low-value.false)) in
    rw c.in-0.is (past ∙ sym (ap (λ (b : Bool). b && leb c.args.value c.args.high) past))

pub returns-then-low-high : goal.returns-then-low-high
unfolding could_meet
returns-then-low-high c =
    λ known.
    let apart = lt-ltb c.args.low c.args.high c.if-low-high.true in
    rw c.in-1.is (apart ∙ sym (ap (λ (b : Bool). b || not (eqb c.args.low c.args.value)) apart))

pub returns-else-low-high : goal.returns-else-low-high
unfolding could_meet
returns-else-low-high c =
    λ known. rw c.in-1.is (sym (ap (λ (b : Bool). b || not (eqb c.args.low c.args.value)) (le-ltb c.args.low c.args.high (omega (arith, c.if-low-high.false)))))

pub returns-in-2 : goal.returns-in-2
unfolding could_meet
returns-in-2 c = λ known. rw c.in-2.is
