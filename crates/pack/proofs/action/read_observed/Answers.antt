-- The conditions that are read are marked, and what is left tells what the whole tells. Assumes nothing.
use Rattle.std.proofs.Common.{rules, arith, refl, ap, ◌+◌, ◌∙◌, length-set}
use Rattle.std.proofs.lemmas.Result.{IfOk-from_err}
use Rattle.pack.specs.Duties.Said.{shown}
use Rattle.pack.specs.Laws.Marks.{marking_start, marking_set, marking_within, marking_refused, marking_whole, marking_all, set_below}
use Rattle.pack.specs.Laws.Bounded.{condition_bounded}
use Rattle.pack.proofs.action.read_observed.Goals as goal

pub loop-c-init : goal.loop-c-init
loop-c-init c = (marking_start _ _ _ _ _ _ _, refl)

pub overflow_cast-places : goal.overflow_cast-places
overflow_cast-places c =
    omega (arith, marking_within _ _ _ _ _ (condition_bounded _) _ _ _ _ _ c.loop-c.invariant.0 c.requires.1)

pub returns-in_err-n : goal.returns-in_err-n
returns-in_err-n c =
    let refused = marking_refused _ _ _ _ _ _ _ _ _ _ c.loop-c.invariant.0 c.loop-c-test.true _ _ (c.check_condition.ensures ∙ ap shown c.in_err-n.was) in
    record {
      answer = search (rules, refused);
      marked = IfOk-from_err _ _ c.from_residual.ensures.0;
      kept = λ k l. set_below c.loop-c.places (c.args.base + c.loop-c.c) c.loop-c.n c.args.base (omega arith) k l ∙ c.loop-c.invariant.0.kept k l;
    }

pub loop-c-preserved : goal.loop-c-preserved
loop-c-preserved c =
    (marking_set _ _ _ (λ b. c.args.base + b) _ _ _ _ c.loop-c.c _ c.loop-c.invariant.0 c.loop-c-test.true (omega (arith, c.loop-c.invariant.1, c.loop-c-test.true, c.requires)) (λ j l. omega arith) (omega arith) _ (c.check_condition.ensures ∙ ap shown c.in_ok-n.was), simp length-set c.loop-c.invariant.1)

pub returns : goal.returns
returns c =
    record {
      answer = marking_whole _ _ _ _ _ _ _ _ _ _ c.loop-c.invariant.0 c.loop-c-test.false;
      marked = marking_all _ _ _ _ _ _ _ _ _ _ c.loop-c.invariant.0 c.loop-c-test.false;
      kept = c.loop-c.invariant.0.kept;
    }
