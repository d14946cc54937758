-- The rules that are read are marked, and what is left tells what the whole tells. Assumes nothing.
use Rattle.std.proofs.Common.{rules, arith, refl, ap, ◌+◌, ◌∙◌, length-set}
use Rattle.std.proofs.lemmas.Result.{IfOk-from_err}
use Rattle.pack.specs.Duties.Said.{shown}
use Rattle.pack.specs.Laws.Marks.{marking_start, marking_set, marking_within, marking_refused, marking_whole, marking_all, set_below}
use Rattle.pack.specs.Laws.Bounded.{rules_bounded}
use Rattle.pack.proofs.utility.read_utilities.Goals as goal

pub loop-i-init : goal.loop-i-init
loop-i-init c = (marking_start _ _ _ _ _ _ _, refl)

pub overflow_cast-places : goal.overflow_cast-places
overflow_cast-places c =
    omega (arith, marking_within _ _ _ _ _ (rules_bounded _) _ _ _ _ _ c.loop-i.invariant.0 c.requires.2)

pub bounds-places-i : goal.bounds-places-i
bounds-places-i c = omega (arith, c.loop-i.invariant.1, c.loop-i-test.true, c.requires)

pub returns-in_err-n : goal.returns-in_err-n
returns-in_err-n c =
    let refused = marking_refused _ _ _ _ _ _ _ _ _ _ c.loop-i.invariant.0 c.loop-i-test.true _ _ (c.check_rules.ensures ∙ ap shown c.in_err-n.was) in
    record {
      answer = search (rules, refused);
      marked = IfOk-from_err _ _ c.from_residual.ensures.0;
      kept = λ k l. set_below c.loop-i.places (320 + c.loop-i.i) c.loop-i.n 320 (omega arith) k l ∙ c.loop-i.invariant.0.kept k l;
    }

pub loop-i-preserved : goal.loop-i-preserved
loop-i-preserved c =
    (marking_set _ _ _ (λ b. 320 + b) _ _ _ _ c.loop-i.i _ c.loop-i.invariant.0 c.loop-i-test.true (omega (arith, c.loop-i.invariant.1, c.loop-i-test.true, c.requires)) (λ j l. omega arith) (omega arith) _ (c.check_rules.ensures ∙ ap shown c.in_ok-n.was), simp length-set c.loop-i.invariant.1)

pub returns : goal.returns
returns c =
    record {
      answer = marking_whole _ _ _ _ _ _ _ _ _ _ c.loop-i.invariant.0 c.loop-i-test.false;
      marked = marking_all _ _ _ _ _ _ _ _ _ _ c.loop-i.invariant.0 c.loop-i-test.false;
      kept = c.loop-i.invariant.0.kept;
    }
