-- Those that are read are marked, with their parts, and what is left tells what the whole tells. Assumes nothing.
use Rattle.std.proofs.Common.{rules, arith, refl, ap, ◌+◌, ◌*◌, ◌∙◌}
use Rattle.std.proofs.lemmas.Result.{IfOk-from_err}
use Rattle.pack.specs.Duties.Places.{TriggerParts}
use Rattle.pack.specs.Duties.Said.{said, shown}
use Rattle.pack.specs.Duties.Answer.{dims}
use Rattle.pack.specs.Laws.Marks.{marking_start, marking_more, marking_within, marking_refused, marking_whole, marking_all, if_ok_at, triggers_more}
use Rattle.pack.specs.Laws.Number.{between_within}
use Rattle.pack.specs.Laws.Runs.{counted-length}
use Rattle.pack.specs.Laws.Bounded.{trigger_bounded, count_within}
use Rattle.pack.proofs.trigger.read_triggers.Goals as goal

pub returns-in_err-count : goal.returns-in_err-count
returns-in_err-count c =
    record {
      answer = search (rules, counted-length, c.read_between.ensures, c.in_err-count.was);
      found = IfOk-from_err _ _ c.from_residual.ensures.0;
      kept = λ k l. refl;
    }

pub loop-i-init : goal.loop-i-init
loop-i-init c =
    (marking_start _ _ _ _ _ _ _, λ j l. absurd (omega arith), refl, (between_within 0 17 3 _ _ _ _ (c.read_between.ensures ∙ ap said c.in_ok-count.was)).1)

pub overflow_mul-i : goal.overflow_mul-i
overflow_mul-i c = omega (arith, c.loop-i-test.true, c.loop-i.invariant.3)

pub read_trigger-requires : goal.read_trigger-requires
read_trigger-requires c =
    (c.requires.0, omega (arith, c.loop-i-test.true, c.loop-i.invariant.2, c.loop-i.invariant.3, c.requires.1), marking_within _ _ _ _ _ (trigger_bounded (dims c.args.d.characters c.args.d.domains.now)) _ _ _ _ _ c.loop-i.invariant.0 (count_within c.args.s.now c.args.at c.requires.2 _ 0 17 _ (c.read_between.ensures ∙ ap said c.in_ok-count.was)))

pub returns-in_err-n : goal.returns-in_err-n
returns-in_err-n c =
    let refused = marking_refused _ _ _ _ _ _ _ _ _ _ c.loop-i.invariant.0 c.loop-i-test.true _ _ (c.read_trigger.ensures.answer ∙ ap shown c.in_err-n.was) in
    record {
      answer = search (rules, counted-length, c.read_between.ensures, c.in_ok-count.was, refused);
      found = IfOk-from_err _ _ c.from_residual-in_err-n.ensures.0;
      kept = λ k l. c.read_trigger.ensures.kept k (omega arith) ∙ c.loop-i.invariant.0.kept k l;
    }

pub loop-i-preserved : goal.loop-i-preserved
loop-i-preserved c =
    let now = c.read_trigger.new.places in (
      marking_more _ _ _ (λ i. 288 + 2 * i) _ _ _ _ c.loop-i.i _ c.loop-i.invariant.0 c.loop-i-test.true now c.read_trigger.ensures.starts (λ j l. c.read_trigger.ensures.kept (288 + 2 * j) (omega arith)) (λ k l. c.read_trigger.ensures.kept k (omega arith)) _ (c.read_trigger.ensures.answer ∙ ap shown c.in_ok-n.was),
      triggers_more (dims c.args.d.characters c.args.d.domains.now) c.args.s.now c.loop-i.places now c.loop-i.i c.read_trigger.ensures.kept c.loop-i.invariant.1 (if_ok_at c.read_trigger.result _ (λ n. TriggerParts (dims c.args.d.characters c.args.d.domains.now) c.args.s.now now (288 + 2 * c.loop-i.i)) c.in_ok-n.was c.read_trigger.ensures.parts),
      c.read_trigger.auto.places ∙ c.loop-i.invariant.2,
      c.loop-i.invariant.3,
    )

pub returns : goal.returns
returns c =
    let whole = marking_whole _ _ _ _ _ _ _ _ _ _ c.loop-i.invariant.0 c.loop-i-test.false in
    record {
      answer = search (rules, counted-length, c.read_between.ensures, c.in_ok-count.was, whole);
      found = (
        c.in_ok-count.first,
        c.read_between.ensures ∙ ap said c.in_ok-count.was,
        record {
          starts = marking_all _ _ _ _ _ _ _ _ _ _ c.loop-i.invariant.0 c.loop-i-test.false;
          parts = λ j l. c.loop-i.invariant.1 j (omega (arith, c.loop-i-test.false));
        },
      );
      kept = c.loop-i.invariant.0.kept;
    }
