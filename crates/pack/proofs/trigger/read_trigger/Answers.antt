-- The condition ends where the effects begin, and both places are marked. Assumes nothing.
use Rattle.std.proofs.Common.{rules, arith, ap, ◌∙◌}
use Rattle.std.proofs.lemmas.Result.{IfOk-from_err}
use Rattle.pack.specs.Duties.Said.{shown}
use Rattle.pack.specs.Duties.Answer.{dims}
use Rattle.pack.specs.Laws.Marks.{first_one, first_two, kept_one, kept_two, trigger_parts, if_ok_all}
use Rattle.pack.specs.Laws.Runs.{trigger_forget}
use Rattle.pack.specs.Laws.Bounded.{condition_within}
use Rattle.pack.proofs.trigger.read_trigger.Goals as goal

pub returns-in_err-effects : goal.returns-in_err-effects
returns-in_err-effects c =
    record {
      answer = search (rules, trigger_forget, c.check_condition.ensures, c.in_err-effects.was);
      starts = first_one c.args.places.now c.args.base c.args.at 0 0 (omega (arith, c.requires));
      parts = IfOk-from_err _ _ c.from_residual.ensures.0;
      kept = kept_one c.args.places.now c.args.base c.args.at 0 0 (omega (arith, c.requires));
    }

pub overflow_cast-places-2 : goal.overflow_cast-places-2
overflow_cast-places-2 c =
    omega (arith, condition_within c.args.s.now c.args.at c.requires.2 _ (dims c.args.d.characters c.args.d.domains.now) (c.check_condition.ensures ∙ ap shown c.in_ok-effects.was))

pub returns : goal.returns
returns c =
    record {
      answer = search (rules, trigger_forget, c.check_condition.ensures, c.in_ok-effects.was, c.check_effects.ensures);
      starts = first_two c.args.places.now c.args.base c.args.at c.in_ok-effects.effects 0 (omega (arith, c.requires));
      parts = if_ok_all c.check_effects.result _ (λ n. trigger_parts c.args.places.now c.args.base c.args.at c.in_ok-effects.effects 0 (omega (arith, c.requires)) (dims c.args.d.characters c.args.d.domains.now) c.args.s.now (c.check_condition.ensures ∙ ap shown c.in_ok-effects.was));
      kept = kept_two c.args.places.now c.args.base c.args.at c.in_ok-effects.effects 0 (omega (arith, c.requires));
    }
