-- Each part ends where the next begins, and each place is marked. Assumes nothing.
use Rattle.std.proofs.Common.{rules, arith, ap, ◌∙◌, length-set}
use Rattle.std.proofs.lemmas.Result.{IfOk-from_err}
use Rattle.pack.specs.Duties.Places.{ActionParts}
use Rattle.pack.specs.Duties.Said.{shown}
use Rattle.pack.specs.Duties.Answer.{dims}
use Rattle.pack.specs.Laws.Marks.{first_one, first_two, first_three, kept_one, kept_two, kept_three, action_first, action_kept, action_parts, if_ok_map}
use Rattle.pack.specs.Laws.Runs.{action_forget}
use Rattle.pack.specs.Laws.Bounded.{condition_within, effects_within, consenters_within}
use Rattle.pack.proofs.action.read_action.Goals as goal

pub returns-in_err-effects : goal.returns-in_err-effects
returns-in_err-effects c =
    record {
      answer = search (rules, action_forget, c.check_condition.ensures, c.in_err-effects.was);
      starts = first_one c.args.places.now c.args.base c.args.at 0 0 (omega (arith, c.requires));
      parts = IfOk-from_err _ _ c.from_residual.ensures.0;
      kept = kept_one c.args.places.now c.args.base c.args.at 0 0 (omega (arith, c.requires));
    }

pub overflow_cast-places-2 : goal.overflow_cast-places-2
overflow_cast-places-2 c =
    omega (arith, condition_within c.args.s.now c.args.at c.requires.2 _ (dims c.args.d.characters c.args.d.domains.now) (c.check_condition.ensures ∙ ap shown c.in_ok-effects.was))

pub returns-in_err-consenters : goal.returns-in_err-consenters
returns-in_err-consenters c =
    record {
      answer = search (rules, action_forget, c.check_condition.ensures, c.in_ok-effects.was, c.check_effects.ensures, c.in_err-consenters.was);
      starts = first_two c.args.places.now c.args.base c.args.at c.in_ok-effects.effects 0 (omega (arith, c.requires));
      parts = IfOk-from_err _ _ c.from_residual-in_err-consenters.ensures.0;
      kept = kept_two c.args.places.now c.args.base c.args.at c.in_ok-effects.effects 0 (omega (arith, c.requires));
    }

pub overflow_cast-places-3 : goal.overflow_cast-places-3
overflow_cast-places-3 c =
    let effects = condition_within c.args.s.now c.args.at c.requires.2 _ (dims c.args.d.characters c.args.d.domains.now) (c.check_condition.ensures ∙ ap shown c.in_ok-effects.was) in
    omega (arith, effects_within c.args.s.now _ effects _ (dims c.args.d.characters c.args.d.domains.now) (c.check_effects.ensures ∙ ap shown c.in_ok-consenters.was))

pub returns-in_err-observed : goal.returns-in_err-observed
returns-in_err-observed c =
    record {
      answer = search (rules, action_forget, c.check_condition.ensures, c.in_ok-effects.was, c.check_effects.ensures, c.in_ok-consenters.was, c.check_consenters.ensures, c.in_err-observed.was);
      starts = first_three c.args.places.now c.args.base c.args.at c.in_ok-effects.effects c.in_ok-consenters.consenters (omega (arith, c.requires));
      parts = IfOk-from_err _ _ c.from_residual-in_err-observed.ensures.0;
      kept = kept_three c.args.places.now c.args.base c.args.at c.in_ok-effects.effects c.in_ok-consenters.consenters (omega (arith, c.requires));
    }

pub read_observed-requires : goal.read_observed-requires
read_observed-requires c =
    let effects = condition_within c.args.s.now c.args.at c.requires.2 _ (dims c.args.d.characters c.args.d.domains.now) (c.check_condition.ensures ∙ ap shown c.in_ok-effects.was) in
    let consenters = effects_within c.args.s.now _ effects _ (dims c.args.d.characters c.args.d.domains.now) (c.check_effects.ensures ∙ ap shown c.in_ok-consenters.was) in
    (simp length-set (omega (arith, c.requires)), consenters_within c.args.s.now _ consenters _ (dims c.args.d.characters c.args.d.domains.now) (c.check_consenters.ensures ∙ ap shown c.in_ok-observed.was))

pub returns : goal.returns
returns c =
    let e = c.in_ok-effects.effects in
    let q = c.in_ok-consenters.consenters in
    let was = c.args.places.now in
    let now = c.read_observed.new.places in
    record {
      answer = search (rules, action_forget, c.check_condition.ensures, c.in_ok-effects.was, c.check_effects.ensures, c.in_ok-consenters.was, c.check_consenters.ensures, c.in_ok-observed.was, c.read_observed.ensures.answer);
      starts = action_first was c.args.base c.args.at e q (omega (arith, c.requires)) now c.read_observed.ensures.kept;
      parts = if_ok_map c.read_observed.result _ (λ n. ActionParts (dims c.args.d.characters c.args.d.domains.now) c.args.s.now now c.args.base) (λ n marked.
          action_parts was c.args.base c.args.at e q (omega (arith, c.requires)) now c.read_observed.ensures.kept (omega (arith, c.requires)) (dims c.args.d.characters c.args.d.domains.now) c.args.s.now c.in_ok-observed.observed (c.check_condition.ensures ∙ ap shown c.in_ok-effects.was) (c.check_effects.ensures ∙ ap shown c.in_ok-consenters.was) (c.check_consenters.ensures ∙ ap shown c.in_ok-observed.was) marked) c.read_observed.ensures.marked;
      kept = action_kept was c.args.base c.args.at e q (omega (arith, c.requires)) now c.read_observed.ensures.kept;
    }
