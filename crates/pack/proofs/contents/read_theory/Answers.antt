-- The actions, the triggers and the utilities are read each behind what came before it, by the same reader. Assumes
-- nothing.
use Rattle.std.proofs.Common.{rules}
use Rattle.pack.specs.Duties.Places.{Within}
use Rattle.pack.specs.Duties.Answer.{dims}
use Rattle.pack.specs.Laws.Runs.{theory_forget}
use Rattle.pack.specs.Laws.Bounded.{actions_within, triggers_within}
use Rattle.pack.specs.Laws.PartsFound.{theory_marked}
use Rattle.pack.proofs.Turns.{no_value_placed}
use Rattle.pack.proofs.contents.read_theory.Goals as goal

pub returns-in_err-actions-clause-reads : goal.returns-in_err-actions-clause-reads
returns-in_err-actions-clause-reads c = record {
  answer = search (rules, theory_forget, c.actions.ensures.reads.answer, c.in_err-actions.was);
  found = λ t n e. no_value_placed _ _ _ c.from_residual.ensures.0;
}

pub triggers-requires : goal.triggers-requires
triggers-requires c =
    let a = rw c.in_ok-actions.was at c.actions.ensures.reads.answer in
    (c.requires.0, rw c.actions.auto.places c.requires.1, rw c.actions.ensures.same (actions_within c.args.r.now.src.now c.args.r.now.at c.requires.2 c.actions.new.self.at (dims c.args.d.characters c.args.d.domains.now) c.in_ok-actions.actions a))

pub returns-in_err-triggers-clause-reads : goal.returns-in_err-triggers-clause-reads
returns-in_err-triggers-clause-reads c = record {
  answer = search (rules, theory_forget, c.actions.ensures.reads.answer, c.actions.ensures.same, c.in_ok-actions.was, c.triggers.ensures.reads.answer, c.in_err-triggers.was);
  found = λ t n e. no_value_placed _ _ _ c.from_residual-in_err-triggers.ensures.0;
}

pub utilities-requires : goal.utilities-requires
utilities-requires c =
    let b = rw c.in_ok-triggers.was at c.triggers.ensures.reads.answer in
    let a = rw c.in_ok-actions.was at c.actions.ensures.reads.answer in
    let within : Within c.actions.new.self.src.now c.actions.new.self.at = rw c.actions.ensures.same (actions_within c.args.r.now.src.now c.args.r.now.at c.requires.2 c.actions.new.self.at (dims c.args.d.characters c.args.d.domains.now) c.in_ok-actions.actions a) in
    (c.requires.0, rw (c.triggers.auto.places, c.actions.auto.places) c.requires.1, rw c.triggers.ensures.same (triggers_within c.actions.new.self.src.now c.actions.new.self.at within c.triggers.new.self.at (dims c.args.d.characters c.args.d.domains.now) c.in_ok-triggers.triggers b))

pub returns-in_err-utilities-clause-reads : goal.returns-in_err-utilities-clause-reads
returns-in_err-utilities-clause-reads c = record {
  answer = search (rules, theory_forget, c.actions.ensures.reads.answer, c.actions.ensures.same, c.in_ok-actions.was, c.triggers.ensures.reads.answer, c.triggers.ensures.same, c.in_ok-triggers.was, c.utilities.ensures.reads.answer, c.in_err-utilities.was);
  found = λ t n e. no_value_placed _ _ _ c.from_residual-in_err-utilities.ensures.0;
}

pub returns-clause-reads : goal.returns-clause-reads
returns-clause-reads c =
    let a = rw c.in_ok-actions.was at c.actions.ensures.reads in
    let b = rw (c.in_ok-triggers.was, c.actions.ensures.same) at c.triggers.ensures.reads in
    let u = rw (c.in_ok-utilities.was, c.triggers.ensures.same, c.actions.ensures.same) at c.utilities.ensures.reads in
    record {
      answer = search (rules, theory_forget, a.answer, b.answer, u.answer);
      found = theory_marked (dims c.args.d.characters c.args.d.domains.now) c.args.r.now.src.now c.args.r.now.at c.actions.new.places c.triggers.new.places c.utilities.new.places
          c.in_ok-actions.actions c.actions.new.self.at c.in_ok-triggers.triggers c.triggers.new.self.at c.utilities.new.self.at c.requires.0 a b u;
    }
