-- The fluent, and then the value by the fluent's domain. Assumes nothing.
use Rattle.std.proofs.Common.{rules, ap, ◌∙◌}
use Rattle.pack.specs.Duties.Said.{said}
use Rattle.pack.specs.Duties.Answer.{claim_at}
use Rattle.pack.specs.Laws.Number.{between_within}
use Rattle.pack.proofs.condition.check_claim.Goals as goal

pub returns-in_err-fluent : goal.returns-in_err-fluent
unfolding claim_at
returns-in_err-fluent c = search (rules, c.read_between.ensures, c.in_err-fluent.was)

pub bounds-domains-fluent : goal.bounds-domains-fluent
bounds-domains-fluent c = (between_within _ _ _ _ _ _ _ (c.read_between.ensures ∙ ap said c.in_ok-fluent.was)).1

pub returns : goal.returns
unfolding claim_at
returns c = search (rules, c.read_between.ensures, c.in_ok-fluent.was, c.check_item.ensures, c.from.ensures)
