-- Whom it is for, and then what is claimed. Assumes nothing.
use Rattle.std.proofs.Common.{rules}
use Rattle.pack.specs.Laws.Runs.{effect_forget}
use Rattle.pack.proofs.effect.check_effect.Goals as goal

pub returns-in_err-claim : goal.returns-in_err-claim
returns-in_err-claim c = search (rules, effect_forget, c.check_item.ensures, c.in_err-claim.was)

pub returns : goal.returns
returns c = search (rules, effect_forget, c.check_item.ensures, c.in_ok-claim.was, c.check_claim.ensures)
