-- A rule is a condition and then a number. Assumes nothing.
use Rattle.std.proofs.Common.{rules}
use Rattle.pack.specs.Laws.Runs.{rule_forget}
use Rattle.pack.proofs.utility.check_rule.Goals as goal

pub returns-in_err-number : goal.returns-in_err-number
returns-in_err-number c = search (rules, rule_forget, c.check_condition.ensures, c.in_err-number.was)

pub returns-in_err-after : goal.returns-in_err-after
returns-in_err-after c =
    search (rules, rule_forget, c.check_condition.ensures, c.in_ok-number.was, c.read_number.ensures, c.in_err-after.was)

pub returns : goal.returns
returns c =
    search (rules, rule_forget, c.check_condition.ensures, c.in_ok-number.was, c.read_number.ensures, c.in_ok-after.was)
