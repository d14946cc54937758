-- A test is read in the order of its definition. Assumes nothing.
use Rattle.std.proofs.Common.{rules}
use Rattle.pack.specs.Laws.Runs.{test_forget}
use Rattle.pack.proofs.condition.check_test.Goals as goal

pub returns-in_err-count : goal.returns-in_err-count
returns-in_err-count c = search (rules, test_forget, c.read_between.ensures, c.in_err-count.was)

pub returns-in_err-kind : goal.returns-in_err-kind
returns-in_err-kind c =
    search (rules, test_forget, c.read_between.ensures, c.in_ok-count.was, c.check_chain.ensures, c.in_err-kind.was)

pub returns-in_err-claim : goal.returns-in_err-claim
returns-in_err-claim c =
    search (rules, test_forget, c.read_between.ensures, c.in_ok-count.was, c.check_chain.ensures, c.in_ok-kind.was, c.read_kind.ensures, c.in_err-claim.was)

pub returns : goal.returns
returns c =
    search (rules, test_forget, c.read_between.ensures, c.in_ok-count.was, c.check_chain.ensures, c.in_ok-kind.was, c.read_kind.ensures, c.in_ok-claim.was, c.check_claim.ensures)
