-- The numbers of the match are those below 3. Assumes nothing.
use borrow.Author.Rules.{rules}
use Rattle.pack.specs.Number.{between}
use Rattle.pack.proofs.Tests.{tests}
use Rattle.pack.proofs.number.read_kind.Goals as goal

pub returns-in_err-v : goal.returns-in_err-v
unfolding between
returns-in_err-v c = search (rules, c.read_number.ensures, c.in_err-v.was)

pub returns-in-0 : goal.returns-in-0
unfolding between
returns-in-0 c = search (rules, tests, c.read_number.ensures, c.in_ok-v.was)

pub returns-in-3-to-max : goal.returns-in-3-to-max
unfolding between
returns-in-3-to-max c = search (rules, tests, c.read_number.ensures, c.in_ok-v.was, c.at.ensures)
