-- The definition asks the same tests in the same order. Assumes nothing.
use borrow.Author.Rules.{rules}
use Rattle.pack.specs.Number.{between}
use Rattle.pack.proofs.Tests.{tests}
use Rattle.pack.proofs.number.read_between.Goals as goal
use Rattle.pack.proofs.number.read_between.Goals.{else-low-v-via-then-low-v+else-v-limit, else-low-v-via-else-low-v}

pub returns-in_err-v : goal.returns-in_err-v
unfolding between
returns-in_err-v c = search (rules, c.read_number.ensures, c.in_err-v.was)

pub returns-then-v-limit : goal.returns-then-v-limit
unfolding between
returns-then-v-limit c = search (rules, tests, c.read_number.ensures, c.in_ok-v.was)

pub returns-else-low-v : goal.returns-else-low-v
unfolding between
returns-else-low-v c = elim c.else-low-v.branch [
  | else-low-v-via-then-low-v+else-v-limit w ↦ search (rules, tests, c.read_number.ensures, c.in_ok-v.was, c.at.ensures, w.if-low-v.true, w.if-v-limit.false)
  | else-low-v-via-else-low-v w ↦ search (rules, tests, c.read_number.ensures, c.in_ok-v.was, c.at.ensures, w.if-low-v.false)
]
