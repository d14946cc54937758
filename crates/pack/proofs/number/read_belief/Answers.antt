-- The definition asks the same tests in the same order. Assumes nothing.
use borrow.Author.Rules.{rules}
use Rattle.pack.specs.Number.{belief_at}
use Rattle.pack.proofs.Tests.{tests}
use Rattle.pack.proofs.number.read_belief.Goals as goal

pub returns-in_err-v : goal.returns-in_err-v
unfolding belief_at
returns-in_err-v c = search (rules, c.read_number.ensures, c.in_err-v.was)

pub returns-then-v-eq0 : goal.returns-then-v-eq0
unfolding belief_at
returns-then-v-eq0 c = search (rules, tests, c.read_number.ensures, c.in_ok-v.was, c.at.ensures)

pub returns-then-v-nodes : goal.returns-then-v-nodes
unfolding belief_at
returns-then-v-nodes c = search (rules, tests, c.read_number.ensures, c.in_ok-v.was)

pub returns-else-v-nodes : goal.returns-else-v-nodes
unfolding belief_at
returns-else-v-nodes c = search (rules, tests, c.read_number.ensures, c.in_ok-v.was, c.at-else-v-nodes.ensures)
