-- The definition asks the same tests in the same order. Assumes nothing.
use borrow.Author.Rules.{rules}
use Rattle.pack.specs.Number.{number_at}
use Rattle.pack.proofs.Tests.{tests}
use Rattle.pack.proofs.number.read_number.Goals as goal

pub returns-then-s-at : goal.returns-then-s-at
unfolding number_at
returns-then-s-at c = search (rules, tests)

pub returns-then-a-lt128 : goal.returns-then-a-lt128
unfolding number_at
returns-then-a-lt128 c = search (rules, tests)

pub returns-then-s-at-2 : goal.returns-then-s-at-2
unfolding number_at
returns-then-s-at-2 c = search (rules, tests)

pub returns-then-b-eq0 : goal.returns-then-b-eq0
unfolding number_at
returns-then-b-eq0 c = search (rules, tests)

pub returns-then-b-lt128 : goal.returns-then-b-lt128
unfolding number_at
returns-then-b-lt128 c = search (rules, tests)

pub returns-then-s-at-3 : goal.returns-then-s-at-3
unfolding number_at
returns-then-s-at-3 c = search (rules, tests)

pub returns-then-d-eq0 : goal.returns-then-d-eq0
unfolding number_at
returns-then-d-eq0 c = search (rules, tests)

pub returns : goal.returns
unfolding number_at
returns c = search (rules, tests)
