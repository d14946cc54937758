-- The definition asks the same tests in the same order. Assumes nothing.
use borrow.Author.Rules.{rules}
use borrow.Author.Tests.{lt-ltb, le-ltb}
use Rattle.pack.specs.Number.{rising_at}
use Rattle.pack.proofs.number.read_rising.Goals as goal

pub returns-in_err-v : goal.returns-in_err-v
unfolding rising_at
returns-in_err-v c = search (rules, c.read_between.ensures, c.in_err-v.was)

pub returns-then-v-least : goal.returns-then-v-least
unfolding rising_at
returns-then-v-least c =
    rw (c.read_between.ensures, c.in_ok-v.was, lt-ltb _ _ c.if-v-least.true, c.at.ensures.0, c.at.ensures.1)

pub returns : goal.returns
unfolding rising_at
returns c = rw (c.read_between.ensures, c.in_ok-v.was, le-ltb _ _ c.if-v-least.false)
