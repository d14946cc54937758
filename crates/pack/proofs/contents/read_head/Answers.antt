-- Version, characters and fluents are read each behind the one before it, and the domain sizes behind these. Assumes
-- nothing.
use Rattle.std.proofs.Common.{rules, arith, ap, ◌∙◌}
use Rattle.pack.specs.Grammar.{head_at}
use Rattle.pack.specs.Duties.Said.{said, placed}
use Rattle.pack.specs.Laws.Number.{between_within}
use Rattle.pack.proofs.contents.read_head.Goals as goal

pub returns-in_err-number-clause-reads : goal.returns-in_err-number-clause-reads
unfolding head_at
returns-in_err-number-clause-reads c = search (rules, c.number.ensures.reads, c.in_err-number.was)

pub returns-in_err-characters-clause-reads : goal.returns-in_err-characters-clause-reads
unfolding head_at
returns-in_err-characters-clause-reads c =
    search (rules, c.number.ensures.reads, c.number.ensures.same, c.in_ok-number.was, c.number-2.ensures.reads, c.in_err-characters.was)

pub returns-in_err-fluents-clause-reads : goal.returns-in_err-fluents-clause-reads
unfolding head_at
returns-in_err-fluents-clause-reads c =
    search (rules, c.number.ensures.reads, c.number.ensures.same, c.in_ok-number.was, c.number-2.ensures.reads, c.number-2.ensures.same, c.in_ok-characters.was, c.number-3.ensures.reads, c.in_err-fluents.was)

pub domains-requires : goal.domains-requires
domains-requires c =
    omega (arith, (between_within 1 25 3 _ _ _ _ (c.number-3.ensures.reads ∙ ap (λ r. said (placed r c.number-3.new.self.at)) c.in_ok-fluents.was)).1)

pub returns-in_err-domains-clause-reads : goal.returns-in_err-domains-clause-reads
unfolding head_at
returns-in_err-domains-clause-reads c =
    search (rules, c.number.ensures.reads, c.number.ensures.same, c.in_ok-number.was, c.number-2.ensures.reads, c.number-2.ensures.same, c.in_ok-characters.was, c.number-3.ensures.reads, c.number-3.ensures.same, c.in_ok-fluents.was, c.domains.ensures.reads.reads, c.in_err-domains.was)

pub invariant_of-result : goal.invariant_of-result
invariant_of-result c = record {
  small = omega (arith, (between_within 1 7 3 _ _ _ _ (c.number-2.ensures.reads ∙ ap (λ r. said (placed r c.number-2.new.self.at)) c.in_ok-characters.was)).1);
}

pub returns-clause-reads : goal.returns-clause-reads
unfolding head_at
returns-clause-reads c =
    search (rules, c.number.ensures.reads, c.number.ensures.same, c.in_ok-number.was, c.number-2.ensures.reads, c.number-2.ensures.same, c.in_ok-characters.was, c.number-3.ensures.reads, c.number-3.ensures.same, c.in_ok-fluents.was, c.domains.ensures.reads.reads, c.in_ok-domains.was)
