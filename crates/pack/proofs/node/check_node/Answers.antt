-- A node is its values and then its beliefs. Assumes nothing.
use Rattle.std.proofs.Common.{rules, sym, ◌∙◌}
use Rattle.pack.specs.Reading.{mapped}
use Rattle.pack.specs.Number.{belief_at}
use Rattle.pack.specs.Duties.Said.{forget}
use Rattle.pack.specs.Laws.Runs.{node-forget, many_told}
use Rattle.pack.proofs.node.check_node.Goals as goal

pub returns-in_err-beliefs : goal.returns-in_err-beliefs
returns-in_err-beliefs c = search (rules, node-forget, c.check_values.ensures, c.in_err-beliefs.was)

pub returns : goal.returns
returns c =
    let p = belief_at c.args.nodes in
    let beliefs = sym (many_told p c.args.d.characters c.args.s.now c.in_ok-beliefs.beliefs)
    ∙ c.check_many.ensures (λ s n. mapped forget (p s n)) c.args.s.now (λ n r post. search rules) in
    search (rules, node-forget, c.check_values.ensures, c.in_ok-beliefs.was, beliefs)
