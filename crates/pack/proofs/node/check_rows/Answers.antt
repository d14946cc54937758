-- Each node is checked as it is read. Assumes nothing.
use Rattle.std.proofs.Common.{rules, sym, ◌∙◌}
use Rattle.pack.specs.Reading.{mapped}
use Rattle.pack.specs.Grammar.{node_at}
use Rattle.pack.specs.Duties.Said.{forget}
use Rattle.pack.specs.Duties.Answer.{dims}
use Rattle.pack.specs.Laws.Runs.{many_told}
use Rattle.pack.proofs.node.check_rows.Goals as goal

pub returns : goal.returns
returns c =
    let p = node_at (dims c.args.d.characters c.args.d.domains.now) c.args.nodes in
    sym (many_told p c.args.nodes c.args.s.now c.args.at)
    ∙ c.check_many.ensures (λ s n. mapped forget (p s n)) c.args.s.now (λ n r post. search rules)
