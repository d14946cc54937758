-- Each character is checked as it is read. Assumes nothing.
use Rattle.std.proofs.Common.{rules, sym, ◌∙◌}
use Rattle.pack.specs.Reading.{mapped}
use Rattle.pack.specs.Number.{item}
use Rattle.pack.specs.Duties.Said.{forget}
use Rattle.pack.specs.Laws.Runs.{many_told}
use Rattle.pack.proofs.condition.check_chain.Goals as goal

pub returns : goal.returns
returns c =
    let p = item c.args.characters in
    sym (many_told p c.args.count c.args.s.now c.args.at)
    ∙ c.check_many.ensures (λ s n. mapped forget (p s n)) c.args.s.now (λ n r post. search rules)
