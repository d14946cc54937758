-- Each test is checked as it is read. Assumes nothing.
use Rattle.std.proofs.Common.{rules, sym, ◌∙◌}
use Rattle.pack.specs.Reading.{mapped}
use Rattle.pack.specs.Grammar.{test_at}
use Rattle.pack.specs.Duties.Said.{forget}
use Rattle.pack.specs.Duties.Answer.{dims}
use Rattle.pack.specs.Laws.Runs.{counted_told}
use Rattle.pack.proofs.condition.check_alternative.Goals as goal

pub returns : goal.returns
returns c =
    let p = test_at (dims c.args.d.characters c.args.d.domains.now) in
    sym (counted_told 0 9 p c.args.s.now c.args.at)
    ∙ c.check_counted.ensures (λ s n. mapped forget (p s n)) (λ n r post. search rules)
