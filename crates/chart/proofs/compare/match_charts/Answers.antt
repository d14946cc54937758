-- Joined, compared, cleared. Assumes nothing.
use Rattle.std.proofs.Common.{◌∙◌}
use Rattle.chart.proofs.MatchedRows.{charts_matched}
use Rattle.chart.proofs.compare.match_charts.Goals as goal

pub returns : goal.returns
returns c =
    charts_matched c.requires.0 c.join.ensures c.join.auto.work c.match_rows-found.ensures c.clear.ensures (c.clear.auto.work ∙ c.match_rows-found.auto.work ∙ c.join.auto.work)
