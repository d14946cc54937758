-- One entry put. Assumes nothing.
use Rattle.std.proofs.Common.{◌∙◌}
use Rattle.pirwodd.proofs.Returned.{put_one}
use Rattle.pirwodd.proofs.put_one.Goals as goal

pub returns : goal.returns
returns c = c.put_entry.ensures ∙ put_one _ _
