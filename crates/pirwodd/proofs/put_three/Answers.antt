-- Three entries put. Assumes nothing.
use Rattle.std.proofs.Common.{ℕ, List, ap, ◌∙◌, set}
use Rattle.pirwodd.proofs.Returned.{put_three}
use Rattle.pirwodd.proofs.put_three.Goals as goal

pub returns : goal.returns
returns c =
    c.put_entry-3.ensures
    ∙ ap (λ (r : List ℕ). set r 2 c.args.third)
    (c.put_entry-2.ensures ∙ ap (λ (r : List ℕ). set r 1 c.args.second) c.put_entry.ensures)
    ∙ put_three _ _ _ _
