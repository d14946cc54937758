-- With buffers that are long enough Search's reply under the program's limits depends on the pack alone. Assumes
-- nothing.
use Rattle.std.specs.Prelude.{ℕ, ◌≡◌, Bool, true, ◌&&◌, List, []}
use Rattle.std.proofs.Common.{ap, ◌∙◌}
use Rattle.pack.specs.Syntax.{Node, Pack}
use Rattle.chart.specs.Call.{list_room, work_room, fits, charts_of, call}
use Rattle.planner.specs.Answers.{search_table}
use Rattle.planner.specs.Replies.{answer_reply, search_reply}
use Rattle.ending.specs.Text.{ending_reply}

pub enough_lent : (pack list work : List ℕ) → fits list_room list ≡ true → fits work_room work ≡ true
    → search_reply pack 4 3 2 list work ≡ ending_reply pack
unfolding search_reply call charts_of ending_reply
enough_lent pack list work l w =
    ap (λ (b : Bool). call pack [] b (λ p. true)
    (λ (p : Pack) (tables : List (List Node)). answer_reply (search_table p.theory 4 3 2 p.nodes)))
    (ap (λ (b : Bool). b && fits work_room work) l
    ∙ w)
