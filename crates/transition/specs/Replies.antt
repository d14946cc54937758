-- What Step replies to the bytes, number and buffers that it is lent.
use Rattle.std.specs.Prelude.{ℕ, ◌&&◌, List, [], ◌∷◌, length, ltb}
use Rattle.pack.specs.Reading.{Reply, gives, refuses}
use Rattle.pack.specs.Layout.{chart_bytes}
use Rattle.chart.specs.Call.{chart_room, work_room, fits, call}
use Rattle.chart.specs.Replies.{first_of}
use Rattle.transition.specs.Step.{Outcome, leaves, refused}
use Rattle.transition.specs.Answers.{step_table}

-- the written chart's bytes, or 10, 11 or 12 at place 0
abbrev pub outcome_reply : Outcome → Reply (List ℕ)
outcome_reply (leaves rows) = gives (chart_bytes rows)
outcome_reply (refused number) = refuses number 0

-- "Step takes a chart and an action"; "9 | action .. out of range"
unfoldable pub step_reply : (pack chart : List ℕ) (action : ℕ) (out work : List ℕ) → Reply (List ℕ)
step_reply pack chart action out work =
    call pack (chart ∷ []) (fits chart_room out && fits work_room work) (λ p. ltb action (length p.actions))
    (λ p tables.
    outcome_reply (step_table p.theory (first_of tables) action))
