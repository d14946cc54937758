-- Step from a chart's bytes to a chart's bytes: what it is lent, and what it says and leaves. Assumes nothing.
use Rattle.std.specs.Prelude.{◌≡◌, List, ℕ, ◌<◌, ◌≤◌, length, Result}
use Rattle.pack.specs.Syntax.{Node, Theory}
use Rattle.pack.specs.Layout.{ChartFits}
use Rattle.pack.specs.Reading as reading
use Rattle.chart.specs.Call.{chart_room, work_room, result_after, cleared}
use Rattle.pack.specs.Refusals.{replied}
use Rattle.chart.specs.Duties.Look.{NodesRead}
use Rattle.pack.specs.declared.refusal.Refusal.{Refusal}
use Rattle.transition.specs.Step.{Outcome, leaves}
use Rattle.transition.specs.Answers.{step_table}
use Rattle.transition.specs.Replies.{outcome_reply}
use Rattle.transition.specs.Duties.Play.{Theorized}

-- an accepted pack and chart, the action and the buffers that Step is lent
pub record Stepping (p : Theory) (T : List Node) (pack places : List ℕ) (actions triggers action : ℕ) (chart : List ℕ)
    (nodes fluents characters : ℕ) (out work : List ℕ) : Type 0 where
  pub theorized : Theorized p pack places actions triggers
  pub there : action < actions
  pub read : NodesRead chart nodes fluents characters T
  pub same_characters : p.characters ≡ characters
  pub same_fluents : length p.domains ≡ fluents
  pub fit : ChartFits p.characters p.domains T
  pub kept : (U : List Node) → step_table p T action ≡ leaves U → ChartFits p.characters p.domains U
  pub out_room : chart_room ≤ length out
  pub has_work_room : work_room ≤ length work

abbrev pub Steppable : (pack places : List ℕ) (triggers action : ℕ) (chart : List ℕ) (nodes fluents characters : ℕ)
    (out work : List ℕ)
    → Type 0
Steppable pack places triggers action chart nodes fluents characters out work =
    (p : Theory) × ((T : List Node)
    × ((actions : ℕ) × Stepping p T pack places actions triggers action chart nodes fluents characters out work))

-- the answer and the buffers are what the step's outcome says
pub record StepSaid (o : Outcome) (out work out' work' : List ℕ) (r : Result ℕ Refusal) : Type 0 where
  pub answer : replied r ≡ reading.told length (outcome_reply o)
  pub result : out' ≡ result_after (outcome_reply o) out
  pub scratch : work' ≡ cleared work

abbrev pub StepPut : (pack places : List ℕ) (triggers action : ℕ) (chart : List ℕ) (nodes fluents characters : ℕ)
    (out work out' work' : List ℕ) (r : Result ℕ Refusal)
    → Type 0
StepPut pack places triggers action chart nodes fluents characters out work out' work' r =
    (p : Theory) (T : List Node) (actions : ℕ)
    → Stepping p T pack places actions triggers action chart nodes fluents characters out work
    → StepSaid (step_table p T action) out work out' work' r
