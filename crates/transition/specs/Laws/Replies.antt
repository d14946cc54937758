-- What Step's reply says where the checks are passed. Assumes nothing.
use Rattle.std.specs.Prelude.{ℕ, ◌<◌, ◌≤◌, ◌≡◌, refl, ◌&&◌, ◌⊎◌, List, [], length, get_or}
use Rattle.std.proofs.Common.{◌∙◌, ap, inl, inr, arith, lt-ltb}
use Rattle.std.proofs.Math.Dec.{ltb}
use Rattle.pack.specs.Syntax.{Node, Pack}
use Rattle.pack.specs.State.{State, meaning}
use Rattle.pack.specs.Reading.{gives, refuses}
use Rattle.pack.specs.Layout.{chart_bytes}
use Rattle.chart.specs.Chart.{ChartOf}
use Rattle.chart.specs.Call.{chart_room, work_room, fits}
use Rattle.chart.specs.Laws.Answers.{fits_table}
use Rattle.chart.specs.Laws.Replies.{Given, Chart, given_fits, chart_fits, both_true, long_enough, call-one}
use Rattle.transition.specs.Happening.{Plays, Refuses}
use Rattle.transition.specs.Step.{Outcome, Steps}
use Rattle.transition.specs.Answers.{step_table}
use Rattle.transition.specs.Replies.{outcome_reply, step_reply}
use Rattle.transition.specs.Laws.Step.{step_table_lem, step_table_iff, step_fits}

module _ {pack : List ℕ} {p : Pack} (g : Given pack p) (chart : List ℕ) (t : List Node) (c : Chart p.theory chart t)
    (a : ℕ) (there : a < length p.theory.actions)
    (out work : List ℕ) (hc : chart_room ≤ length out) (hw : work_room ≤ length work) where
  abbrev s : State
  s = meaning p.theory.characters t 0

  steps : step_reply pack chart a out work ≡ outcome_reply (step_table p.theory t a)
  unfolding step_reply
  steps =
      call-one (fits chart_room out && fits work_room work) (λ p. ltb a (length p.actions))
      (λ p tables. outcome_reply (step_table p.theory (get_or tables 0 []) a))
      (both_true (long_enough chart_room out hc) (long_enough work_room work hw)) g
      (lt-ltb a (length p.theory.actions) there) c

  -- Step's reply is the one outcome that the definition over chains allows
  pub step_says : (o : Outcome) → Steps p.theory s a o → step_reply pack chart a out work ≡ outcome_reply o
  step_says o h =
      steps ∙ ap outcome_reply ((step_table_iff p.theory t
      (fits_table p.theory.characters p.theory.domains t (chart_fits g c)) a o).0 h)

  -- where the action is playable, the written chart of the state that it leaves
  abbrev pub Left : Type 0
  Left = (s' : State) × Plays p.theory s a s' × (bytes : List ℕ) × (step_reply pack chart a out work ≡ gives bytes)
      × ChartOf p.theory.characters p.theory.domains s' bytes

  -- else the number that the definition says
  abbrev pub Refused : Type 0
  Refused = (n : ℕ) × Refuses p.theory s a n × (step_reply pack chart a out work ≡ refuses n 0)

  pub step_writes : Left ⊎ Refused
  step_writes =
      go (step_table p.theory t a) refl
      (step_table_lem p.theory t (fits_table p.theory.characters p.theory.domains t (chart_fits g c)) a)
    where
      go : (o : Outcome) → step_table p.theory t a ≡ o → Steps p.theory s a o → Left ⊎ Refused
      go o e (Steps.left {rows = u} w x) = inl (
        meaning p.theory.characters u 0,
        x,
        chart_bytes u,
        steps ∙ ap outcome_reply e,
        record {
          rows = u;
          starts = (w, refl);
          fits = step_fits p (given_fits g) t (chart_fits g c) a u e;
          bytewise = refl;
        },
      )
      go o e (Steps.failed {n = n} l x) = inr (n, x, steps ∙ ap outcome_reply e)
      go o e (Steps.missing l) = absurd (omega arith)
