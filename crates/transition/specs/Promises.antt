-- What Step promises of every call: the answer, and every lent buffer at its end, as equations with the reply. A
-- buffer's name with ' is what it holds at exit.
use Rattle.std.specs.Prelude.{ℕ, ◌≡◌, List, length, Result}
use Rattle.pack.specs.Reading.{told}
use Rattle.pack.specs.declared.refusal.Refusal.{Refusal}
use Rattle.chart.specs.Call.{result_after, work_after}
use Rattle.pack.specs.Refusals.{replied}
use Rattle.transition.specs.Replies.{step_reply}

-- Step(pack, chart, action, chart out, work)
pub record Stepped (pack chart : List ℕ) (action : ℕ) (out work out' work' : List ℕ)
    (r : Result ℕ Refusal) : Type 0 where
  pub answer : replied r ≡ told length (step_reply pack chart action out work)
  pub result : out' ≡ result_after (step_reply pack chart action out work) out
  pub scratch : work' ≡ work_after (step_reply pack chart action out work) work
