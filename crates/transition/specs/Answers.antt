-- What Step gives, as a function of a table. `Laws.Step` shows that it is what `Steps` says over chains, and nothing
-- else is.
use Rattle.std.specs.Prelude.{ℕ, List}
use Rattle.pack.specs.Syntax.{Node, Theory}
use Rattle.chart.specs.Laws.Tables.{on_table}
use Rattle.transition.specs.Step.{Outcome, refused}
use Rattle.transition.specs.Laws.Stepping.{step_of}

-- the action played where it is playable and the chart of what it leaves written, else the number; of what is no table
-- it says nothing
unfoldable pub step_table : Theory → List Node → ℕ → Outcome
step_table p t a = on_table p.characters t (λ x. step_of p x a) (refused 0)
