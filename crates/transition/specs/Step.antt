-- What Step gives of a state. Document 01, "Happenings": "exactly then Step, lent what it needs, gives a chart".
use Rattle.std.specs.Prelude.{ℕ, ◌<◌, ◌≤◌, List, length}
use Rattle.pack.specs.Syntax.{Node, Theory}
use Rattle.pack.specs.State.{State, meaning}
use Rattle.chart.specs.Chart.{Written}
use Rattle.transition.specs.Happening.{Plays, Refuses}

-- a chart, or a number
pub data Outcome : Type 0 where
  leaves : List Node → Outcome
  refused : ℕ → Outcome

-- the written chart of the state that the action leaves, or a number, 9 where there is no such action
pub data Steps (p : Theory) (s : State) (a : ℕ) : Outcome → Type 0 where
  left : {rows : List Node} → Written p.characters rows → Plays p s a (meaning p.characters rows 0)
      → Steps p s a (leaves rows)
  failed : {n : ℕ} → a < length p.actions → Refuses p s a n → Steps p s a (refused n)
  missing : length p.actions ≤ a → Steps p s a (refused 9)
