-- What Search gives. Document 01: "Search finds the shortest, then the earliest by action numbers"; "Its result has the
-- length, the actions (8 bytes lent) and both worths, the author's at the start and at the end of that list."
use Rattle.std.specs.Prelude.{ℕ, ◌≡◌, List}
use Rattle.pack.specs.Syntax.{Theory}
use Rattle.pack.specs.State.{State}
use Rattle.chart.specs.Earliest.{Earliest}
use Rattle.planner.specs.Ending.{Ending, author_utility}

-- what is true of a list that is found: the shortest ending, then the earliest, with the author's utility "at the start
-- and at the end of that list"
pub record Sought (p : Theory) (story foresight nesting : ℕ) (s : State) (list : List ℕ)
    (before after : ℕ) : Type 0 where
  pub first : Earliest (Ending p story foresight nesting s) list
  pub at_start : author_utility p s ≡ before
  pub at_end : author_utility p first.good.end ≡ after

-- a list with both utilities, or "13 | no ending"
pub data Answer : Type 0 where
  ending : (list : List ℕ) (before after : ℕ) → Answer
  none : Answer

-- when an answer is true of a state: "its 'no ending' is Search's 13"
abbrev pub Searched : (p : Theory) (story foresight nesting : ℕ) → State → Answer → Type 0
Searched p T K E s (ending list before after) = Sought p T K E s list before after
Searched p T K E s none = (list : List ℕ) → ¬ Ending p T K E s list
