-- What Explained and Search give, as functions of a table. `Laws.Answers` shows that they are what `Explained` and
-- `Searched` say over chains, and nothing else is.
use Rattle.std.specs.Prelude.{ℕ, Bool, true, false, List}
use Rattle.pack.specs.Syntax.{Node, Theory}
use Rattle.pack.specs.State.{meaning}
use Rattle.chart.specs.Laws.Tables.{on_table}
use Rattle.planner.specs.Search.{Answer, none}
use Rattle.planner.specs.Laws.Explaining.{explained?}
use Rattle.planner.specs.Laws.Searching.{search_of}

-- a decision as a Bool
unfoldable pub says : {A : Type 0} → Dec A → Bool
says (yes x) = true
says (no x) = false

-- whether character c's action a is explained in the state that the table means; of what is no table it says nothing
unfoldable pub explained_table : (p : Theory) (foresight nesting c a : ℕ) → List Node → Bool
explained_table p K e c a t =
    on_table p.characters t (λ x. says (explained? p K e c a (meaning p.characters t 0) x)) false

-- the first of all lists, shorter first and then by action numbers, that is an ending
unfoldable pub search_table : (p : Theory) (story foresight nesting : ℕ) → List Node → Answer
search_table p T K E t = on_table p.characters t (search_of p T K E) none
