-- The numbers that are told of a comparison and of an ending.
use Rattle.std.specs.Prelude.{ℕ, List, [], ◌∷◌, Option, Some, None}
use Rattle.chart.specs.declared.Difference as chart
use Rattle.planner.specs.declared.Ending as planner

-- 0 for "same"; else 1, the chain's length and the fluent
abbrev pub difference_numbers : Option chart.Difference → List ℕ
difference_numbers None = 0 ∷ []
difference_numbers (Some d) = 1 ∷ d.length ∷ d.fluent ∷ []

-- the list's length, and the author's utility at the start and at its end
abbrev pub ending_numbers : planner.Ending → List ℕ
ending_numbers e = e.length ∷ e.before ∷ e.after ∷ []
