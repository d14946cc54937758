-- What Start and Compare give, as functions of tables. `Laws.Answers` shows that they are what `Starts` and `Compared`
-- say over chains, and nothing else is.
use Rattle.std.specs.Prelude.{ℕ, List, []}
use Rattle.std.proofs.Math.Logic.{dite}
use Rattle.pack.specs.Syntax.{Node}
use Rattle.chart.specs.Compare.{Verdict, same}
use Rattle.chart.specs.Laws.Charted.{chart}
use Rattle.chart.specs.Laws.Tables.{on_table, full?, full}
use Rattle.chart.specs.Laws.Comparing.{compare_of}

-- "A written chart holds each different state reachable by beliefs once": the written chart of what row 0 means; a list
-- that is no table has none
unfoldable pub start_table : ℕ → List Node → List Node
start_table C t = on_table C t (λ x. (chart x).rows) []

-- the first chain of all, shorter first and then by character numbers, that finds a difference, and the lowest fluent
-- there
unfoldable pub compare_table : (C F : ℕ) → List Node → List Node → Verdict
compare_table C F t u =
    dite (full? C F t) (λ r. dite (full? C F u) (λ q. compare_of (full C F t r) (full C F u q)) (λ n. same)) (λ n. same)
