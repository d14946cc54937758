-- What loading two charts as one table asks and promises, and comparing them there. Assumes nothing.
use Rattle.std.specs.Prelude.{◌≡◌, List, ◌++◌, ℕ, ◌+◌, ◌<◌, ◌≤◌, length, drop, Option, Ok}
use Rattle.pack.specs.Syntax.{Node}
use Rattle.pack.specs.State.{meaning}
use Rattle.pack.specs.Reading.{gives}
use Rattle.pack.specs.Duties.Table.{rows_at, Above}
use Rattle.chart.specs.declared.Difference as found
use Rattle.chart.specs.declared.compare.TwoCharts.{TwoCharts}
use Rattle.chart.specs.Compare.{Verdict, Compared}
use Rattle.chart.specs.Answers.{compare_table}
use Rattle.chart.specs.Call.{chain_room, work_room, cleared}
use Rattle.chart.specs.Replies.{chain_of}
use Rattle.chart.specs.Promises.{compare_said, difference}
use Rattle.chart.specs.Duties.Numbers.{Sound}
use Rattle.chart.specs.Duties.Look.{NodesRead}

-- a contract over plain numbers, of those of two charts: how many nodes they have, of how many fluents and characters
abbrev pub of_two : {A : Type 1} → (ℕ → ℕ → ℕ → ℕ → A) → TwoCharts → A
of_two P n = P n.first n.second n.fluents n.characters

-- two charts of n and m nodes, and room for both
pub record Joinable (first second work : List ℕ) (n m f c : ℕ) : Type 0 where
  pub table : List Node
  pub read : NodesRead first n f c table
  pub other : List Node
  pub read_other : NodesRead second m f c other
  pub room : work_room ≤ length work

-- row 0 means what the first chart means, and row n what the second does
pub record Joined (first second was now : List ℕ) (n m f c : ℕ) : Type 0 where
  pub sound : Sound now (n + m) (f + c) f c 1
  pub left : (t : List Node) → NodesRead first n f c t → meaning c (rows_at now (f + c) f c 1 (n + m)) 0 ≡ meaning c t 0
  pub right : (u : List Node) → NodesRead second m f c u
      → meaning c (rows_at now (f + c) f c 1 (n + m)) n ≡ meaning c u 0
  pub high : Above was now 1921

-- at most 64 rows of at most 30 bytes from 1 on, each belief one of them
pub record Matchable (work chain : List ℕ) (n m f c : ℕ) : Type 0 where
  pub some : (0 < n) × (0 < m)
  pub few : (n ≤ 32) × (m ≤ 32)
  pub slim : (f + c ≤ 30) × (c ≤ 6)
  pub sound : Sound work (n + m) (f + c) f c 1
  pub room : work_room ≤ length work
  pub has_chain_room : chain_room ≤ length chain

-- the verdict is handed back, and its chain written
pub record Said (v : Verdict) (was now : List ℕ) (r : Option found.Difference) : Type 0 where
  pub answer : compare_said (Ok r) ≡ gives (difference v)
  pub result : now ≡ chain_of v ++ drop (length (chain_of v)) was

-- of rows 0 and n
pub record RowsMatched (was now chain chain' : List ℕ) (r : Option found.Difference) (n m f c : ℕ) : Type 0 where
  pub verdict : Verdict
  pub true : let T = rows_at was (f + c) f c 1 (n + m) in Compared c (meaning c T 0) (meaning c T n) verdict
  pub said : Said verdict chain chain' r
  pub high : Above was now 26624

-- of two charts
pub record ChartsMatched (first second chain chain' work work' : List ℕ)
    (r : Option found.Difference) (n m f c : ℕ) : Type 0 where
  pub said : (t u : List Node) → NodesRead first n f c t → NodesRead second m f c u
      → Said (compare_table c f t u) chain chain' r
  pub scratch : work' ≡ cleared work
