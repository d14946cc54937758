-- What merging a table that is loaded from place 1 on asks and promises, and writing the chart of a pack's nodes.
-- Assumes nothing.
use Rattle.std.specs.Prelude.{◌≡◌, List, ◌++◌, ℕ, ◌+◌, ◌<◌, ◌≤◌, length, drop}
use Rattle.pack.specs.Syntax.{Node}
use Rattle.pack.specs.Layout.{chart_bytes, ChartFits}
use Rattle.pack.specs.State.{meaning}
use Rattle.pack.specs.Duties.Table.{rows_at, Above}
use Rattle.chart.specs.Chart.{Starts}
use Rattle.chart.specs.Answers.{start_table}
use Rattle.chart.specs.Call.{chart_room, work_room, cleared}
use Rattle.chart.specs.Duties.Numbers.{Sound}
use Rattle.chart.specs.Duties.Look.{NodesFrom}

-- at most 32 rows of at most 30 bytes from 1 on, each belief one of them
pub record Mergeable (work : List ℕ) (n w f c : ℕ) : Type 0 where
  pub some : 0 < n
  pub few : n ≤ 32
  pub wide : f + c ≤ w
  pub slim : w ≤ 30
  pub sound : Sound work n w f c 1
  pub room : work_room ≤ length work

-- the written chart of what row 0 means, r rows from 2400 on
pub record Merged (was now : List ℕ) (n w f c r : ℕ) : Type 0 where
  pub starts : Starts c (meaning c (rows_at was w f c 1 n) 0) (rows_at now w f c 2400 r)
  pub few : r ≤ n
  pub high : Above was now 3360

-- the nodes of a pack, read from `first` on, fit a chart, and there is room
pub record Startable (pack : List ℕ) (first nodes fluents characters : ℕ) (chart work : List ℕ) : Type 0 where
  pub table : List Node
  pub end : ℕ
  pub read : NodesFrom pack first end nodes fluents characters table
  pub fit : ChartFits characters read.dimensions.domains table
  pub has_chart_room : chart_room ≤ length chart
  pub has_work_room : work_room ≤ length work

-- the chart of what node 0 means is written, and the work buffer cleared
pub record StartPut (characters : ℕ) (table : List Node) (chart chart' work work' : List ℕ) (r : ℕ) : Type 0 where
  pub answer : r ≡ length (chart_bytes (start_table characters table))
  pub result : chart'
      ≡ chart_bytes (start_table characters table) ++ drop (length (chart_bytes (start_table characters table))) chart
  pub scratch : work' ≡ cleared work
