-- What is looked at before an action is tried, and what is told of it. Assumes nothing.
use Rattle.std.specs.Prelude.{◌≡◌, List, [], ℕ, ◌+◌, ◌<◌, ◌≤◌, length, get_or}
use Rattle.pack.specs.Syntax.{Theory}
use Rattle.pack.specs.State.{State}
use Rattle.pack.specs.Condition.{utility}
use Rattle.pack.specs.Reading.{Reader, done}
use Rattle.pack.specs.Grammar.{Dimensions, dimensions}
use Rattle.pack.specs.Duties.Judge.{Small, Over, Readable}
use Rattle.pack.specs.Duties.Table.{state_of, TableFits}
use Rattle.pack.specs.declared.table.Table.{Table}
use Rattle.chart.specs.Call.{work_room}
use Rattle.transition.specs.Happening.{Plays}
use Rattle.transition.specs.Duties.Play.{Theorized}
use Rattle.planner.specs.Inner.Range.{Wider, TriggersInRange}

-- a range for each fluent that a pack may have
pub record Ranged (lows highs : List ℕ) : Type 0 where
  pub lowest : 24 ≤ length lows
  pub highest : 24 ≤ length highs

-- a part of the pack is read at a place, and judged by ranges
abbrev pub Judgeable : {A : Type 0} (part : Dimensions → Reader A) (pack : List ℕ) (at : ℕ) (lows highs : List ℕ)
    → Type 0
Judgeable part pack at lows highs = Readable part pack at × Ranged lows highs

-- ranges are widened by what is read at a place: all that it writes is in range
pub record Widened {A : Type 0} (part : Dimensions → Reader A) (in_range : (lows highs : List ℕ) → A → Type 0)
    (pack : List ℕ) (at : ℕ) (lows highs lows' highs' : List ℕ) : Type 0 where
  pub wider : Wider lows highs lows' highs'
  pub covers : (d : Dimensions) → Small d → (x : A) (n : ℕ) → part d pack at ≡ done x n → in_range lows' highs' x

-- a theory with so many triggers is found in the pack
abbrev pub Triggered : (pack places : List ℕ) (triggers : ℕ) → Type 0
Triggered pack places triggers = (p : Theory) × ((actions : ℕ) × Theorized p pack places actions triggers)

-- ranges are widened by what they write
pub record TriggersWidened (pack places : List ℕ) (triggers : ℕ) (lows highs lows' highs' : List ℕ) : Type 0 where
  pub wider : Wider lows highs lows' highs'
  pub covers : (p : Theory) (actions : ℕ) → Theorized p pack places actions triggers
      → TriggersInRange lows' highs' p.triggers triggers

-- an action of a theory that is found in the pack, and a table to try it in
pub record Trial (p : Theory) (pack places : List ℕ) (triggers a : ℕ) (work : List ℕ) (t : Table) : Type 0 where
  pub actions : ℕ
  pub theorized : Theorized p pack places actions triggers
  pub there : a < actions
  pub over : Over (dimensions p) t
  pub fits : TableFits t work
  pub low : t.rows ≤ work_room
  pub some : 0 < t.nodes

-- whose utility it is: the author's is the first, then each character's
pub record Tryable (pack places : List ℕ) (triggers a : ℕ) (work : List ℕ) (t : Table) (whose : ℕ) : Type 0 where
  pub theory : Theory
  pub trial : Trial theory pack places triggers a work t
  pub rules : whose < t.characters + 1

-- if the action plays at all, it is the last one and leaves no utility above base
abbrev pub Hopeless : (pack places : List ℕ) (triggers a : ℕ) (work : List ℕ) (t : Table) (whose left base : ℕ) → Type 0
Hopeless pack places triggers a work t whose left base =
    (p : Theory) → Trial p pack places triggers a work t → (s : State) → Plays p (state_of t work 0) a s
    → (left ≡ 0) × (utility s (get_or p.utilities whose []) ≤ base)
