-- A stage of Step in the work buffer: slots below 40,304, each as wide as its table needs, and the stage's scratch from
-- there on. Assumes nothing.
use Rattle.std.specs.Prelude.{◌≡◌, List, ℕ, ◌+◌, ◌*◌, ◌<◌, ◌≤◌, length, get_or, Result, Ok, Err}
use Rattle.pack.specs.Duties.Table.{rows_at, Below, Above, Between}
use Rattle.pack.specs.declared.table.Table.{Table}
use Rattle.chart.specs.Call.{work_room}
use Rattle.chart.specs.Chart.{Starts}
use Rattle.chart.specs.States.{AtMost}
use Rattle.pack.specs.State.{State}
use Rattle.pack.specs.declared.refusal.Stop.{Stop}
use Rattle.pack.specs.declared.refusal.Stop.TheVariants.{States}
use Rattle.transition.specs.Happening.{change}
use Rattle.transition.specs.Inner.Change.{Scene, at}

-- where tables stand in the work buffer: in slots, each with room for a count and for 32 rows of their width
abbrev pub slot_room : ℕ → ℕ
slot_room w = 1 + 32 * w

-- and behind the slots, while a stage is made
abbrev pub scratch_at : ℕ
scratch_at = 40304

-- in it, the numbers of what happens stand first, and then the rows that are made of it
abbrev pub made_at : ℕ
made_at = 40756

-- a table and a slot lie below the scratch
pub record StageRoom (work : List ℕ) (t : Table) (slot : ℕ) : Type 0 where
  pub source : t.rows + t.nodes * t.width ≤ scratch_at
  pub has_slot_room : slot + slot_room t.width ≤ scratch_at
  pub room : work_room ≤ length work

-- only the slot, for rows of w bytes, and the scratch have changed
pub record SlotOnly (w : ℕ) (was now : List ℕ) (slot : ℕ) : Type 0 where
  pub low : Below was now slot
  pub mid : Between was now (slot + slot_room w) scratch_at
  pub high : Above was now work_room

-- in the slot stands the written chart of z, n rows and their count
pub record RowsIn (t : Table) (z : State) (work : List ℕ) (slot n : ℕ) : Type 0 where
  pub some : 0 < n
  pub few : n ≤ 32
  pub count : get_or work slot 0 ≡ n
  pub starts : Starts t.characters z (rows_at work t.width t.fluents t.characters (slot + 1) n)

-- so many rows of it stand there, or z has more than 32 states
pub record InSlot (t : Table) (z : State) (work : List ℕ) (slot : ℕ) (r : Result ℕ Stop) : Type 0 where
  pub rows : (n : ℕ) → r ≡ Ok n → RowsIn t z work slot n
  pub many : (why : Stop) → r ≡ Err why → (why ≡ States) × (AtMost 32 t.characters z → ⊥)

pub record Staged (s : Scene) (root : ℕ) (t : Table) (was now : List ℕ) (slot : ℕ) (r : Result ℕ Stop) : Type 0 where
  pub holds : InSlot t (change s.causes s.takes (at s t.characters root)) now slot r
  pub only : SlotOnly t.width was now slot
