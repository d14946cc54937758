-- A round in a slot that tells nobody anything: the values of a table's rows change where they stand. Assumes nothing.
use Rattle.std.specs.Prelude.{◌≡◌, false, ◌⊎◌, List, ℕ, suc, ◌+◌, ◌*◌, ◌<◌, ◌≤◌, length, get_or}
use Rattle.pack.specs.Syntax.{Effect}
use Rattle.pack.specs.Condition.{write}
use Rattle.pack.specs.Duties.Places.{places_room}
use Rattle.pack.specs.Duties.Table.{cells, table_of}
use Rattle.pack.specs.declared.table.Table.{Table}
use Rattle.chart.specs.Call.{work_room}
use Rattle.chart.specs.Chart.{Ordered}
use Rattle.transition.specs.declared.change.Change.{Change}
use Rattle.transition.specs.Duties.Cause.{told, EffectsAt, Tabled}
use Rattle.transition.specs.Inner.Change.{Scene, at}
use Rattle.transition.specs.Duties.Stage.{slot_room, scratch_at}

-- effects that are meant for nobody's beliefs
abbrev pub Silent : List Effect → Type 0
Silent es = (c : ℕ) → told es (suc c) ≡ false

-- the scene's effects stand at the places for its rows
pub record Caused (s : Scene) (pack effects work : List ℕ) (t : Table) : Type 0 where
  pub tabled : Tabled s.dimensions s.table work t
  pub effects_stand : (m : ℕ) → m < t.nodes
      → EffectsAt s.dimensions pack (get_or effects m 0) (s.causes (at s t.characters m))
  pub long : t.nodes ≤ length effects

abbrev pub CausedSome : (pack effects work : List ℕ) (t : Table) → Type 0
CausedSome pack effects work t = (s : Scene) × Caused s pack effects work t

-- p is no value of row i
abbrev pub Beside : Table → (i p : ℕ) → Type 0
Beside t i p = (p < t.rows + i * t.width) ⊎ (t.rows + i * t.width + t.fluents ≤ p)

-- the values of the first n rows are what the effects in them write, and nothing else has changed
pub record Rewritten (s : Scene) (t : Table) (was now : List ℕ) (n : ℕ) : Type 0 where
  pub values : (m : ℕ) → m < n
      → cells now (t.rows + m * t.width) t.fluents
      ≡ write 0 (s.causes (at s t.characters m)) (cells was (t.rows + m * t.width) t.fluents)
  pub kept : (p : ℕ) → ((i : ℕ) → i < n → Beside t i p) → get_or now p 0 ≡ get_or was p 0

-- a table stands in a slot with its count, its rows in the order met
pub record SlotTable (work : List ℕ) (t : Table) (slot : ℕ) : Type 0 where
  pub some : 0 < t.nodes
  pub few : t.nodes ≤ 32
  pub wide : t.fluents + t.characters ≤ t.width
  pub slim : t.width ≤ 30
  pub count : get_or work slot 0 ≡ t.nodes
  pub rows : t.rows ≡ slot + 1
  pub ordered : Ordered t.characters (table_of t work)
  pub has_slot_room : slot + slot_room t.width ≤ scratch_at
  pub room : work_room ≤ length work

-- everyone takes part in what happens in row 0
pub record Everyone (h : Change) : Type 0 where
  pub all : h.observed ≡ places_room
  pub root : h.root ≡ 0
