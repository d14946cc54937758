-- An action and the rounds after it, in a slot of the work buffer. Assumes nothing.
use Rattle.std.specs.Prelude.{◌≡◌, true, false, ◌≢◌, List, ℕ, suc, ◌+◌, ◌<◌, ◌≤◌}
use Rattle.std.specs.Prelude.{length, get_or, Result, Ok, Err, Option, Some, None}
use Rattle.pack.specs.Syntax.{Effect, Node, Theory}
use Rattle.pack.specs.State.{State, meaning}
use Rattle.pack.specs.Grammar.{longest_pack}
use Rattle.pack.specs.Duties.Answer.{dims}
use Rattle.pack.specs.Duties.Judge.{Small}
use Rattle.pack.specs.Duties.Contents.{TheoryFound}
use Rattle.pack.specs.Duties.Places.{places_room}
use Rattle.pack.specs.Duties.Table.{rows_at}
use Rattle.pack.specs.declared.table.Table.{Table}
use Rattle.chart.specs.Chart.{Written, Starts}
use Rattle.pack.specs.Refusals.{stop_number}
use Rattle.pack.specs.declared.refusal.Stop.{Stop}
use Rattle.transition.specs.Happening.{act, action_of, Settles, Stops, Plays, Refuses}
use Rattle.transition.specs.Duties.Cause.{told, Tabled}
use Rattle.transition.specs.Duties.Stage.{StageRoom, SlotOnly, InSlot}

-- a theory, found in a pack
pub record Theorized (p : Theory) (pack places : List ℕ) (actions triggers : ℕ) : Type 0 where
  pub small : Small (dims p.characters p.domains)
  pub found : TheoryFound (dims p.characters p.domains) pack places p actions triggers
  pub short : length pack ≤ longest_pack
  pub marked : places_room ≤ length places

-- a character that no effect is meant for, or none where there is none
pub record Untold (es : List Effect) (C : ℕ) (u : Option ℕ) : Type 0 where
  pub one : (c : ℕ) → u ≡ Some c → (c < C) × (told es (suc c) ≡ false)
  pub none : u ≡ None → (d : ℕ) → d < C → told es (suc d) ≡ true

-- a theory and a table
pub record Setting (p : Theory) (T : List Node) (pack places : List ℕ) (actions triggers : ℕ) (work : List ℕ)
    (t : Table) (slot : ℕ) : Type 0 where
  pub theorized : Theorized p pack places actions triggers
  pub tabled : Tabled (dims p.characters p.domains) T work t
  pub room : StageRoom work t slot

abbrev pub Actable : (pack places : List ℕ) (action : ℕ) (work : List ℕ) (t : Table) (root slot : ℕ) → Type 0
Actable pack places action work t root slot =
    (p : Theory) × ((T : List Node)
    × ((actions : ℕ)
    × ((triggers : ℕ)
    × (Setting p T pack places actions triggers work t slot × (action < actions) × (root < t.nodes)))))

abbrev pub Playable : (pack places : List ℕ) (triggers action : ℕ) (work : List ℕ) (t : Table) (root slot : ℕ) → Type 0
Playable pack places triggers action work t root slot =
    (p : Theory) × ((T : List Node)
    × ((actions : ℕ) × (Setting p T pack places actions triggers work t slot × (action < actions) × (root < t.nodes))))

-- the table stands in the slot, as a written chart
pub record Slotted (T : List Node) (work : List ℕ) (t : Table) (slot : ℕ) : Type 0 where
  pub count : get_or work slot 0 ≡ t.nodes
  pub rows : t.rows ≡ slot + 1
  pub written : Written t.characters T

abbrev pub Settleable : (pack places : List ℕ) (triggers : ℕ) (work : List ℕ) (t : Table) (slot : ℕ) → Type 0
Settleable pack places triggers work t slot =
    (p : Theory) × ((T : List Node)
    × ((actions : ℕ) × (Setting p T pack places actions triggers work t slot × Slotted T work t slot)))

-- part 1 is in the slot, or leaves more than 32 states
pub record Acted (z : State) (t : Table) (was now : List ℕ) (slot : ℕ) (r : Result ℕ Stop) : Type 0 where
  pub holds : InSlot t z now slot r
  pub only : SlotOnly t.width was now slot

abbrev pub ActsIn : (pack places : List ℕ) (action root : ℕ) (t : Table) (was now : List ℕ) (slot : ℕ)
    → Result ℕ Stop → Type 0
ActsIn pack places action root t was now slot r =
    (p : Theory) (T : List Node) (actions triggers : ℕ) → Setting p T pack places actions triggers was t slot
    → action < actions → root < t.nodes
    → Acted (act (action_of p action) (meaning t.characters T root)) t was now slot r

-- in the slot stands the written chart of s
pub record Left (s : State) (t : Table) (work : List ℕ) (slot : ℕ) : Type 0 where
  pub few : get_or work slot 0 ≤ 32
  pub starts : Starts t.characters s
      (rows_at work t.width t.fluents t.characters (slot + 1) (get_or work slot 0))

-- the number of what a step hands back: 0 where nothing stops it
abbrev pub stop_of : Result (Unit {0}) Stop → ℕ
stop_of (Ok done) = 0
stop_of (Err why) = stop_number why

-- it settles in what the slot holds, or stops
pub record SettledIn (p : Theory) (z : State) (t : Table) (was now : List ℕ) (slot r : ℕ) : Type 0 where
  pub settles : r ≡ 0 → (s : State) × Settles p 16 z s × Left s t now slot
  pub stops : r ≢ 0 → Stops p 16 z r
  pub only : SlotOnly t.width was now slot

abbrev pub SettlesIn : (pack places : List ℕ) (triggers : ℕ) (t : Table) (was now : List ℕ) (slot : ℕ)
    → Result (Unit {0}) Stop → Type 0
SettlesIn pack places triggers t was now slot r =
    (p : Theory) (T : List Node) (actions : ℕ) → Setting p T pack places actions triggers was t slot
    → Slotted T was t slot
    → SettledIn p (meaning t.characters T 0) t was now slot (stop_of r)

-- it plays, and the slot holds what it leaves, or it is refused
pub record PlayedIn (p : Theory) (z : State) (a : ℕ) (t : Table) (was now : List ℕ) (slot r : ℕ) : Type 0 where
  pub plays : r ≡ 0 → (s : State) × Plays p z a s × Left s t now slot
  pub refuses : r ≢ 0 → Refuses p z a r
  pub only : SlotOnly t.width was now slot

abbrev pub PlaysIn : (pack places : List ℕ) (triggers action root : ℕ) (t : Table) (was now : List ℕ) (slot : ℕ)
    → Result (Unit {0}) Stop → Type 0
PlaysIn pack places triggers action root t was now slot r =
    (p : Theory) (T : List Node) (actions : ℕ) → Setting p T pack places actions triggers was t slot → action < actions
    → root < t.nodes
    → PlayedIn p (meaning t.characters T root) action t was now slot (stop_of r)
