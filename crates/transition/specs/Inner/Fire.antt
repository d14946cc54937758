-- The triggers of a pack, found where they are marked, and which of them holds in each row. Assumes nothing.
use Rattle.std.specs.Prelude.{◌≡◌, Bool, true, false, List, ℕ, ◌+◌, ◌*◌, ◌<◌, ◌≤◌, length, get_or}
use Rattle.std.proofs.Math.Option.{Option}
use Rattle.pack.specs.Syntax.{Trigger, Node}
use Rattle.pack.specs.State.{State, meaning}
use Rattle.pack.specs.Grammar.{longest_pack, Dimensions}
use Rattle.pack.specs.Duties.Contents.{TriggerStands}
use Rattle.pack.specs.Duties.Places.{places_room}
use Rattle.pack.specs.declared.table.Table.{Table}
use Rattle.transition.specs.Happening.{firing, effects_of}
use Rattle.transition.specs.Duties.Cause.{EffectsAt, Tabled}

-- the triggers of a pack, at the places marked for them
pub record Triggered (d : Dimensions) (pack places : List ℕ) (ts : List Trigger) (count : ℕ) : Type 0 where
  pub long : length ts ≡ count
  pub few : count ≤ 16
  pub marked : places_room ≤ length places
  pub short : length pack ≤ longest_pack
  pub stands : (i : ℕ) → i < count → (x : Trigger) → TriggerStands d pack places (288 + 2 * i) (get_or ts i x)

-- at r stand the effects of the trigger that fires in z; it is behind the pack's end where none does
pub record FireIs (d : Dimensions) (pack : List ℕ) (ts : List Trigger) (z : State) (r : ℕ) : Type 0 where
  pub effects : EffectsAt d pack r (effects_of (firing ts z))
  pub loud : r < length pack → firing ts z ≡ Option.none → ⊥
  pub quiet : length pack ≤ r → firing ts z ≡ Option.none

-- triggers and a table
pub record Firable (pack places : List ℕ) (triggers : ℕ) (work : List ℕ) (t : Table) : Type 0 where
  pub dimensions : Dimensions
  pub table : List Node
  pub tabled : Tabled dimensions table work t
  pub ts : List Trigger
  pub triggered : Triggered dimensions pack places ts triggers

abbrev pub Fires : (pack places : List ℕ) (triggers : ℕ) (work : List ℕ) (t : Table) (m r : ℕ) → Type 0
Fires pack places triggers work t m r =
    (d : Dimensions) (table : List Node) (ts : List Trigger) → Tabled d table work t
    → Triggered d pack places ts triggers → FireIs d pack ts (meaning t.characters table m) r

-- the places of what fires in the first n rows; and whether anything does
pub record FiredBelow (d : Dimensions) (pack : List ℕ) (ts : List Trigger) (C : ℕ) (table : List Node) (n : ℕ)
    (effects : List ℕ) (any : Bool) : Type 0 where
  pub each : (m : ℕ) → m < n → FireIs d pack ts (meaning C table m) (get_or effects m 0)
  pub some : any ≡ true → ((m : ℕ) → m < n → firing ts (meaning C table m) ≡ Option.none) → ⊥
  pub none : any ≡ false → (m : ℕ) → m < n → firing ts (meaning C table m) ≡ Option.none

-- in all rows of whatever table that is, by whatever triggers stand there
abbrev pub FiresAll : (pack places : List ℕ) (triggers : ℕ) (work : List ℕ) (t : Table) (effects : List ℕ) (r : Bool)
    → Type 0
FiresAll pack places triggers work t effects r =
    (d : Dimensions) (table : List Node) (ts : List Trigger) → Tabled d table work t
    → Triggered d pack places ts triggers
    → FiredBelow d pack ts t.characters table t.nodes effects r
