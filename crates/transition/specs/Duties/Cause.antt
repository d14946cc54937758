-- Effects at a place of the pack, and who takes part in what happens. Assumes nothing.
use Rattle.std.specs.Prelude.{◌≡◌, Bool, true, ◌≢◌, List, [], ℕ, ◌+◌, ◌<◌, ◌≤◌, length, get_or, eqb}
use Rattle.pack.specs.Syntax.{Condition, Effect, Node}
use Rattle.pack.specs.State.{State, meaning}
use Rattle.pack.specs.Condition.{holds, write}
use Rattle.pack.specs.Grammar.{Dimensions, condition_at, effects_at}
use Rattle.pack.specs.Duties.Contents.{Gives}
use Rattle.pack.specs.Duties.Effects.{some_of}
use Rattle.pack.specs.Duties.Places.{places_room}
use Rattle.pack.specs.Duties.Judge.{Small, Over}
use Rattle.pack.specs.Duties.Table.{cells, table_of, TableFits}
use Rattle.pack.specs.Duties.Write.{RowOnly}
use Rattle.pack.specs.declared.table.Table.{Table}

-- some of the effects are meant for whom
abbrev pub told : List Effect → ℕ → Bool
told es whom = some_of (λ e. eqb e.whom whom) es

-- at a place of the pack stand these effects; behind its end stand none
pub record EffectsAt (d : Dimensions) (pack : List ℕ) (at : ℕ) (es : List Effect) : Type 0 where
  pub none : length pack ≤ at → es ≡ []
  pub some : at < length pack → Gives (effects_at d) pack at es

-- effects stand at a place, over small dimensions
pub record Telling (pack : List ℕ) (at : ℕ) : Type 0 where
  pub dimensions : Dimensions
  pub small : Small dimensions
  pub effects : List Effect
  pub stand : EffectsAt dimensions pack at effects

-- what holds of whatever effects stand there
abbrev pub OfEffects : (pack : List ℕ) (at : ℕ) (Q : List Effect → Type 0) → Type 0
OfEffects pack at Q = (d : Dimensions) → Small d → (es : List Effect) → EffectsAt d pack at es → Q es

-- and a row of values to write into
pub record Tellable (pack : List ℕ) (at : ℕ) (work : List ℕ) (row fluents : ℕ) : Type 0 where
  pub telling : Telling pack at
  pub wide : length telling.dimensions.domains ≡ fluents
  pub room : row + fluents ≤ length work

-- the values of a row are what the effects at a place write, if they are meant for whom
pub record ToldWritten (pack : List ℕ) (at whom : ℕ) (was now : List ℕ) (row fluents : ℕ) : Type 0 where
  pub values : (d : Dimensions) → Small d → length d.domains ≡ fluents → (es : List Effect) → EffectsAt d pack at es
      → cells now row fluents ≡ write whom es (cells was row fluents)
  pub only : RowOnly was now row fluents

-- who takes part: everyone, or each character whose observation condition holds; these are found from place `observed`
-- on
pub record Observes (d : Dimensions) (pack places : List ℕ) (observed C : ℕ) (takes : State → ℕ → Bool) : Type 0 where
  pub everyone : observed ≡ places_room → (z : State) (c : ℕ) → takes z c ≡ true
  pub few : observed ≤ places_room
  pub inside : observed ≢ places_room → observed + C ≤ length places
  pub condition : observed ≢ places_room → (c : ℕ) → c < C → Condition
  pub stands : (h : observed ≢ places_room) (c : ℕ) (l : c < C)
      → Gives (condition_at d) pack (get_or places (observed + c) 0) (condition h c l)
  pub judged : (h : observed ≢ places_room) (c : ℕ) (l : c < C) (z : State) → takes z c ≡ holds z (condition h c l)

-- a table in a buffer, over the dimensions d
pub record Tabled (d : Dimensions) (table : List Node) (work : List ℕ) (t : Table) : Type 0 where
  pub over : Over d t
  pub fits : TableFits t work
  pub same : table_of t work ≡ table
  pub few : t.nodes ≤ 32
  pub some : 0 < t.nodes

-- what a character believes in a row may take part
pub record Watched (pack places : List ℕ) (observed : ℕ) (work : List ℕ) (t : Table) (m c : ℕ) : Type 0 where
  pub dimensions : Dimensions
  pub table : List Node
  pub stands : Tabled dimensions table work t
  pub takes : State → ℕ → Bool
  pub observes : Observes dimensions pack places observed t.characters takes
  pub row : m < t.nodes
  pub character : c < t.characters

-- whether it does
abbrev pub Took : (pack places : List ℕ) (observed : ℕ) (work : List ℕ) (t : Table) (m c : ℕ) → Bool → Type 0
Took pack places observed work t m c r =
    (d : Dimensions) (table : List Node) (takes : State → ℕ → Bool) → Tabled d table work t
    → Observes d pack places observed t.characters takes → r ≡ takes (meaning t.characters table m) c
