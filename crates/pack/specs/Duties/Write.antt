-- What writing effects into a row asks and promises: the row's values become what `write` makes of them, and nothing
-- else changes.
use Rattle.std.specs.Prelude.{ℕ, ◌+◌, ◌≤◌, ◌≡◌, cond, List, length, set, eqb}
use Rattle.pack.specs.Syntax.{Effect}
use Rattle.pack.specs.Reading.{done, Reader}
use Rattle.pack.specs.Grammar.{Dimensions, effect_at, effects_at}
use Rattle.pack.specs.Condition.{write}
use Rattle.pack.specs.Duties.Table.{cells, Below, Above}
use Rattle.pack.specs.Duties.Judge.{Small}

-- at a place, something is read over small dimensions with so many fluents, and a row of values lies in a buffer
pub record Writable {A : Type 0} (p : Dimensions → Reader A) (s : List ℕ) (at : ℕ) (buffer : List ℕ)
    (row fluents : ℕ) : Type 0 where
  pub dimensions : Dimensions
  pub small : Small dimensions
  pub wide : length dimensions.domains ≡ fluents
  pub value : A
  pub end : ℕ
  pub reads : p dimensions s at ≡ done value end
  pub inside : row + fluents ≤ length buffer

-- only the row's values change
pub record RowOnly (was now : List ℕ) (row fluents : ℕ) : Type 0 where
  pub long : length now ≡ length was
  pub below : Below was now row
  pub above : Above was now (row + fluents)

-- one effect is written where it is meant for whom
pub record EffectWritten (s : List ℕ) (at whom : ℕ) (was now : List ℕ) (row fluents : ℕ) : Type 0 where
  pub values : (d : Dimensions) → Small d → length d.domains ≡ fluents → (e : Effect) (n : ℕ)
      → effect_at d s at ≡ done e n
      → cells now row fluents
      ≡ cond (eqb e.whom whom) (set (cells was row fluents) e.fluent e.value) (cells was row fluents)
  pub only : RowOnly was now row fluents

-- the row's values are what the effects write
pub record EffectsWritten (s : List ℕ) (at whom : ℕ) (was now : List ℕ) (row fluents : ℕ) : Type 0 where
  pub values : (d : Dimensions) → Small d → length d.domains ≡ fluents → (es : List Effect) (n : ℕ)
      → effects_at d s at ≡ done es n
      → cells now row fluents ≡ write whom es (cells was row fluents)
  pub only : RowOnly was now row fluents
