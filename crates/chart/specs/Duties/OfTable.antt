-- A contract over plain numbers, of those that a table has, and of those that say where its classes stand. Assumes
-- nothing.
use Rattle.std.specs.Prelude.{List, ℕ, ◌+◌, get_or}
use Rattle.pack.specs.declared.table.Table.{Table}
use Rattle.chart.specs.declared.values.Regions.{Regions}

-- how many rows, their width, how many values and beliefs they have, and where they begin
abbrev pub of_table : {A : Type 1} → (ℕ → ℕ → ℕ → ℕ → ℕ → A) → Table → A
of_table P t = P t.nodes t.width t.fluents t.characters t.rows

-- the same for what does not depend on how many rows there are
abbrev pub of_rows : {A : Type 1} → (ℕ → ℕ → ℕ → ℕ → A) → Table → A
of_rows P t = P t.width t.fluents t.characters t.rows

-- the same for what depends on their values only
abbrev pub of_values : {A : Type 1} → (ℕ → ℕ → ℕ → A) → Table → A
of_values P t = P t.width t.fluents t.rows

-- where the classes of the level stand, the classes so far, and the first row of each
abbrev pub in_regions : {A : Type 1} → (ℕ → ℕ → ℕ → A) → Regions → A
in_regions P g = P g.level g.classes g.firsts

-- the first row of class q
abbrev pub first_of : List ℕ → Regions → ℕ → ℕ
first_of bytes g q = get_or bytes (g.firsts + q) 0
