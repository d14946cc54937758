-- A table in the bytes of a lent buffer: rows of `width` bytes, the fluents' values and then the characters' beliefs,
-- one byte each.
use Rattle.std.specs.Prelude.{ℕ, zero, suc, ◌+◌, ◌*◌, ◌<◌, ◌≤◌, ◌≡◌, List, [], ◌∷◌, ◌++◌, length, get_or}
use Rattle.pack.specs.Syntax.{Node}
use Rattle.pack.specs.State.{State, meaning, Closed}
use Rattle.pack.specs.declared.table.Table.{Table}

-- the first n of g
unfoldable pub upto : {A : Type 0} → (ℕ → A) → ℕ → List A
upto g zero = []
upto g (suc n) = upto g n ++ (g n ∷ [])

-- the k bytes from a on
unfoldable pub cells : List ℕ → ℕ → ℕ → List ℕ
cells bytes a k = upto (λ i. get_or bytes (a + i) 0) k

-- the row that begins at a, of f values and c beliefs
unfoldable pub row_at : List ℕ → (f c a : ℕ) → Node
row_at bytes f c a = record { values = cells bytes a f; beliefs = cells bytes (a + f) c }

-- the n rows of w bytes from a on
unfoldable pub rows_at : List ℕ → (w f c a n : ℕ) → List Node
rows_at bytes w f c a n = upto (λ i. row_at bytes f c (a + i * w)) n

-- the table of so many rows from a place on, of so many values and beliefs each
abbrev pub table_at : (rows nodes fluents characters : ℕ) → Table
table_at rows nodes fluents characters =
    record {
      rows = rows;
      nodes = nodes;
      fluents = fluents;
      characters = characters;
      width = fluents + characters;
    }

-- the nodes that a table in a buffer has
abbrev pub table_of : Table → List ℕ → List Node
table_of t buffer = rows_at buffer t.width t.fluents t.characters t.rows t.nodes

-- the state that one of them means
abbrev pub state_of : Table → List ℕ → ℕ → State
state_of t buffer node = meaning t.characters (table_of t buffer) node

-- the table lies in the buffer, and each belief names one of its rows
pub record TableFits (t : Table) (buffer : List ℕ) : Type 0 where
  pub wide : t.fluents + t.characters ≡ t.width
  pub inside : t.rows + t.nodes * t.width ≤ length buffer
  pub closed : Closed t.characters (table_of t buffer)

-- bytes below a place, from a place on, and between two, as they were
abbrev pub Below : (was now : List ℕ) → ℕ → Type 0
Below was now a = (p : ℕ) → p < a → get_or now p 0 ≡ get_or was p 0

abbrev pub Above : (was now : List ℕ) → ℕ → Type 0
Above was now b = (p : ℕ) → b ≤ p → get_or now p 0 ≡ get_or was p 0

abbrev pub Between : (was now : List ℕ) → (a b : ℕ) → Type 0
Between was now a b = (p : ℕ) → a ≤ p → p < b → get_or now p 0 ≡ get_or was p 0

-- the bytes from a place on
unfoldable pub bytes_at : List ℕ → ℕ → ℕ → List ℕ
bytes_at s at zero = []
bytes_at s at (suc k) = get_or s at 0 ∷ bytes_at s (at + 1) k
