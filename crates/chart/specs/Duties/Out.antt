-- Rows of bytes put from one buffer into another, their beliefs with a number added and one taken away: a table written
-- out as a chart's bytes (1 and 0). Assumes nothing.
use Rattle.std.specs.Prelude.{◌≡◌, List, ℕ, ◌+◌, ◌*◌, ◌-◌, ◌<◌, ◌≤◌, get_or}
use Rattle.pack.specs.Duties.Table.{Below, Above}

-- a byte of src as it is put
abbrev pub shifted : List ℕ → (more less p : ℕ) → ℕ
shifted src more less p = (get_or src p 0 + more) - less

-- and that it is a byte
abbrev pub Shifts : List ℕ → (more less p : ℕ) → Type 0
Shifts src more less p = (less ≤ get_or src p 0 + more) × (get_or src p 0 + more < 256)

-- the k bytes of src from `from` on stand from `to` on
pub record PartPut (src was now : List ℕ) (from to k more less : ℕ) : Type 0 where
  pub part : (q : ℕ) → q < k → get_or now (to + q) 0 ≡ shifted src more less (from + q)
  pub low : Below was now to
  pub high : Above was now (to + k)

-- a row: its values, and its beliefs shifted
pub record RowPutIn (src was now : List ℕ) (from to f c more less : ℕ) : Type 0 where
  pub values : (q : ℕ) → q < f → get_or now (to + q) 0 ≡ get_or src (from + q) 0
  pub beliefs : (d : ℕ) → d < c → get_or now (to + f + d) 0 ≡ shifted src more less (from + f + d)
  pub low : Below was now to
  pub high : Above was now (to + f + c)

-- the first i rows
pub record RowsPut (src was now : List ℕ) (w f c from to more less i : ℕ) : Type 0 where
  pub values : (j q : ℕ) → j < i → q < f → get_or now (to + j * w + q) 0 ≡ get_or src (from + j * w + q) 0
  pub beliefs : (j d : ℕ) → j < i → d < c
      → get_or now (to + j * w + f + d) 0 ≡ shifted src more less (from + j * w + f + d)
  pub low : Below was now to
  pub high : Above was now (to + i * w)
