-- Rows with class bytes, and the merged table that is written of them. Assumes nothing.
use Rattle.std.specs.Prelude.{◌≡◌, ◌↔◌, List, ℕ, ◌+◌, ◌*◌, ◌<◌, ◌≤◌, get_or, length}
use Rattle.pack.specs.State.{meaning}
use Rattle.chart.specs.Chart.{Ordered, Written}
use Rattle.chart.specs.Laws.Merged.{Numbered}
use Rattle.pack.specs.Duties.Table.{rows_at, Below, Above}

-- the class of row i: the classes stand from k on
abbrev pub class_at : List ℕ → ℕ → ℕ → ℕ
class_at bytes k i = get_or bytes (k + i) 0

-- the c bytes from `to` on are the classes of those from `from` on
pub record Mapped (was now : List ℕ) (from to k c : ℕ) : Type 0 where
  pub part : (d : ℕ) → d < c → get_or now (to + d) 0 ≡ class_at was k (get_or was (from + d) 0)
  pub low : Below was now to
  pub high : Above was now (to + c)

-- the row from `to` on is the one from `from` on, its beliefs by class
pub record RowPut (was now : List ℕ) (from to k f c : ℕ) : Type 0 where
  pub values : (q : ℕ) → q < f → get_or now (to + q) 0 ≡ get_or was (from + q) 0
  pub beliefs : (d : ℕ) → d < c → get_or now (to + f + d) 0 ≡ class_at was k (get_or was (from + f + d) 0)
  pub low : Below was now to
  pub high : Above was now (to + f + c)

-- row i is written if its class is new
pub record ClassPut (was now : List ℕ) (w f c t k u i count r : ℕ) : Type 0 where
  pub again : class_at was k i < count → (r ≡ count) × (now ≡ was)
  pub new : count ≤ class_at was k i → (r ≡ count + 1) × RowPut was now (t + i * w) (u + count * w) k f c

-- n rows from t on, then their classes from k on, each below some number, then room for so many rows from u on
pub record Room (bytes : List ℕ) (n w f c t k u : ℕ) : Type 0 where
  pub wide : f + c ≤ w
  pub source : t + n * w ≤ k
  pub classes : k + n ≤ u
  pub most : ℕ
  pub below : (i : ℕ) → i < n → class_at bytes k i < most
  pub target : u + most * w ≤ length bytes

-- the rows stand in the order met, and the classes are what they mean, numbered by first row
pub record Classed (bytes : List ℕ) (n w f c t k : ℕ) : Type 0 where
  pub ordered : Ordered c (rows_at bytes w f c t n)
  pub exact : (i j : ℕ) → i < n → j < n
      → (class_at bytes k i ≡ class_at bytes k j)
      ↔ (meaning c (rows_at bytes w f c t n) i ≡ meaning c (rows_at bytes w f c t n) j)
  pub numbered : Numbered (class_at bytes k) n

-- what `write_merged` leaves: r rows from u on, the written chart of what the source means
pub record WrittenOut (was now : List ℕ) (n w f c t u r : ℕ) : Type 0 where
  pub few : r ≤ n
  pub written : Written c (rows_at now w f c u r)
  pub means : meaning c (rows_at now w f c u r) 0 ≡ meaning c (rows_at was w f c t n) 0
  pub low : Below was now u
  pub high : Above was now (u + r * w)
