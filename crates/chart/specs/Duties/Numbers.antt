-- Numbers given on demand: of `size` slots, each has a number (kept one higher, 0 for none), and each number the slot
-- that it was given to. Assumes nothing.
use Rattle.std.specs.Prelude.{◌≡◌, List, ℕ, suc, ◌+◌, ◌*◌, ◌<◌, ◌≤◌, max, get_or, length}
use Rattle.pack.specs.State.{meaning}
use Rattle.chart.specs.Chart.{meets, Fresh, Ordered}
use Rattle.pack.specs.Duties.Table.{cells, rows_at, Below, Above, Between}

-- one more than slot x's number; and the slot that number i was given to
abbrev pub slot_at : List ℕ → ℕ → ℕ → ℕ
slot_at bytes m x = get_or bytes (m + x) 0

abbrev pub key_at : List ℕ → ℕ → ℕ → ℕ → ℕ
key_at bytes m size i = get_or bytes (m + size + i) 0

-- the numbers below `count` are given
pub record Numbering (bytes : List ℕ) (m size count : ℕ) : Type 0 where
  pub there : (i : ℕ) → i < count → key_at bytes m size i < size
  pub back : (i : ℕ) → i < count → slot_at bytes m (key_at bytes m size i) ≡ suc i
  pub known : (x r : ℕ) → x < size → slot_at bytes m x ≡ suc r → (r < count) × (key_at bytes m size r ≡ x)

-- what `number_of` leaves: r is x's number, given before or the next
pub record Given (was now : List ℕ) (m size count x r : ℕ) : Type 0 where
  pub numbering : Numbering now m size (max count (suc r))
  pub next : r ≤ count
  pub few : r < size
  pub key : key_at now m size r ≡ x
  pub kept : (i : ℕ) → i < count → key_at now m size i ≡ key_at was m size i
  pub low : Below was now m
  pub high : Above was now (m + size + size)

-- what `name_beliefs` leaves: the c bytes from `to` on name the slots `slots`
pub record Named (was now : List ℕ) (m size count more to c : ℕ) (slots : ℕ → ℕ) : Type 0 where
  pub numbering : Numbering now m size more
  pub fresh : Fresh count (cells now to c)
  pub more_met : meets count (cells now to c) ≡ more
  pub names : (d : ℕ) → d < c → key_at now m size (get_or now (to + d) 0) ≡ slots d
  pub below : (d : ℕ) → d < c → get_or now (to + d) 0 < size
  pub kept : (i : ℕ) → i < count → key_at now m size i ≡ key_at was m size i
  pub low : Below was now m
  pub mid : Between was now (m + size + size) to
  pub high : Above was now (to + c)

-- what `fill_row` leaves: a row of f values and c beliefs from `to` on
pub record RowFilled (was now : List ℕ) (m size count more to w f c : ℕ) (values : List ℕ)
    (slots : ℕ → ℕ) : Type 0 where
  pub holds : cells now to f ≡ values
  pub numbering : Numbering now m size more
  pub fresh : Fresh count (cells now (to + f) c)
  pub more_met : meets count (cells now (to + f) c) ≡ more
  pub names : (d : ℕ) → d < c → key_at now m size (get_or now (to + f + d) 0) ≡ slots d
  pub kept : (i : ℕ) → i < count → key_at now m size i ≡ key_at was m size i
  pub low : Below was now m
  pub mid : Between was now (m + size + size) to
  pub high : Above was now (to + w)

-- what `fill_row` leaves: row i of those from t on is the row from s on that number i was given to
abbrev pub RowCopied : (was now : List ℕ) → (n w f c s m t i count r : ℕ) → Type 0
RowCopied was now n w f c s m t i count r =
    let from = s + key_at was m n i * w in
    RowFilled was now m n count r (t + i * w) w f c (cells was from f) (λ d. get_or was (from + f + d) 0)

-- where things lie: n rows from s on, then the numbers and the keys from m on, then room for n rows from t on
pub record Laid (bytes : List ℕ) (n w f c s m t : ℕ) : Type 0 where
  pub few : n < 256
  pub wide : f + c ≤ w
  pub source : s + n * w ≤ m
  pub scratch : m + n + n ≤ t
  pub target : t + n * w ≤ length bytes

-- each belief names one of the n rows
pub record Sound (bytes : List ℕ) (n w f c s : ℕ) : Type 0 where
  pub beliefs : (i k : ℕ) → i < n → k < c → get_or bytes (s + i * w + f + k) 0 < n

-- what the copy leaves: r rows from t on, in the order met breadth first, that mean what row x of the source means
pub record Copied (was now : List ℕ) (n w f c s m t x r : ℕ) : Type 0 where
  pub some : 0 < r
  pub few : r ≤ n
  pub ordered : Ordered c (rows_at now w f c t r)
  pub means : meaning c (rows_at now w f c t r) 0 ≡ meaning c (rows_at was w f c s n) x
  pub low : Below was now m
  pub high : Above was now (t + n * w)
