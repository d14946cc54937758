-- One level of the partition: rows classed by their values and by the classes of what they believe. Assumes nothing.
use Rattle.std.specs.Prelude.{◌≡◌, ◌↔◌, Option, MatchOption, List, ℕ, ◌+◌, ◌*◌, ◌<◌, ◌≤◌, get_or, length}
use Rattle.pack.specs.State.{node, target, meaning}
use Rattle.chart.specs.States.{AtMost}
use Rattle.chart.specs.Laws.Merged.{classes, Numbered}
use Rattle.chart.specs.Laws.Moore as moore
use Rattle.pack.specs.Duties.Table.{rows_at, Below, Above, Between}
use Rattle.chart.specs.Duties.Classed.{class_at, Classed}

-- r is the first number below n of which P does not hold
pub record FirstNot (P : ℕ → Type 0) (n r : ℕ) : Type 0 where
  pub within : r < n
  pub before : (q : ℕ) → q < r → P q
  pub here : P r → ⊥

-- P holds of the numbers below n, or r is the first of which it does not
abbrev pub Agrees : (P : ℕ → Type 0) (n : ℕ) → Option ℕ → Type 0
Agrees P n r = MatchOption r ((q : ℕ) → q < n → P q) (FirstNot P n)

-- the class of `count` whose leading row row i is in R with, where there is one
abbrev pub Found : (R : ℕ → ℕ → Type 0) (lead : ℕ → ℕ) (count i : ℕ) → Option ℕ → Type 0
Found R lead count i r = MatchOption r ((p : ℕ) → p < count → R (lead p) i → ⊥) (λ q. (q < count) × R (lead q) i)

-- row i is put into class q of `count`: the one whose leading row it is in R with, or the next where there is none
pub record Placed (R : ℕ → ℕ → Type 0) (lead : ℕ → ℕ) (count i q : ℕ) : Type 0 where
  pub within : q ≤ count
  pub known : q < count → R (lead q) i
  pub fresh : count ≤ q → (p : ℕ) → p < count → R (lead p) i → ⊥

-- bytes q from a on and from b on are the same
abbrev pub SameByte : List ℕ → ℕ → ℕ → ℕ → Type 0
SameByte bytes a b q = get_or bytes (a + q) 0 ≡ get_or bytes (b + q) 0

-- rows i and j have the same values
pub record SameValues (bytes : List ℕ) (w f t i j : ℕ) : Type 0 where
  pub byte : (q : ℕ) → q < f → SameByte bytes (t + i * w) (t + j * w) q

-- the beliefs of character d that stand from a on and from b on are of one class; the classes stand from k on
abbrev pub SameClass : List ℕ → ℕ → ℕ → ℕ → ℕ → Type 0
SameClass bytes a b k d = class_at bytes k (get_or bytes (a + d) 0) ≡ class_at bytes k (get_or bytes (b + d) 0)

-- rows i and j have the same values, and believe in rows of the same classes
pub record Alike (bytes : List ℕ) (w f c t k i j : ℕ) : Type 0 where
  pub values : SameValues bytes w f t i j
  pub beliefs : (d : ℕ) → d < c → SameClass bytes (t + i * w + f) (t + j * w + f) k d

-- row i and its class lie within the buffer, and so do the classes of what it believes
pub record RowOk (bytes : List ℕ) (w f c t k i : ℕ) : Type 0 where
  pub inside : t + i * w + w ≤ length bytes
  pub class : k + i < length bytes
  pub beliefs : (d : ℕ) → d < c → k + get_or bytes (t + i * w + f + d) 0 < length bytes

-- the rows that lead the first `count` classes stand from r on, and are to be held against row i
pub record Against (bytes : List ℕ) (w f c t k r count i : ℕ) : Type 0 where
  pub wide : f + c ≤ w
  pub room : r + count ≤ length bytes
  pub row : RowOk bytes w f c t k i
  pub leads : (q : ℕ) → q < count → RowOk bytes w f c t k (get_or bytes (r + q) 0)
  -- rows that are alike are of one class already
  pub finer : (q : ℕ) → q < count → Alike bytes w f c t k (get_or bytes (r + q) 0) i
      → class_at bytes k (get_or bytes (r + q) 0) ≡ class_at bytes k i
  -- and those of one class have the same values
  pub values : (q : ℕ) → q < count → class_at bytes k (get_or bytes (r + q) 0) ≡ class_at bytes k i
      → SameValues bytes w f t (get_or bytes (r + q) 0) i
  -- and the new class has no lower number
  pub since : (q : ℕ) → q < count → Alike bytes w f c t k (get_or bytes (r + q) 0) i → class_at bytes k i ≤ q

-- n rows from t on, then room for new classes from a on, the old classes from k on, and room for the leading rows from
-- r on
pub record Levels (bytes : List ℕ) (n w f c t a k r : ℕ) : Type 0 where
  pub few : n < 256
  pub wide : f + c ≤ w
  pub source : t + n * w ≤ a
  pub new : a + n ≤ k
  pub old : k + n ≤ r
  pub leads : r + n ≤ length bytes

-- rows that are alike are of one class already, those of one class have the same values, and the classes are numbered
-- by first row
pub record Finer (bytes : List ℕ) (n w f c t k : ℕ) : Type 0 where
  pub values : (i j : ℕ) → i < n → j < n → class_at bytes k i ≡ class_at bytes k j → SameValues bytes w f t i j
  pub numbered : Numbered (class_at bytes k) n
  pub same : (i j : ℕ) → i < n → j < n → Alike bytes w f c t k i j → class_at bytes k i ≡ class_at bytes k j

-- of the rows below i, `key` numbers the classes of R, `count` of them, by first row; `lead` has a row of each
pub record Sorted (R : ℕ → ℕ → Type 0) (key lead : ℕ → ℕ) (i count : ℕ) : Type 0 where
  pub same : (a b : ℕ) → a < i → b < i → (key a ≡ key b) ↔ R a b
  pub led : (q : ℕ) → q < count → (lead q < i) × (key (lead q) ≡ q)
  pub met : classes key i ≡ count
  pub numbered : Numbered key i

-- what `class_row` leaves: row i classed too
pub record RowClassed (was now : List ℕ) (w f c t a k r i count more : ℕ) : Type 0 where
  pub class : ℕ
  pub is : Placed (Alike was w f c t k) (λ q. get_or was (r + q) 0) count i class
  pub here : class_at now a i ≡ class
  pub old : class < count → more ≡ count
  pub new : count ≤ class → (more ≡ count + 1) × (get_or now (r + count) 0 ≡ i)
  pub classed : (j : ℕ) → j < i → class_at now a j ≡ class_at was a j
  pub led : (q : ℕ) → q < count → get_or now (r + q) 0 ≡ get_or was (r + q) 0
  pub low : Below was now a
  pub mid : Between was now (a + i + 1) r
  pub high : Above was now (r + count + 1)

-- what `level` leaves: the classes of the next level from a on
pub record Leveled (was now : List ℕ) (n w f c t a k r count : ℕ) : Type 0 where
  pub sorted : Sorted (Alike was w f c t k) (class_at now a) (λ q. get_or now (r + q) 0) n count
  pub fewer : count ≤ n
  pub low : Below was now a
  pub mid : Between was now (a + n) r
  pub high : Above was now (r + n)

-- the classes from k on are those of chains shorter than `depth`
abbrev pub Exact : List ℕ → (n w f c t k depth : ℕ) → Type 0
Exact bytes n w f c t k depth =
    moore.Exact c (λ i. (node (rows_at bytes w f c t n) i).values) (target (rows_at bytes w f c t n)) n depth
    (class_at bytes k)

-- what `partition` leaves: where there are at most `limit` classes, what each row means, from k on; else there are more
-- states than that
pub record Parted (was now : List ℕ) (n w f c t a k r limit count : ℕ) : Type 0 where
  pub few : count ≤ limit → Classed now n w f c t k × (classes (class_at now k) n ≡ count)
  pub many : limit < count → AtMost limit c (meaning c (rows_at now w f c t n) 0) → ⊥
  pub low : Below was now a
  pub high : Above was now (r + n)
