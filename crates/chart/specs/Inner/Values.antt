-- The first level of the partition: rows classed by their values, the classes found by a mark of the values. Assumes
-- nothing.
use Rattle.std.specs.Prelude.{◌≡◌, List, ℕ, suc, ◌+◌, ◌*◌, ◌%◌, ◌<◌, ◌≤◌, get_or, length}
use Rattle.chart.specs.Laws.Sums.{sum_of}
use Rattle.chart.specs.Duties.Classed.{class_at}
use Rattle.chart.specs.Duties.Level.{Placed, SameValues, Sorted}
use Rattle.pack.specs.Duties.Table.{Below, Above}

-- the mark of the f bytes from a on
abbrev pub hash_of : List ℕ → ℕ → ℕ → ℕ
hash_of bytes a f = sum_of 2 bytes a f % 131

-- the mark of the row that leads class q; the leading rows stand from r on
abbrev pub lead_mark : List ℕ → (w f t r : ℕ) → ℕ → ℕ
lead_mark bytes w f t r q = hash_of bytes (t + get_or bytes (r + q) 0 * w) f

-- of the first m classes the last with the mark b has the number x - 1; none has it where x is 0
pub record Last (mark : ℕ → ℕ) (m b x : ℕ) : Type 0 where
  pub within : x ≤ m
  pub has : (p : ℕ) → x ≡ suc p → mark p ≡ b
  pub others : (p : ℕ) → x ≤ p → p < m → mark p ≡ b → ⊥

-- the leading rows of `count` classes are to be held against row i: from a on stands for each class the last one before
-- it of its mark, and `last` is the last of row i's
pub record Chain (bytes : List ℕ) (w f t a r i count last : ℕ) : Type 0 where
  pub row : t + i * w + f ≤ length bytes
  pub leads : (q : ℕ) → q < count → t + get_or bytes (r + q) 0 * w + f ≤ length bytes
  pub room : r + count ≤ length bytes
  pub above : a + count ≤ length bytes
  pub nexts : (q : ℕ) → q < count → Last (lead_mark bytes w f t r) q (lead_mark bytes w f t r q)
      (get_or bytes (a + q) 0)
  pub ends : Last (lead_mark bytes w f t r) count (hash_of bytes (t + i * w) f) last

-- of `count` classes the last of each mark stands in `heads`, and from a on for each class the last before it of its
-- mark
pub record Chained (bytes heads : List ℕ) (w f t a r count : ℕ) : Type 0 where
  pub marks : length heads ≡ 131
  pub heads_last : (b : ℕ) → b < 131 → Last (lead_mark bytes w f t r) count b (get_or heads b 0)
  pub nexts : (q : ℕ) → q < count → Last (lead_mark bytes w f t r) q (lead_mark bytes w f t r q)
      (get_or bytes (a + q) 0)

-- of n rows those below i are classed, and rows lead the `count` classes
pub record Valuable (bytes : List ℕ) (n w f t a k r i count : ℕ) : Type 0 where
  pub few : n < 256
  pub wide : f ≤ w
  pub source : t + n * w ≤ a
  pub nexts : a + n ≤ k
  pub classes : k + n ≤ r
  pub room : r + n ≤ length bytes
  pub row : i < n
  pub fewer : count ≤ i
  pub leads : (q : ℕ) → q < count → get_or bytes (r + q) 0 < i

-- what `value_row` leaves: row i classed too
pub record RowValued (was now heads : List ℕ) (w f t a k r i count more : ℕ) : Type 0 where
  pub class : ℕ
  pub is : Placed (SameValues was w f t) (λ q. get_or was (r + q) 0) count i class
  pub here : class_at now k i ≡ class
  pub old : class < count → more ≡ count
  pub new : count ≤ class → (more ≡ count + 1) × (get_or now (r + count) 0 ≡ i)
  pub classed : (j : ℕ) → j < i → class_at now k j ≡ class_at was k j
  pub led : (q : ℕ) → q < count → get_or now (r + q) 0 ≡ get_or was (r + q) 0
  pub chained : Chained now heads w f t a r more
  pub low : Below was now a
  pub high : Above was now (r + count + 1)

-- what `value_level` leaves: the classes of equal values from k on
pub record Valued (was now : List ℕ) (n w f t a k r count : ℕ) : Type 0 where
  pub sorted : Sorted (SameValues was w f t) (class_at now k) (λ q. get_or now (r + q) 0) n count
  pub fewer : count ≤ n
  pub low : Below was now a
  pub high : Above was now (r + n)
