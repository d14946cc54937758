-- Pairs of rows in the order met, breadth first. A pair is marked where it was met, and is an entry of five bytes: its
-- rows, the number of the entry that it was met from, in two bytes, and the character that leads there. Assumes
-- nothing.
use Rattle.std.specs.Prelude.{◌≡◌, ◌⊎◌, ◌≢◌, Option, MatchOption, List, [], ◌∷◌, ◌++◌, ℕ, ◌+◌, ◌*◌, ◌<◌, ◌≤◌, get_or}
use Rattle.std.specs.Prelude.{length}
use Rattle.pack.specs.Syntax.{Node}
use Rattle.pack.specs.State.{Valid, meaning}
use Rattle.pack.specs.Duties.Table.{cells, rows_at, Below, Above}
use Rattle.chart.specs.Earliest.{Earliest}
use Rattle.chart.specs.Laws.Breadth.{Met}
use Rattle.chart.specs.Duties.Level.{FirstNot, SameByte}

-- where the marks of pairs stand, and the pairs in the order met
abbrev pub marks_at : ℕ
marks_at = 2048

abbrev pub met_at : ℕ
met_at = 6144

-- the rows of entry e; the entries stand from q on
abbrev pub left_at : List ℕ → ℕ → ℕ → ℕ
left_at bytes q e = get_or bytes (q + e * 5) 0

-- the second of them
abbrev pub right_at : List ℕ → ℕ → ℕ → ℕ
right_at bytes q e = get_or bytes (q + e * 5 + 1) 0

-- the entry that it was met from
abbrev pub from_at : List ℕ → ℕ → ℕ → ℕ
from_at bytes q e = get_or bytes (q + e * 5 + 2) 0 * 256 + get_or bytes (q + e * 5 + 3) 0

-- and by which character
abbrev pub char_at : List ℕ → ℕ → ℕ → ℕ
char_at bytes q e = get_or bytes (q + e * 5 + 4) 0

-- 1 where the pair of rows x and y was met, else 0; the marks stand from m on
abbrev pub mark_at : List ℕ → ℕ → ℕ → ℕ → ℕ
mark_at bytes m x y = get_or bytes (m + x * 64 + y) 0

-- n rows from t on, then a mark for each pair from m on, and room for as many entries from q on
pub record Paired (bytes : List ℕ) (n w f c t m q : ℕ) : Type 0 where
  pub few : n ≤ 64
  pub wide : f + c ≤ w
  pub narrow : c < 256
  pub source : t + n * w ≤ m
  pub marks : m + 4096 ≤ q
  pub room : q + 20480 ≤ length bytes

-- `count` entries: the pairs met from rows r and s on
pub record Pairs (T : List Node) (r s : ℕ) (bytes : List ℕ) (n c m q count done d : ℕ) : Type 0 where
  pub met : Met T c r s (left_at bytes q) (right_at bytes q) (from_at bytes q) (char_at bytes q) count done d
  pub inside : (e : ℕ) → e < count → (left_at bytes q e < n) × (right_at bytes q e < n)
  pub marked : (e : ℕ) → e < count → mark_at bytes m (left_at bytes q e) (right_at bytes q e) ≡ 1
  pub listed : (x y : ℕ) → x < 64 → y < 64
      → (mark_at bytes m x y ≡ 0) ⊎ ((e : ℕ) × (e < count) × (left_at bytes q e ≡ x) × (right_at bytes q e ≡ y))
  pub distinct : (a b : ℕ) → a < b → b < count → left_at bytes q a ≡ left_at bytes q b
      → right_at bytes q a ≡ right_at bytes q b → ⊥

-- the pairs met from those of the first entry on
abbrev pub PairsIn : List ℕ → (n w f c t m q count done d : ℕ) → Type 0
PairsIn bytes n w f c t m q count done d =
    Pairs (rows_at bytes w f c t n) (left_at bytes q 0) (right_at bytes q 0) bytes n c m q count done d

-- entry `count` is written, and its pair marked
pub record EntryPut (was now : List ℕ) (m q count x y from d : ℕ) : Type 0 where
  pub mark : mark_at now m x y ≡ 1
  pub left : left_at now q count ≡ x
  pub right : right_at now q count ≡ y
  pub from_entry : from_at now q count ≡ from
  pub char : char_at now q count ≡ d
  pub kept : (p : ℕ) → p ≢ m + x * 64 + y → (p < q + count * 5) ⊎ (q + count * 5 + 5 ≤ p)
      → get_or now p 0 ≡ get_or was p 0

-- what `meet` leaves: an entry more if the pair was not met before
pub record PairMet (was now : List ℕ) (m q count x y from d r : ℕ) : Type 0 where
  pub again : mark_at was m x y ≢ 0 → (r ≡ count) × (now ≡ was)
  pub new : mark_at was m x y ≡ 0 → (r ≡ count + 1) × EntryPut was now m q count x y from d

-- what `meet_first` leaves: the only entry is of rows x and y
pub record FirstMet (was now : List ℕ) (m q x y : ℕ) : Type 0 where
  pub left : left_at now q 0 ≡ x
  pub right : right_at now q 0 ≡ y
  pub mark : mark_at now m x y ≡ 1
  pub rest : (u v : ℕ) → u < 64 → v < 64 → ((u ≡ x) × (v ≡ y) → ⊥) → mark_at now m u v ≡ 0
  pub low : Below was now m
  pub high : Above was now (q + 5)

-- what `meet_beliefs` leaves: all characters of entry `done` followed
pub record Followed (was now : List ℕ) (n w f c t m q done count r : ℕ) : Type 0 where
  pub pairs : Pairs (rows_at was w f c t n) (left_at was q 0) (right_at was q 0) now n c m q r done c
  pub more : count ≤ r
  pub kept : (e : ℕ) → e < count → (left_at now q e ≡ left_at was q e) × (right_at now q e ≡ right_at was q e)
  pub low : Below was now m
  pub high : Above was now (q + 20480)

-- entry k is the first whose rows have other values
pub record FirstOther (T : List Node) (r s : ℕ) (bytes : List ℕ) (n c m q k : ℕ) : Type 0 where
  pub count : ℕ
  pub pairs : Pairs T r s bytes n c m q count k 0
  pub there : k < count
  pub first : Earliest (λ ch. Valid c ch × (meaning c T r ch ≢ meaning c T s ch)) (pairs.met.way k)

-- what `seek` leaves: the first entry whose rows have other values, and the first value that is another in them; or
-- none has
pub record Sought (was now : List ℕ) (n w f c t m q : ℕ) (r : Option (ℕ × ℕ)) : Type 0 where
  pub found : MatchOption r
      (meaning c (rows_at was w f c t n) (left_at was q 0) ≡ meaning c (rows_at was w f c t n) (right_at was q 0))
      (λ p. FirstOther (rows_at was w f c t n) (left_at was q 0) (right_at was q 0) now n c m q p.0
      × FirstNot (SameByte now (t + left_at now q p.0 * w) (t + right_at now q p.0 * w)) f p.1)
  pub low : Below was now m
  pub high : Above was now (q + 20480)

-- the chains by which the entries up to e were met
pub record Ways (bytes : List ℕ) (q e : ℕ) : Type 0 where
  pub way : ℕ → List ℕ
  pub root : way 0 ≡ []
  pub on : (i : ℕ) → 0 < i → i ≤ e
      → (from_at bytes q i < i) × (way i ≡ way (from_at bytes q i) ++ (char_at bytes q i ∷ []))
  pub room : q + e * 5 + 5 ≤ length bytes

-- their chain has room
pub record Writable (bytes chain : List ℕ) (q e : ℕ) : Type 0 where
  pub ways : Ways bytes q e
  pub room : length (ways.way e) ≤ length chain

-- how many characters it has
abbrev pub LongWay : List ℕ → (q e k : ℕ) → Type 0
LongWay bytes q e k = (x : Ways bytes q e) → length (x.way e) ≡ k

-- what `write_way` leaves: the chain by which entry e was met, of k characters
pub record WayWritten (bytes was now : List ℕ) (q e k : ℕ) : Type 0 where
  pub chain : (x : Ways bytes q e) → length (x.way e) ≡ k → cells now 0 k ≡ x.way e
  pub high : Above was now k
