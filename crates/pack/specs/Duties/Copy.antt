-- What copying nodes into a table asks and promises.
use Rattle.std.specs.Prelude.{ℕ, ◌+◌, ◌*◌, ◌-◌, ◌<◌, ◌≤◌, ◌≡◌, List, length, get_or}
use Rattle.pack.specs.Syntax.{Node}
use Rattle.pack.specs.Reading.{done, many}
use Rattle.pack.specs.Grammar.{Dimensions, node_at}
use Rattle.pack.specs.Duties.Table.{row_at, rows_at, Below, Above}
use Rattle.pack.specs.Duties.Judge.{Small}
use Rattle.pack.specs.Duties.Write.{RowOnly}

pub record Copyable (s : List ℕ) (from : ℕ) (buffer : List ℕ) (to count less : ℕ) : Type 0 where
  pub source : (i : ℕ) → i < count → from + i < length s
  pub enough : (i : ℕ) → i < count → less ≤ get_or s (from + i) 0
  pub room : to + count ≤ length buffer

pub record Copied (s : List ℕ) (from : ℕ) (was now : List ℕ) (to count less : ℕ) : Type 0 where
  pub copied : (i : ℕ) → i < count → get_or now (to + i) 0 ≡ get_or s (from + i) 0 - less
  pub only : RowOnly was now to count

-- dimensions with so many fluents and characters
pub record Shaped (d : Dimensions) (F C : ℕ) : Type 0 where
  pub small : Small d
  pub fluents : length d.domains ≡ F
  pub characters : d.characters ≡ C

pub record RowCopyable (s : List ℕ) (from : ℕ) (buffer : List ℕ) (to fluents characters : ℕ) : Type 0 where
  pub dimensions : Dimensions
  pub sized : Shaped dimensions fluents characters
  pub nodes : ℕ
  pub few : nodes ≤ 32
  pub value : Node
  pub end : ℕ
  pub reads : node_at dimensions nodes s from ≡ done value end
  pub room : to + (fluents + characters) ≤ length buffer

-- the row is the node that is read
pub record RowCopied (s : List ℕ) (from : ℕ) (was now : List ℕ) (to fluents characters : ℕ) : Type 0 where
  pub row : (d : Dimensions) → Shaped d fluents characters → (nodes : ℕ) → nodes ≤ 32 → (x : Node) (n : ℕ)
      → node_at d nodes s from ≡ done x n → row_at now fluents characters to ≡ x
  pub only : RowOnly was now to (fluents + characters)

pub record TableCopyable (s : List ℕ) (at nodes : ℕ) (buffer : List ℕ) (base fluents characters : ℕ) : Type 0 where
  pub dimensions : Dimensions
  pub sized : Shaped dimensions fluents characters
  pub few : nodes ≤ 32
  pub value : List Node
  pub end : ℕ
  pub reads : many (node_at dimensions nodes) nodes s at ≡ done value end
  pub room : (base + 1) + nodes * (fluents + characters) ≤ length buffer

-- the table behind the count is the nodes that are read
pub record TableCopied (s : List ℕ) (at nodes : ℕ) (was now : List ℕ) (base fluents characters : ℕ) : Type 0 where
  pub count : get_or now base 0 ≡ nodes
  pub table : (d : Dimensions) → Shaped d fluents characters → (t : List Node) (n : ℕ)
      → many (node_at d nodes) nodes s at ≡ done t n
      → rows_at now (fluents + characters) fluents characters (base + 1) nodes ≡ t
  pub long : length now ≡ length was
  pub below : Below was now base
  pub above : Above was now ((base + 1) + nodes * (fluents + characters))
