-- What looking a value up in a chart asks and promises. Assumes nothing.
use Rattle.std.specs.Prelude.{◌≡◌, List, ℕ, ◌<◌, ◌≤◌, length, get_or}
use Rattle.pack.specs.Syntax.{Node}
use Rattle.pack.specs.State.{Valid, meaning}
use Rattle.pack.specs.Reading.{done, many}
use Rattle.pack.specs.Grammar.{Dimensions, node_at}
use Rattle.pack.specs.Duties.Copy.{Shaped}
use Rattle.chart.specs.Call.{work_room, cleared}

-- nodes that are read from a place on, and where they end
pub record NodesFrom (bytes : List ℕ) (at end nodes fluents characters : ℕ) (t : List Node) : Type 0 where
  pub dimensions : Dimensions
  pub shaped : Shaped dimensions fluents characters
  pub some : 0 < nodes
  pub few : nodes ≤ 32
  pub reads : many (node_at dimensions nodes) nodes bytes at ≡ done t end

-- those of a chart stand behind its count, which is one byte, up to its end
abbrev pub NodesRead : (chart : List ℕ) (nodes fluents characters : ℕ) (t : List Node) → Type 0
NodesRead chart nodes fluents characters t = NodesFrom chart 1 (length chart) nodes fluents characters t

pub record Lookable (chart : List ℕ) (nodes fluents characters : ℕ) (chain : List ℕ) (fluent : ℕ)
    (work : List ℕ) : Type 0 where
  pub table : List Node
  pub read : NodesRead chart nodes fluents characters table
  pub valid : Valid characters chain
  pub there : fluent < fluents
  pub room : work_room ≤ length work

pub record Looked (chart : List ℕ) (nodes fluents characters : ℕ) (chain : List ℕ) (fluent : ℕ) (was now : List ℕ)
    (r : ℕ) : Type 0 where
  pub value : (t : List Node) → NodesRead chart nodes fluents characters t
      → r ≡ get_or (meaning characters t 0 chain) fluent 0
  pub work : now ≡ cleared was
