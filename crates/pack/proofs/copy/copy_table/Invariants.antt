-- The rows that are copied and the nodes that are left are the nodes that are read. Assumes nothing.
use Prim.Native.Nat.{ℕ, ◌+◌, ◌*◌, ◌-◌, ◌≤◌}
use mathlib.Core.Path.{◌≡◌}
use mathlib.Core.List.{List}
use lib.ListN.{length}
use Rattle.pack.specs.Grammar.{Dimensions, node_at}
use Rattle.pack.specs.Duties.Table.{rows_at, Below, Above}
use Rattle.pack.specs.Syntax.{Node}
use Rattle.pack.specs.Duties.Copy.{Shaped}
use Rattle.pack.specs.Reading.{done, many}
use Rattle.pack.specs.Laws.CopiedRows.{Rowing}
use Rattle.pack.proofs.copy.copy_table.Given as goal

abbrev pub invariant-loop-i : goal.invariant-loop-i
invariant-loop-i l =
    ((d : Dimensions) → Shaped d l.fluents l.characters → (t : List Node) (end : ℕ) → many (node_at d l.nodes) l.nodes l.s l.at ≡ done t end → Rowing d l.s l.from l.nodes (l.nodes - l.i) (rows_at l.buffer (l.fluents + l.characters) l.fluents l.characters (l.base + 1) l.i) t end) × (length l.buffer ≡ length l.initial.buffer) × Below l.initial.buffer l.buffer (l.base + 1) × Above l.initial.buffer l.buffer ((l.base + 1) + l.nodes * (l.fluents + l.characters)) × (l.from ≤ 18446744073709551615)
