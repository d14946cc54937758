-- Nodes that are read, copied behind their count at the start of the work buffer: there is room for them, and the table
-- there is the nodes. Assumes nothing.
use Rattle.std.specs.Prelude.{ℕ, ◌+◌, ◌*◌, ◌≤◌, ◌≡◌, List, length}
use Rattle.std.proofs.Common.{mul-le-mul_right, arith}
use Rattle.pack.specs.Syntax.{Node}
use Rattle.pack.specs.Duties.Table.{table_of, TableFits}
use Rattle.pack.specs.Duties.Copy.{TableCopyable, TableCopied}
use Rattle.pack.specs.declared.table.Table.{Table}
use Rattle.pack.specs.Laws.Accepted.{copied_fits}
use Rattle.pack.specs.Laws.Rows.{belief_in_table}
use Rattle.chart.specs.Laws.Cells.{rows_most}
use Rattle.chart.specs.Call.{work_room}
use Rattle.chart.specs.Duties.Look.{NodesFrom}
use Rattle.chart.specs.Duties.Start.{Mergeable, Merged}

module _ {bytes : List ℕ} {at end nodes f c : ℕ} {t : List Node} (r : NodesFrom bytes at end nodes f c t) where
  pub read_slim : (f + c ≤ 30) × (c ≤ 6)
  read_slim = let s = r.shaped in (
    omega (arith, s.small.characters, s.small.fluents, s.fluents, s.characters),
    omega (arith, s.small.characters, s.characters),
  )

  -- a table is far smaller than the work buffer
  pub read_small : 1 + nodes * (f + c) ≤ 961
  read_small = omega (arith, rows_most r.few read_slim.0)

  abbrev pub read_table : Table
  read_table = record { rows = 1; nodes = nodes; fluents = f; characters = c; width = f + c }

  pub read_same : {work mid : List ℕ} → TableCopied bytes at nodes work mid 0 f c → table_of read_table mid ≡ t
  read_same x = x.table r.dimensions r.shaped t end r.reads

  -- and so is what is left of it when it is merged
  pub merged_small : {was now : List ℕ} {m : ℕ} → Merged was now nodes (f + c) f c m → m * (f + c) ≤ 960
  merged_small x = omega (arith, mul-le-mul_right (f + c) x.few, read_small)

  module _ {work : List ℕ} (room : work_room ≤ length work) where
    pub read_copies : TableCopyable bytes at nodes work 0 f c
    read_copies =
        record {
          dimensions = r.dimensions;
          sized = r.shaped;
          few = r.few;
          value = t;
          end = end;
          reads = r.reads;
          room = omega (arith, read_small, room);
        }

    module _ {mid : List ℕ} (x : TableCopied bytes at nodes work mid 0 f c) where
      pub read_fits : TableFits read_table mid
      read_fits = copied_fits bytes at nodes work mid 0 f c x r.dimensions r.shaped t end r.reads
          (omega (arith, read_small, room))

      pub read_merges : Mergeable mid nodes (f + c) f c
      read_merges = record {
        some = r.some;
        few = r.few;
        wide = omega arith;
        slim = read_slim.0;
        sound = record { beliefs = λ i k h l. belief_in_table read_table mid read_fits i k h l };
        room = omega (arith, room, x.long);
      }
