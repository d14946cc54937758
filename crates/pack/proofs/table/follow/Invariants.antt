-- Where what is left leads from `there` is where the whole leads. Assumes nothing.
use Prim.Native.Nat.{◌+◌, ◌-◌, ◌<◌}
use mathlib.Core.Path.{◌≡◌}
use Rattle.pack.specs.State.{walk, Valid}
use Rattle.pack.specs.Duties.Table.{table_of, bytes_at}
use Rattle.pack.proofs.table.follow.Given as goal

abbrev pub invariant-loop-c : goal.invariant-loop-c
invariant-loop-c l = record {
  same : walk (table_of l.t l.buffer) l.node (bytes_at l.s l.at l.count)
      ≡ walk (table_of l.t l.buffer) l.there (bytes_at l.s (l.at + l.c-index) (l.count - l.c-index));
  near : l.there < l.t.nodes;
  valid : Valid l.t.characters (bytes_at l.s (l.at + l.c-index) (l.count - l.c-index));
}
