-- What the action leaves, and the triggers after it, is within the ranges. Assumes nothing.
use Prim.Native.Nat.{ℕ, ◌+◌}
use mathlib.Core.Path.{subst}
use lib.ListN.{get_or}
use Rattle.pack.specs.Grammar.{rules_at}
use Rattle.pack.specs.Duties.Judge.{Tells}
use Rattle.planner.specs.Inner.Range.{could_exceed, could_pass}
use Rattle.planner.proofs.Pruning.{try_writable, try_hopeless}
use Rattle.planner.proofs.prune.could_leave.Goals as goal

pub returns : goal.returns
returns c =
    let told = subst (λ (k : ℕ). Tells rules_at (could_exceed (could_pass c.widen_by_triggers.new.lows c.widen_by_triggers.new.highs) c.args.h.base) c.args.pack.now (get_or c.args.places.now (320 + k) 0) c.could_exceed.result) c.rules_of.ensures c.could_exceed.ensures in
    try_hopeless _ _ _ _ _ _ c.requires c.copy_bytes.ensures c.write_effects.ensures c.widen_by_triggers.ensures told

pub write_effects-requires : goal.write_effects-requires
write_effects-requires c = try_writable _ _ _ _ _ _ c.requires c.copy_bytes.auto.buffer
