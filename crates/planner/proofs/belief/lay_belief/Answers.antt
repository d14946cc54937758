-- The rows that are reached are copied into the scratch, and then into the slot. Assumes nothing.
use Prim.Native.Nat.{◌+◌}
use mathlib.Core.Path.{sym, ap, ◌∙◌, subst}
use native.Mathlib.Omega.{arith}
use lib.ListN.{length-set}
use Rattle.pack.specs.declared.table.Table.{Table}
use Rattle.chart.specs.Duties.Numbers.{Laid, Sound, Copied}
use Rattle.chart.specs.Duties.OfTable.{of_table}
use Rattle.planner.proofs.Beliefs.{belief_laid, belief_sound, belief-at}
use Rattle.planner.proofs.belief.lay_belief.Goals as goal

pub returns : goal.returns
returns c =
    let made = subst (λ (t : Table). of_table (Copied c.args.work.now c.copy_reachable-nodes.new.work) t 40304 40756 c.args.row c.copy_reachable-nodes.result) c.table_in-t.ensures c.copy_reachable-nodes.ensures in
    let more = c.copy_part.auto.work ∙ length-set c.copy_reachable-nodes.new.work (c.args.slot + c.args.p.stride) c.copy_reachable-nodes.result in
    λ pack places th T x m. belief-at c.args.slot x c.requires.2 made c.copy_reachable-nodes.auto.work c.copy_part.ensures more m

pub copy_reachable-nodes-requires : goal.copy_reachable-nodes-requires
copy_reachable-nodes-requires c =
    let (pack, (places, (th, (T, (x, m))))) = c.requires.0 in
    let is = sym c.table_in-t.ensures in
    (subst (λ (t : Table). of_table (Laid c.args.work.now) t 40304 40756) is (belief_laid c.args.slot x c.requires.2), subst (λ (t : Table). of_table (Sound c.args.work.now) t) is (belief_sound c.args.slot x c.requires.2), omega (arith, c.requires.1, ap (λ (t : Table). t.nodes) is))
