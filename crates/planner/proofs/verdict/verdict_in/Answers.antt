-- The chart laid out as a table, an empty memory, the verdict, and all cleared. Assumes nothing.
use mathlib.Core.Path.{subst}
use native.Mathlib.Omega.{arith}
use Rattle.chart.specs.Laws.LoadedNodes.{read_copies}
use Rattle.chart.specs.Duties.Put.{Cleared}
use Rattle.planner.proofs.TrueMemory.{fixed}
use Rattle.planner.proofs.ExplainedCall.{judge_ready, judge_memory, judge_high, judge_verdict}
use Rattle.planner.proofs.verdict.verdict_in.Goals as goal

pub returns : goal.returns
returns c =
    λ th T x.
    let f = subst (Cleared c.copy_table.new.buffer c.clear.new.work c.args.p.memory) (fixed x.laid) c.clear.ensures in
    judge_verdict x c.copy_table.ensures (judge_high x c.copy_table.ensures f c.clear.auto.work) (c.explained-verdict.ensures th T (judge_ready x c.copy_table.ensures f c.clear.auto.work) (judge_memory x c.copy_table.ensures f c.clear.auto.work)) c.clear-2.ensures (omega (arith, c.clear-2.auto, c.explained-verdict.auto, c.clear.auto, c.copy_table.ensures.long))

pub copy_table-requires : goal.copy_table-requires
copy_table-requires c =
    let (th, (T, x)) = c.requires in
    read_copies x.read x.room

pub explained-verdict-requires : goal.explained-verdict-requires
explained-verdict-requires c =
    let (th, (T, x)) = c.requires in
    let z = subst (Cleared c.copy_table.new.buffer c.clear.new.work c.args.p.memory) (fixed x.laid) c.clear.ensures in
    ((th, (T, (judge_ready x c.copy_table.ensures z c.clear.auto.work, judge_memory x c.copy_table.ensures z c.clear.auto.work))), x.who, x.what, x.slots, record { some = x.foreseen.0; few = x.foreseen.1 })
