-- Loaded, played, written out, cleared. Assumes nothing.
use mathlib.Core.Path.{refl, ap, ◌∙◌}
use native.Mathlib.Omega.{arith}
use Rattle.chart.specs.Laws.LoadedNodes.{read_copies}
use Rattle.transition.specs.Duties.Play.{stop_of}
use Rattle.transition.proofs.StepOnCharts.{step_setting, step_refused, step_writes, step_left}
use Rattle.transition.proofs.play.play.Goals as goal

pub copy_table-requires : goal.copy_table-requires
copy_table-requires c =
    let (p, (T, (n, x))) = c.requires in
    read_copies x.read x.has_work_room

pub step_slot-requires : goal.step_slot-requires
step_slot-requires c =
    let (p, (T, (n, x))) = c.requires in
    (p, (T, (n, (step_setting x c.copy_table.ensures, x.there, x.read.some))))

pub clear-requires : goal.clear-requires
clear-requires c =
    let (p, (T, (n, x))) = c.requires in
    omega (arith, x.has_work_room, c.step_slot.auto.work, c.copy_table.ensures.long)

pub returns-in-Err : goal.returns-in-Err
returns-in-Err c =
    let l = c.copy_table.ensures in
    let s = c.step_slot in
    λ p T n x. step_refused x l (c.in-Err.ensures p T n (step_setting x l) x.there x.read.some) c.in-Err.stop refl c.clear.ensures (c.clear.auto.work ∙ s.auto.work ∙ l.long)

pub bounds-work-961 : goal.bounds-work-961
bounds-work-961 c =
    let (p, (T, (n, x))) = c.requires in
    omega (arith, x.has_work_room, c.step_slot.auto.work, c.copy_table.ensures.long)

pub write_chart-length-requires : goal.write_chart-length-requires
write_chart-length-requires c =
    let (p, (T, (n, x))) = c.requires in
    let l = c.copy_table.ensures in
    let s = c.step_slot in
    let written = step_writes x l (s.ensures p T n (step_setting x l) x.there x.read.some) (ap stop_of c.in_default.is) c.from-rows.ensures (s.auto.work ∙ l.long) in
    record { room = written.0; sound = written.1 }

pub clear-requires-2 : goal.clear-requires-2
clear-requires-2 c =
    let (p, (T, (n, x))) = c.requires in
    omega (arith, x.has_work_room, c.step_slot.auto.work, c.copy_table.ensures.long)

pub returns : goal.returns
returns c =
    let l = c.copy_table.ensures in
    let s = c.step_slot in
    let o = c.write_chart-length in
    let z = c.clear-2 in
    λ p T n x. step_left x l (s.ensures p T n (step_setting x l) x.there x.read.some) (ap stop_of c.in_default.is) c.from-rows.ensures o.ensures o.auto.out z.ensures (z.auto.work ∙ s.auto.work ∙ l.long)
