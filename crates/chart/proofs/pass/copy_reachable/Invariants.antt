-- The rows below i are filled, and those that they name have numbers. Assumes nothing.
use Rattle.std.proofs.Common.{◌≡◌, ◌-◌, length}
use Rattle.chart.proofs.CopyPass.{Copying}
use Rattle.chart.proofs.pass.copy_reachable.Given as goal

abbrev pub invariant-loop-i : goal.invariant-loop-i
invariant-loop-i l =
    (length l.work ≡ length l.initial.work) ×
    Copying l.initial.work l.work l.s.nodes l.s.width l.s.fluents l.s.characters l.s.rows l.m l.t l.root l.i l.count

abbrev pub decreases-loop-i : goal.decreases-loop-i
decreases-loop-i l = l.s.nodes - l.i
