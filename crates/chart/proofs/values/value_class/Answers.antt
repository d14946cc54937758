-- From class `next` on no leading row has the values of row i. Assumes nothing.
use Rattle.std.proofs.Common.{◌≡◌, suc, arith}
use Rattle.chart.proofs.Classes.{refuted}
use Rattle.chart.proofs.ValueClasses.{same_decides, looking_start, looking_next}
use Rattle.chart.proofs.values.value_class.Goals as goal
use Rattle.chart.proofs.values.value_class.Goals.{After-from-j, In-Some}

-- a class is looked at
class : (c : After-from-j) → c.loop-p.next ≡ suc c.in-Some.p
class c =
    omega (arith, c.in-Some.ensures)

pub loop-p-init : goal.loop-p-init
loop-p-init c = looking_start c.requires

pub loop-p-preserved : goal.loop-p-preserved
loop-p-preserved c =
    let apart = refuted (same_decides c.same_part.ensures) c.if-same_part.false in
    let next = looking_next c.requires c.loop-p.invariant (class (goal.at.loop-p-preserved c).After-from-j) in
    next (c.from-j.ensures) apart (c.from-next.ensures)
