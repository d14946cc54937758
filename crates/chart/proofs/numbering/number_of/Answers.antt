-- The number that the slot has, or the next. Assumes nothing.
use Rattle.std.proofs.Common.{ℕ, ◌<◌, length-set, arith}
use Rattle.chart.specs.Laws.Numbering.{room, given_old, given_new}
use Rattle.chart.proofs.numbering.number_of.Goals as goal
use Rattle.chart.proofs.numbering.number_of.Goals.{In_default}

-- a number is left
left : (c : In_default) → c.args.count < c.args.size
left c =
    room c.args.work.now c.args.m c.args.size c.args.count c.requires.numbering c.args.x (omega arith) (omega (arith, c.in_default.ensures))

pub returns-in-Some : goal.returns-in-Some
returns-in-Some c =
    given_old c.args.work.now c.args.m c.args.size c.args.count c.args.x _ c.requires.numbering (omega arith) (omega (arith, c.in-Some.ensures))

pub overflow_cast-work : goal.overflow_cast-work
overflow_cast-work c = omega (arith, left c)

pub bounds-work-m-3 : goal.bounds-work-m-3
bounds-work-m-3 c = omega (arith, left c, length-set {A = ℕ})

pub returns : goal.returns
returns c =
    given_new c.args.work.now c.args.m c.args.size c.args.count c.args.x (omega arith) c.requires.numbering (omega arith) (omega (arith, c.in_default.ensures)) (left c)
