-- Each consenter is one byte. Assumes nothing.
use native.Mathlib.Omega.{arith}
use mathlib.Core.Path.{sym, ◌∙◌}
use Rattle.pack.specs.Laws.OneByte.{consenter_bytes}
use Rattle.pack.proofs.write.consenter.Goals as goal

pub overflow_add-at : goal.overflow_add-at
overflow_add-at c =
    omega (arith, ((consenter_bytes c.requires.0.over c.requires.0.small c.args.s.now c.args.at c.requires.0.value c.requires.0.end c.requires.0.reads).each c.args.i c.requires.1).1)

pub overflow_add-at-2 : goal.overflow_add-at-2
overflow_add-at-2 c =
    omega (arith, ((consenter_bytes c.requires.0.over c.requires.0.small c.args.s.now c.args.at c.requires.0.value c.requires.0.end c.requires.0.reads).each c.args.i c.requires.1).1)

pub bounds-s-at : goal.bounds-s-at
bounds-s-at c =
    ((consenter_bytes c.requires.0.over c.requires.0.small c.args.s.now c.args.at c.requires.0.value c.requires.0.end c.requires.0.reads).each c.args.i c.requires.1).1

pub returns : goal.returns
returns c =
    λ d small cs n e. sym (((consenter_bytes d small c.args.s.now c.args.at cs n e).each c.args.i c.requires.1).0 ∙ sym c.from.ensures)
