-- The count stands before the consenters. Assumes nothing.
use mathlib.Core.Path.{sym, ◌∙◌}
use Rattle.pack.specs.Laws.OneByte.{consenter_bytes}
use Rattle.pack.proofs.write.consenters.Goals as goal

pub bounds-s-at : goal.bounds-s-at
bounds-s-at c =
    (consenter_bytes c.requires.over c.requires.small c.args.s.now c.args.at c.requires.value c.requires.end c.requires.reads).inside

pub returns : goal.returns
returns c =
    λ d small cs n e. sym ((consenter_bytes d small c.args.s.now c.args.at cs n e).long ∙ sym c.from.ensures)
