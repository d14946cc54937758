-- One of the two. Assumes nothing.
use mathlib.Core.Path.{sym, ap}
use Rattle.transition.specs.Inner.Change.{row_after}
use Rattle.transition.specs.Laws.ChangedRows.{put_is}
use Rattle.transition.proofs.change.put_row.Goals as goal

pub put_acted-requires : goal.put_acted-requires
put_acted-requires c = (c.requires.0, c.requires.1, c.requires.3)

pub put_old-requires : goal.put_old-requires
put_old-requires c =
    ((c.requires.0.0, c.requires.0.1.tabled), c.requires.1, c.requires.2 c.if-s.false, c.requires.3)

pub returns-then-s : goal.returns-then-s
returns-then-s c =
    λ s x. put_is s _ _ (sym (ap (row_after c.args.s.row) c.if-s.true)) (c.put_acted.ensures s x)

pub returns-else-s : goal.returns-else-s
returns-else-s c =
    λ s x. put_is s _ _ (sym (ap (row_after c.args.s.row) c.if-s.false)) (c.put_old.ensures s x.tabled)
