-- The first i bytes are copied, and nothing else is changed. Assumes nothing.
use Rattle.pack.specs.Laws.CopiedRows.{Copying}
use Rattle.pack.proofs.copy.copy_bytes.Given as goal

abbrev pub invariant-loop-i : goal.invariant-loop-i
invariant-loop-i l =
    Copying l.s l.from l.initial.buffer l.buffer l.to l.count l.less l.i
