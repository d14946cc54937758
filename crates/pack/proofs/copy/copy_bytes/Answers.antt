-- The first i bytes are copied, and nothing else is changed. Assumes nothing.
use native.Mathlib.Omega.{arith}
use mathlib.Core.Path.{◌≡◌, refl}
use Rattle.pack.specs.Laws.CopiedRows.{copying_start, copying_more}
use Rattle.pack.proofs.copy.copy_bytes.Goals as goal

pub loop-i-init : goal.loop-i-init
loop-i-init c = copying_start _ _ _ _ _ _

pub overflow_add-buffer : goal.overflow_add-buffer
overflow_add-buffer c = omega (arith, c.requires.source c.loop-i.i c.loop-i-test.true)

pub bounds-s-from : goal.bounds-s-from
bounds-s-from c = c.requires.source c.loop-i.i c.loop-i-test.true

pub overflow_sub-buffer : goal.overflow_sub-buffer
overflow_sub-buffer c = omega (arith, c.requires.enough c.loop-i.i c.loop-i-test.true)

pub overflow_add-buffer-in-loop-i : goal.overflow_add-buffer-in-loop-i
overflow_add-buffer-in-loop-i c = omega (arith, c.requires.room)

pub bounds-buffer-to : goal.bounds-buffer-to
bounds-buffer-to c = omega (arith, c.requires.room, c.loop-i.invariant.only.long)

pub loop-i-preserved : goal.loop-i-preserved
loop-i-preserved c =
    copying_more _ _ _ _ _ _ _ c.loop-i.i _ c.loop-i.invariant c.loop-i-test.true (omega (arith, c.requires.room, c.loop-i.invariant.only.long)) refl

pub shape_of-buffer : goal.shape_of-buffer
shape_of-buffer c = c.loop-i.invariant.only.long

pub returns : goal.returns
returns c =
    let same : c.loop-i.i ≡ c.args.count = (omega arith) in
    record { copied = λ i l. c.loop-i.invariant.copied i (omega arith); only = c.loop-i.invariant.only }
