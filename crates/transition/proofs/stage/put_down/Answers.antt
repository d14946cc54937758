-- The count, and the rows behind it. Assumes nothing.
use mathlib.Core.Path.{◌∙◌}
use lib.ListN.{length-set}
use native.Mathlib.Omega.{arith}
use Rattle.transition.proofs.stage.put_down.Goals as goal

pub overflow_cast-work : goal.overflow_cast-work
overflow_cast-work c = omega (arith, c.requires)

pub bounds-work-slot : goal.bounds-work-slot
bounds-work-slot c = omega (arith, c.requires)

pub overflow_add-slot : goal.overflow_add-slot
overflow_add-slot c = omega (arith, c.requires)

pub overflow_mul-n : goal.overflow_mul-n
overflow_mul-n c = omega (arith, c.requires)

pub copy_part-requires : goal.copy_part-requires
copy_part-requires c =
    simp length-set ((omega (arith, c.requires), omega (arith, c.requires), omega (arith, c.requires)))

pub shape_of-work : goal.shape_of-work
shape_of-work c = c.copy_part.auto.work ∙ simp length-set

pub returns : goal.returns
returns c = c.copy_part.ensures
