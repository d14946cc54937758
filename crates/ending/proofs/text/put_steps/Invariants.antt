-- The lines of the steps passed are put. Assumes nothing.
use Rattle.std.proofs.Common.{◌*◌, ◌≤◌, ◌≡◌, length, take}
use Rattle.ending.specs.Text.{steps}
use Rattle.ending.specs.Put.{Put}
use Rattle.ending.proofs.text.put_steps.Given as goal

abbrev pub invariant-loop-i : goal.invariant-loop-i
invariant-loop-i l = (l.i ≤ l.count) × (length l.text ≡ length l.fn.text) × (l.end ≤ l.i * 42)
    × Put (steps 1 (take l.i l.list)) l.fn.text 0 l.text l.end
