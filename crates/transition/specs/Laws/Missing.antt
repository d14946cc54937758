-- Why Step's numbers tell an action that isn't there apart: `Refuses` alone would say 10 of it. Assumes nothing.
use Rattle.std.specs.Prelude.{ℕ, ◌≤◌, length}
use Rattle.std.proofs.Common.{ap}
use Rattle.std.proofs.Math.ListN.{get_or-eq_default}
use Rattle.pack.specs.Condition.{holds}
use Rattle.pack.specs.State.{State}
use Rattle.pack.specs.Syntax.{Theory, Action}
use Rattle.transition.specs.Happening.{nothing, Refuses}

-- an action that isn't there is refused with 10 by `Refuses` alone, so 9 has to be told apart from it
pub ten_for_none : (p : Theory) (s : State) (a : ℕ) → length p.actions ≤ a → Refuses p s a 10
unfolding holds
ten_for_none p s a h =
    Refuses.forbidden (ap (λ (x : Action). holds s x.condition) (get_or-eq_default p.actions nothing h))
