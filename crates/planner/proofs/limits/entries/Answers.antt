-- The tests are those of the definition. Assumes nothing.
use mathlib.Core.Path.{sym, ap, ◌∙◌}
use mathlib.Core.Bool.{Bool}
use native.Mathlib.Omega.{arith}
use Prim.Native.Nat.{ℕ}
use lib.Dec.{ltb}
use borrow.Author.Tests.{lt-ltb, le-ltb}
use Rattle.pack.specs.Reading.{pick}
use Rattle.planner.proofs.limits.entries.Goals as goal

pub returns-then-room-lt24000 : goal.returns-then-room-lt24000
returns-then-room-lt24000 c =
    sym (ap (λ (b : Bool). pick {A = ℕ} b 256 (pick (ltb c.args.room 24000) 512 1024)) (le-ltb c.args.actions 12 (omega (arith, c.if-actions-lt-SEASON.false)))
    ∙ ap (λ (b : Bool). pick {A = ℕ} b 512 1024) (lt-ltb c.args.room 24000 c.if-room-lt24000.true))
