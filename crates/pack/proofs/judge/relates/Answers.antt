-- The match has the kinds in the order of their numbers. Assumes nothing.
use native.Mathlib.Omega.{arith}
use mathlib.Core.Path.{refl}
use Rattle.pack.specs.Condition.{compares}
use Rattle.pack.proofs.judge.relates.Goals as goal

pub returns-in-0 : goal.returns-in-0
unfolding compares
returns-in-0 c = (λ known. rw c.in-0.is, λ other. absurd (omega (arith, other, c.in-0.is)))

pub returns-in-1 : goal.returns-in-1
unfolding compares
returns-in-1 c = (λ known. rw c.in-1.is, λ other. absurd (omega (arith, other, c.in-1.is)))

pub returns-in-2 : goal.returns-in-2
unfolding compares
returns-in-2 c = (λ known. rw c.in-2.is, λ other. absurd (omega (arith, other, c.in-2.is)))

pub returns-in-3-to-255 : goal.returns-in-3-to-255
unfolding compares
returns-in-3-to-255 c = (λ known. absurd (omega (arith, known)), λ other. refl)
