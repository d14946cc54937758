-- Step is decided on a state that a table means, and it gives one outcome. Assumes nothing.
use Rattle.std.specs.Prelude.{ℕ, ◌≡◌, refl, length}
use Rattle.std.proofs.Common.{sym, ap, subst, ⊎_elim, arith}
use Rattle.std.proofs.Math.Logic.{by_cases}
use Rattle.std.proofs.Math.Decide.{dec_lt}
use Rattle.pack.specs.State.{State}
use Rattle.pack.specs.Syntax.{Theory}
use Rattle.chart.specs.Laws.Charted.{chart}
use Rattle.chart.specs.Laws.Tabled.{Tabled}
use Rattle.chart.specs.Laws.Unique.{unique}
use Rattle.transition.specs.Happening.{Plays}
use Rattle.transition.specs.Step.{Steps, Outcome, leaves, refused}
use Rattle.transition.specs.Laws.Decided.{step}
use Rattle.transition.specs.Laws.Settled.{plays_one, plays_refuses, refuses_one}

pub steps-one : {p : Theory} {s : State} {a : ℕ} {r r' : Outcome} → Steps p s a r → Steps p s a r' → r ≡ r'
steps-one {p} (Steps.left {rows = t} w x) (Steps.left {rows = u} v y) =
    ap leaves (unique p.characters t u w v (plays_one x y))
steps-one (Steps.left w x) (Steps.failed l y) = absurd (plays_refuses x y)
steps-one (Steps.left w x) (Steps.missing l) = absurd (omega (arith, x.there))
steps-one (Steps.failed l y) (Steps.left w x) = absurd (plays_refuses x y)
steps-one (Steps.failed l x) (Steps.failed h y) = ap refused (refuses_one x y)
steps-one (Steps.failed l x) (Steps.missing h) = absurd (omega arith)
steps-one (Steps.missing l) (Steps.left w x) = absurd (omega (arith, x.there))
steps-one (Steps.missing l) (Steps.failed h y) = absurd (omega arith)
steps-one (Steps.missing l) (Steps.missing h) = refl

module _ (p : Theory) where
  stepping : {s : State} → Tabled p.characters s → (a : ℕ) → (r : Outcome) × Steps p s a r
  stepping {s} x a =
      by_cases (dec_lt a (length p.actions))
      (λ h. ⊎_elim (λ r. let c = chart r.1 in
      (leaves c.rows, Steps.left c.written (subst (λ (t : State). Plays p s a t) (sym c.means) r.2)))
      (λ r. (refused r.0, Steps.failed h r.1)) (step x a h))
      (λ h. (refused 9, Steps.missing (omega arith)))

  pub step_of : {s : State} → Tabled p.characters s → ℕ → Outcome
  step_of x a = (stepping x a).0

  pub steps : {s : State} (x : Tabled p.characters s) (a : ℕ) → Steps p s a (step_of x a)
  unfolding step_of
  steps x a = (stepping x a).1
