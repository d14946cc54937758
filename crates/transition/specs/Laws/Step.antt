-- Step's function is its relation over chains; it depends on what the table means alone, and what it gives is a table
-- again. Assumes nothing.
use Rattle.std.specs.Prelude.{ℕ, ◌≤◌, ◌≡◌, refl, ◌↔◌, List, length}
use Rattle.std.proofs.Common.{sym, subst}
use Rattle.pack.specs.State.{State, meaning}
use Rattle.pack.specs.Syntax.{Theory, Node, Pack}
use Rattle.chart.specs.Chart.{Written}
use Rattle.pack.specs.Layout.{PackFits, ChartFits}
use Rattle.chart.specs.Laws.Answers.{written_fits, fits_table, fits_everywhere}
use Rattle.chart.specs.Laws.Counted.{counted}
use Rattle.chart.specs.Laws.Tables.{IsTable, on_table_lem}
use Rattle.chart.specs.Laws.Unique.{ordered_reached, some}
use Rattle.transition.specs.Answers.{step_table}
use Rattle.transition.specs.Happening.{Plays}
use Rattle.transition.specs.Step.{Outcome, leaves, refused, Steps}
use Rattle.transition.specs.Laws.Settled.{settles_few}
use Rattle.transition.specs.Laws.Stepping.{step_of, steps, steps-one}
use Rattle.transition.specs.Laws.Kept.{valued_plays}

-- The function over any list of nodes
module _ (p : Theory) (t : List Node) (r : IsTable p.characters t) where
  abbrev means0 : State
  means0 = meaning p.characters t 0

  pub step_table_lem : (a : ℕ) → Steps p means0 a (step_table p t a)
  unfolding step_table
  step_table_lem a = on_table_lem p.characters t (λ x. step_of p x a) (refused 0) (Steps p means0 a) r
      (λ x. steps p x a)

  pub step_table_iff : (a : ℕ) (o : Outcome) → Steps p means0 a o ↔ (step_table p t a ≡ o)
  step_table_iff a o = (λ y. steps-one (step_table_lem a) y, λ e. subst (Steps p means0 a) e (step_table_lem a))

unfoldable pub IsLeaves : Outcome → List Node → Type 0
IsLeaves (leaves v) u = v ≡ u
IsLeaves (refused n) u = ⊥

pub leaves_only : (o : Outcome) (u : List Node) → o ≡ leaves u → IsLeaves o u
unfolding IsLeaves
leaves_only o u e = subst (λ (o : Outcome). IsLeaves o u) (sym e) refl

-- Step gives a chart exactly where the action is playable, and then that of the state it leaves
pub step_leaves : (p : Theory) (t : List Node) → IsTable p.characters t → (a : ℕ) (u : List Node)
    → (step_table p t a ≡ leaves u)
    ↔ (Written p.characters u × Plays p (meaning p.characters t 0) a (meaning p.characters u 0))
unfolding IsLeaves
step_leaves p t r a u = (
  λ e. go (leaves u) ((step_table_iff p t r a (leaves u)).1 e) u refl,
  λ x. (step_table_iff p t r a (leaves u)).0 (Steps.left x.0 x.1),
)
  where
    Left : List Node → Type 0
    Left u = Written p.characters u × Plays p (meaning p.characters t 0) a (meaning p.characters u 0)

    go : (o : Outcome) → Steps p (meaning p.characters t 0) a o → (u : List Node) → o ≡ leaves u → Left u
    go o (Steps.left {rows = v} w x) u e = subst Left (leaves_only _ u e) (w, x)
    go o (Steps.failed l x) u e = absurd (leaves_only _ u e)
    go o (Steps.missing l) u e = absurd (leaves_only _ u e)

-- What Step gives is a chart that is read: at most 32 rows, values within their domains
module _ (p : Pack) (fit : PackFits p) (t : List Node) (h : ChartFits p.theory.characters p.theory.domains t)
    (a : ℕ) (u : List Node) (e : step_table p.theory t a ≡ leaves u) where
  abbrev C : ℕ
  C = p.theory.characters

  left : Written C u × Plays p.theory (meaning C t 0) a (meaning C u 0)
  left = (step_leaves p.theory t (fits_table C p.theory.domains t h) a u).0 e

  pub step_few : length u ≤ 32
  step_few =
      let w = left.0.ordered in
      (counted C u (ordered_reached C u w) w.closed (some u w.whole) left.0.apart 32).0
      (settles_few p.theory 16 _ (meaning C u 0) left.1.settles)

  pub step_fits : ChartFits C p.theory.domains u
  step_fits = written_fits C p.theory.domains u left.0
      (valued_plays p fit (meaning C t 0) a (meaning C u 0) left.1 (fits_everywhere C p.theory.domains t h))
      step_few
