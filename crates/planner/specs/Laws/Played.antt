-- A list of actions played by Step after Step, chart after chart: what its states say. Assumes nothing.
use Rattle.std.specs.Prelude.{ℕ, ◌≡◌, refl, List, [], ◌∷◌, ◌↔◌}
use Rattle.std.proofs.Common.{sym, ap, subst, arith}
use Rattle.pack.specs.State.{State, meaning}
use Rattle.pack.specs.Syntax.{Theory, Node}
use Rattle.chart.specs.Answers.{start_table}
use Rattle.chart.specs.Chart.{Written}
use Rattle.chart.specs.Laws.Answers.{start_table_iff, written_table}
use Rattle.chart.specs.Laws.Tables.{IsTable}
use Rattle.transition.specs.Answers.{step_table}
use Rattle.transition.specs.Step.{Outcome, leaves, refused, Steps}
use Rattle.transition.specs.Laws.Settled.{plays_one, plays_refuses}
use Rattle.transition.specs.Laws.Step.{step_table_iff, step_leaves, leaves_only, IsLeaves}
use Rattle.planner.specs.Ending.{Leads}

then : Outcome → (List Node → Outcome) → Outcome
then (leaves t) f = f t
then (refused n) f = refused n

-- Step after Step; the first refusal is the answer
pub play_table : Theory → List Node → List ℕ → Outcome
play_table p t [] = leaves (start_table p.characters t)
play_table p t (a ∷ list) = then (step_table p t a) (λ u. play_table p u list)

-- nobody is asked
abbrev pub Playable : Theory → State → List ℕ → State → Type 0
Playable p s list s' = Leads p (λ d. ⊥) (λ c a s. Unit {0}) s list s'

leaves_inj : {t u : List Node} → leaves t ≡ leaves u → t ≡ u
unfolding IsLeaves
leaves_inj {t} {u} e = leaves_only (leaves t) u e

-- a list is playable exactly where Step after Step gives a chart, and then that of the state it leaves
pub played_iff : (p : Theory) (list : List ℕ) (t : List Node) → IsTable p.characters t → (u : List Node)
    → (play_table p t list ≡ leaves u)
    ↔ (Written p.characters u × Playable p (meaning p.characters t 0) list (meaning p.characters u 0))
unfolding Leads play_table then IsLeaves
played_iff p [] t r u = (
  λ e. let (w, x) = (start_table_iff p.characters t r u).1 (leaves_inj e) in (w, sym x),
  λ x. ap leaves ((start_table_iff p.characters t r u).0 (x.0, sym x.1)),
)
played_iff p (a ∷ list) t r u = (
  λ e. there (played_iff p list) (step_table p t a) refl e,
  λ x. back (played_iff p list) (step_table p t a) ((step_table_iff p t r a (step_table p t a)).1 refl) x,
)
  where
    Rest : Type 0
    Rest = (t : List Node) → IsTable p.characters t → (u : List Node)
        → (play_table p t list ≡ leaves u)
        ↔ (Written p.characters u × Playable p (meaning p.characters t 0) list (meaning p.characters u 0))

    Goal : Type 0
    Goal = Written p.characters u × Playable p (meaning p.characters t 0) (a ∷ list) (meaning p.characters u 0)

    there : Rest → (o : Outcome) → step_table p t a ≡ o → then o (λ v. play_table p v list) ≡ leaves u → Goal
    there ih (leaves v) e f =
        let (w, x) = (step_leaves p t r a v).0 e in
        let (z, l) = (ih v (written_table p.characters v w) u).0 f in
        (z, (meaning p.characters v 0, x, λ c m q. tt, l))
    there ih (refused n) e f = absurd (leaves_only (refused n) u f)

    back : Rest → (o : Outcome) → Steps p (meaning p.characters t 0) a o → Goal
        → then o (λ v. play_table p v list) ≡ leaves u
    back ih o (Steps.left {rows = v} w y) (z, (s, x, q, l)) =
        (ih v (written_table p.characters v w) u).1
        (z, subst (λ (s : State). Playable p s list (meaning p.characters u 0)) (plays_one x y) l)
    back ih o (Steps.failed h y) (z, (s, x, q, l)) = absurd (plays_refuses x y)
    back ih o (Steps.missing h) (z, (s, x, q, l)) = absurd (omega (arith, x.there))
