-- Lists of actions in parts, cutting a loop out of one, and that a list leads to one state, so that Search has one
-- answer. Assumes nothing.
use Rattle.std.specs.Prelude.{ℕ, ◌≡◌, length}
use Rattle.std.proofs.Math.Path.{refl, sym, subst}
use Rattle.std.proofs.Common.{◌∙◌, ap}
use mathlib.Core.List.{List, [], ◌∷◌, ◌++◌}
use Rattle.pack.specs.State.{State, Valid}
use Rattle.pack.specs.Syntax.{Theory}
use Rattle.chart.specs.Laws.Earliest.{earliest_one}
use Rattle.transition.specs.Laws.Settled.{plays_one}
use Rattle.planner.specs.Ending.{Leads, Ending, Explained, author_utility}
use Rattle.planner.specs.Search.{Sought}

module _ (p : Theory) (asked : ℕ → Type 0) (content : ℕ → ℕ → State → Type 0) where
  pub leads_one : (list : List ℕ) (s t u : State) → Leads p asked content s list t → Leads p asked content s list u
      → t ≡ u
  unfolding Leads
  leads_one [] s t u x y = sym x ∙ y
  leads_one (a ∷ list) s t u x y =
      leads_one list x.0 t u x.3
      (subst (λ (v : State). Leads p asked content v list u) (plays_one y.1 x.1) y.3)

module _ (p : Theory) (asked : ℕ → Type 0) (content : ℕ → ℕ → State → Type 0) where
  pub leads_join : (l m : List ℕ) (s t u : State) → Leads p asked content s l t → Leads p asked content t m u
      → Leads p asked content s (l ++ m) u
  unfolding Leads
  leads_join [] m s t u x y = subst (λ (v : State). Leads p asked content v m u) (sym x) y
  leads_join (a ∷ l) m s t u x y = (x.0, x.1, x.2, leads_join l m x.0 t u x.3 y)

  pub leads_split : (l m : List ℕ) (s u : State) → Leads p asked content s (l ++ m) u
      → (t : State) × Leads p asked content s l t × Leads p asked content t m u
  unfolding Leads
  leads_split [] m s u x = (s, refl, x)
  leads_split (a ∷ l) m s u x = let (t, y, z) = leads_split l m x.0 u x.3 in (t, (x.0, x.1, x.2, y), z)

-- a list of actions is of those that are there
pub leads_low : (p : Theory) (asked : ℕ → Type 0) (content : ℕ → ℕ → State → Type 0) (list : List ℕ) (s t : State)
    → Leads p asked content s list t → Valid (length p.actions) list
unfolding Leads Valid
leads_low p asked content [] s t x = tt
leads_low p asked content (a ∷ list) s t x = (x.1.there, leads_low p asked content list x.0 t x.3)

module _ {p : Theory} {k t e : ℕ} {s : State} where
  -- an ending ends in one state
  pub ending_one : {list : List ℕ} (x y : Ending p t k e s list) → x.end ≡ y.end
  ending_one {list} x y = leads_one p (λ d. Unit {0}) (Explained p k e) list s x.end y.end x.leads y.leads

  pub sought_one : {list list' : List ℕ} {w w' v v' : ℕ} → Sought p t k e s list w v → Sought p t k e s list' w' v'
      → (list ≡ list') × (w ≡ w') × (v ≡ v')
  sought_one {list} {list'} {w} {w'} {v} {v'} x y =
      let g = earliest_one x.first y.first in
      let z : Sought p t k e s list w' v' = subst (λ (l : List ℕ). Sought p t k e s l w' v') (sym g) y in (
        g,
        sym x.at_start ∙ y.at_start,
        sym x.at_end ∙ ap (author_utility p) (ending_one x.first.good z.first.good) ∙ z.at_end,
      )
