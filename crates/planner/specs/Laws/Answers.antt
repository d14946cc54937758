-- Explained's and Search's functions are their relations over chains, and depend on what the table means alone. Assumes
-- nothing.
use Rattle.std.specs.Prelude.{ℕ, ◌≡◌, refl, true, ◌↔◌, List}
use Rattle.std.proofs.Common.{sym, subst, true≢false}
use Rattle.std.proofs.Math.Bool.{false}
use Rattle.pack.specs.State.{State, meaning}
use Rattle.pack.specs.Syntax.{Theory, Node}
use Rattle.chart.specs.Laws.Tables.{on_table_lem, IsTable}
use Rattle.planner.specs.Answers.{says, explained_table, search_table}
use Rattle.planner.specs.Ending.{Explained}
use Rattle.planner.specs.Search.{Answer, Searched, none}
use Rattle.planner.specs.Laws.Explaining.{explained?}
use Rattle.planner.specs.Laws.Searching.{search_of, searched, searched_one}

pub says_iff : {A : Type 0} (d : Dec A) → (says d ≡ true) ↔ A
unfolding says
says_iff (yes x) = (λ e. x, λ y. refl)
says_iff (no x) = (λ e. absurd (true≢false (sym e)), λ y. absurd (x y))

-- The functions over any list of nodes
module _ (p : Theory) (t : List Node) (r : IsTable p.characters t) where
  abbrev means0 : State
  means0 = meaning p.characters t 0

  pub search_table_lem : (T K E : ℕ) → Searched p T K E means0 (search_table p T K E t)
  unfolding search_table
  search_table_lem T K E = on_table_lem p.characters t (search_of p T K E) none (Searched p T K E means0) r
      (searched p T K E)

  pub explained_table_iff : (K e c a : ℕ) → (explained_table p K e c a t ≡ true) ↔ Explained p K e c a means0
  unfolding explained_table
  explained_table_iff K e c a =
      on_table_lem p.characters t (λ x. says (explained? p K e c a means0 x)) false
      (λ b. (b ≡ true) ↔ Explained p K e c a means0) r (λ x. says_iff (explained? p K e c a means0 x))

  pub search_table_iff : (T K E : ℕ) (o : Answer) → Searched p T K E means0 o ↔ (search_table p T K E t ≡ o)
  search_table_iff T K E o = (
    λ y. searched_one p T K E means0 (search_table p T K E t) o (search_table_lem T K E) y,
    λ e. subst (Searched p T K E means0) e (search_table_lem T K E),
  )

-- two tables with one meaning
module _ (p : Theory) (t u : List Node) (r : IsTable p.characters t) (q : IsTable p.characters u)
    (e : meaning p.characters t 0 ≡ meaning p.characters u 0) where
  pub search_table_same : (T K E : ℕ) → search_table p T K E t ≡ search_table p T K E u
  search_table_same T K E =
      (search_table_iff p t r T K E (search_table p T K E u)).0
      (subst (λ (s : State). Searched p T K E s (search_table p T K E u)) (sym e) (search_table_lem p u q T K E))
