-- Whether a list of nodes is a table, and what a table decides. Assumes nothing.
use Rattle.std.specs.Prelude.{ℕ, ◌<◌, ◌≡◌, refl, List, length}
use Rattle.std.proofs.Common.{sym, subst}
use Rattle.std.proofs.Math.Logic.{dite}
use Rattle.std.proofs.Math.Logic.Dec
use Rattle.std.proofs.Math.Decide.{dec_lt, ℕ_discrete}
use Rattle.pack.specs.State.{State, meaning, target, Closed, node, walk, Sized}
use Rattle.pack.specs.Syntax.{Node}
use Rattle.pack.specs.Laws.Table.{finds_walk, walk_inside}
use Rattle.chart.specs.States.{Everywhere, Wide}
use Rattle.chart.specs.Laws.Count.{every}
use Rattle.chart.specs.Laws.Tabled.{Tabled}

-- Whether a list of nodes is a table
abbrev pub IsTable : ℕ → List Node → Type 0
IsTable C t = Closed C t × (0 < length t)

pub table? : (C : ℕ) (t : List Node) → Dec (IsTable C t)
table? C t = go (every (λ n. every (λ c. dec_lt (target t n c) (length t)) C) (length t)) (dec_lt 0 (length t))
  where
    go : Dec ((n : ℕ) → n < length t → (c : ℕ) → c < C → target t n c < length t) → Dec (0 < length t)
        → Dec (IsTable C t)
    go (yes f) (yes h) = yes (λ n c l g. f n l c g, h)
    go (yes f) (no h) = no (λ r. h r.1)
    go (no f) h = no (λ r. f (λ n l c g. r.0 n c l g))

unfoldable pub tabled : (C : ℕ) (t : List Node) → IsTable C t → Tabled C (meaning C t 0)
tabled C t r = record { table = t; closed = r.0; some = r.1; means = refl }

-- A function over any list of nodes: what is no table has an answer that says nothing
pub on_table : {B : Type 0} (C : ℕ) (t : List Node) → (Tabled C (meaning C t 0) → B) → B → B
on_table C t f d = dite (table? C t) (λ r. f (tabled C t r)) (λ n. d)

pub on_table_lem : {B : Type 0} (C : ℕ) (t : List Node) (f : Tabled C (meaning C t 0) → B) (d : B) (P : B → Type 0)
    → IsTable C t → ((x : Tabled C (meaning C t 0)) → P (f x)) → P (on_table C t f d)
unfolding on_table
on_table_lem C t f d P r h =
    elim (table? C t) as (λ q. P (dite q (λ r. f (tabled C t r)) (λ n. d)))
    [ yes q ↦ h (tabled C t q) | no n ↦ absurd (n r) ]

-- what holds of each row's values holds wherever chains lead
pub everywhere_table : (C : ℕ) (P : List ℕ → Type 0) (t : List Node) → Closed C t → 0 < length t
    → ((n : ℕ) → n < length t → P (node t n).values) → Everywhere C P (meaning C t 0)
everywhere_table C P t closed pos h chain v =
    subst P (sym (finds_walk C t chain 0 v)) (h (walk t 0 chain) (walk_inside C t closed chain 0 pos v))

pub wide_table : (C F : ℕ) (t : List Node) → IsTable C t → Sized F t → Wide C F (meaning C t 0)
wide_table C F t r h = everywhere_table C (λ values. length values ≡ F) t r.0 r.1 h

-- a state that a table means, with a value for each fluent everywhere
pub record Full (C F : ℕ) (s : State) : Type 0 where
  pub table : Tabled C s
  pub wide : Wide C F s

abbrev pub IsFull : ℕ → ℕ → List Node → Type 0
IsFull C F t = IsTable C t × Sized F t

pub full? : (C F : ℕ) (t : List Node) → Dec (IsFull C F t)
full? C F t = Dec.and (table? C t) (every (λ n. ℕ_discrete (length (node t n).values) F) (length t))

unfoldable pub full : (C F : ℕ) (t : List Node) → IsFull C F t → Full C F (meaning C t 0)
full C F t r = record { table = tabled C t r.0; wide = wide_table C F t r.0 r.1 }
