-- A state has one written chart, and its rows are the states reached by beliefs. Assumes nothing.
use Rattle.std.proofs.Common.{ℕ, zero, suc, ◌<◌, ◌≤◌, max, ◌∙◌, inl, inr, ext_get_or, eq-or-lt_of_le, le_of_suc-le-suc}
use Rattle.std.proofs.Common.{List, [], ◌∷◌, arith}
use Rattle.std.specs.Prelude.{◌≡◌, ◌⊎◌, get_or}
use Rattle.std.proofs.Math.Path.{refl, sym, ap, ap₂, subst}
use Rattle.std.proofs.Math.Logic.{by_cases, ⊎_elim}
use Rattle.std.proofs.Math.ListN.{length}
use Rattle.std.proofs.Math.Decide.{dec_lt}
use Rattle.pack.specs.State.{State, belief, node, nowhere, meaning, target}
use Rattle.pack.specs.Syntax.{Node}
use Rattle.pack.specs.Laws.Table.{belief_in}
use Rattle.chart.specs.Chart.{meets, Fresh, met, Ordered, Written}
use Rattle.chart.specs.Laws.Counted.{Reached, by_parents}

-- Two rows of beliefs that correspond, each naming a node met or the next, are equal: R pairs the nodes of two tables,
-- one to one
module _ (R : ℕ → ℕ → Type 0) (right : (i j : ℕ) → i < j → R i i → R i j → ⊥)
    (left : (i j : ℕ) → i < j → R i i → R j i → ⊥) where
  row : (k : ℕ) (bs cs : List ℕ) → length bs ≡ length cs → Fresh k bs → Fresh k cs → ((i : ℕ) → i < k → R i i)
      → ((j : ℕ) → j < length bs → R (get_or bs j 0) (get_or cs j 0))
      → (bs ≡ cs) × ((i : ℕ) → i < meets k bs → R i i)
  unfolding meets Fresh
  row k [] [] e f g inv rel = (refl, inv)
  row k [] (c ∷ cs) e f g inv rel = absurd (omega arith)
  row k (b ∷ bs) [] e f g inv rel = absurd (omega arith)
  row k (b ∷ bs) (c ∷ cs) e f g inv rel =
      let h : R b c = rel 0 (omega arith) in
      let same : b ≡ c = by_cases (dec_lt b c) (λ l. absurd (right b c l (inv b (omega arith)) h))
      (λ x. by_cases (dec_lt c b) (λ l. absurd (left c b l (inv c (omega arith)) h)) (λ y. omega arith)) in
      let inv' : (i : ℕ) → i < max k (suc b)
      → R i i = λ i l.
      by_cases (dec_lt i k) (inv i)
      (λ x. let e : i ≡ b = omega arith in subst (λ (i : ℕ). R i i) (sym e) (subst (R b) (sym same) h)) in
      let (x, y) = row (max k (suc b)) bs cs (omega arith) f.1
      (subst (λ (b : ℕ). Fresh (max k (suc b)) cs) (sym same) g.1) inv' (λ j l. rel (suc j) (omega arith)) in
      (ap₂ ◌∷◌ same x, y)

pub some : (t : List Node) → met t (length t) ≡ length t → 0 < length t
unfolding met
some [] e = absurd (omega arith)
some (n ∷ t) e = omega arith

module _ (C : ℕ) (t u : List Node) (w : Written C t) (v : Written C u) (e : meaning C t 0 ≡ meaning C u 0) where
  -- these two rows mean the same
  abbrev Pair : ℕ → ℕ → Type 0
  Pair i j = (i < length t) × (j < length u) × (meaning C t i ≡ meaning C u j)

  upto : (m : ℕ) → m ≤ length t → m ≤ length u
      → (met t m ≡ met u m) × ((i : ℕ) → i < met t m → Pair i i) × ((i : ℕ) → i < m → node t i ≡ node u i)
  unfolding met meaning
  upto zero h g = (
    refl,
    λ i l. let z : i ≡ 0 = omega arith in
        subst (λ (i : ℕ). Pair i i) (sym z) (some t w.ordered.whole, some u v.ordered.whole, e),
    λ i l. absurd (omega arith),
  )
  upto (suc m) h g =
      let (k, inv, same) = upto m (omega arith) (omega arith) in
      let (lt, lu, r) = inv m (w.ordered.known m h) in
      let (x, y) = row Pair (λ i j l p q. v.apart i j l q.1 (sym p.2 ∙ q.2))
      (λ i j l p q. w.apart i j l q.0 (p.2 ∙ sym q.2))
      (met t m) (node t m).beliefs (node u m).beliefs (w.ordered.wide m h ∙ sym (v.ordered.wide m g))
      (w.ordered.fresh m h) (rw k (v.ordered.fresh m g)) inv
      (λ j l. let lj : j < C = omega (arith, w.ordered.wide m h) in (
        w.ordered.closed m j h lj,
        v.ordered.closed m j g lj,
        sym (belief_in C t m j lj) ∙ ap (λ (s : State). belief s j) r ∙ belief_in C u m j lj,
      )) in
      let here : node t m ≡ node u m = λ i. record { values = ap (λ (s : State). s []) r i; beliefs = x i } in (
        ap₂ meets k x,
        y,
        λ i l. ⊎_elim (λ z. ap (node t) z ∙ here ∙ ap (node u) (sym z)) (λ (l : i < m). same i l)
            (eq-or-lt_of_le (le_of_suc-le-suc l)),
      )

  pub unique : t ≡ u
  unique =
      let long : length t ≡ length u =
      by_cases (dec_lt (length t) (length u)) (λ l.
      absurd (omega
      (arith, v.ordered.known (length t) l, w.ordered.whole, (upto (length t) (omega arith) (omega arith)).0)))
      (λ x. by_cases (dec_lt (length u) (length t))
      (λ l. absurd (omega (
        arith,
        w.ordered.known (length u) l,
        v.ordered.whole,
        (upto (length u) (omega arith) (omega arith)).0,
      ))) (λ y. omega arith)) in
      ext_get_or nowhere t u long (upto (length t) (omega arith) (omega arith)).2

-- every row is reached: so the rows of a written chart are the states reached by beliefs, each once
pub named : (i k : ℕ) (bs : List ℕ) → Fresh k bs → i < meets k bs
    → (i < k) ⊎ ((c : ℕ) × (c < length bs) × (get_or bs c 0 ≡ i))
unfolding meets Fresh
named i k [] f l = inl l
named i k (b ∷ bs) f l =
    ⊎_elim (λ h. by_cases (dec_lt i k) (λ l. inl l) (λ x. inr (0, omega arith, omega arith)))
    (λ (r : (c : ℕ) × (c < length bs) × (get_or bs c 0 ≡ i)). inr (suc r.0, omega arith, r.2))
    (named i (max k (suc b)) bs f.1 l)

module _ (C : ℕ) (t : List Node) (w : Ordered C t) where
  parent : (i : ℕ) → 0 < i → (m : ℕ) → m ≤ length t → i < met t m
      → (j : ℕ) × (c : ℕ) × (j < m) × (c < C) × (target t j c ≡ i)
  unfolding met
  parent i pos zero h l = absurd (omega arith)
  parent i pos (suc m) h l =
      ⊎_elim (λ (l : i < met t m). let (j, c, lj, lc, e) = parent i pos m (omega arith) l in (j, c, omega arith, lc, e))
      (λ (r : (c : ℕ) × (c < length (node t m).beliefs) × (target t m c ≡ i)).
      (m, r.0, omega arith, omega (arith, w.wide m h), r.2))
      (named i (met t m) (node t m).beliefs (w.fresh m h) l)

  pub ordered_reached : (i : ℕ) → i < length t → Reached C t i
  ordered_reached = by_parents C t (λ i pos l. parent i pos i (omega arith) (w.known i l))
