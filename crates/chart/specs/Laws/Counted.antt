-- How many states the chains lead to, read off a table. Assumes nothing.
use Rattle.std.proofs.Common.{ℕ, zero, suc, ◌<◌, ◌≤◌, ◌∙◌, ⊎_elim, eq-or-lt_of_le, le_of_suc-le-suc, List, [], ◌∷◌}
use Rattle.std.proofs.Common.{◌++◌, arith}
use Rattle.std.specs.Prelude.{◌≡◌, refl, ◌↔◌, get_or}
use Rattle.std.proofs.Math.Path.{sym, ap}
use Rattle.std.proofs.Math.Logic.{by_cases}
use mathlib.Core.List.{Memᴰ}
use Rattle.std.proofs.Math.ListN.{length}
use Rattle.std.proofs.Math.Decide.{dec_lt}
use Rattle.pack.specs.State.{State, after, Valid, meaning, target, Closed, walk}
use Rattle.pack.specs.Syntax.{Node}
use Rattle.pack.specs.Laws.Table.{after-walk, walk_inside}
use Rattle.chart.specs.Chart.{Apart}
use Rattle.chart.specs.States.{AtMost}
use Rattle.chart.specs.Laws.Count.{all, count_all, count_inj}
use Rattle.chart.specs.Laws.Lists.{place}

module _ (C : ℕ) (t : List Node) where
  -- a chain from row 0 to row i
  abbrev pub Reached : ℕ → Type 0
  Reached i = (chain : List ℕ) × Valid C chain × (walk t 0 chain ≡ i)

  -- a chain, and one character more
  pub further : (c : ℕ) → c < C → (chain : List ℕ) (n : ℕ) → Valid C chain
      → Valid C (chain ++ (c ∷ [])) × (walk t n (chain ++ (c ∷ [])) ≡ target t (walk t n chain) c)
  unfolding Valid walk
  further c h [] n v = ((h, tt), refl)
  further c h (d ∷ chain) n v = let r = further c h chain (target t n d) v.1 in ((v.0, r.0), r.1)

  -- it is enough that each row but row 0 is named by one before it
  pub by_parents : ((i : ℕ) → 0 < i → i < length t → (j : ℕ) × (c : ℕ) × (j < i) × (c < C) × (target t j c ≡ i))
      → (i : ℕ) → i < length t → Reached i
  unfolding Valid walk
  by_parents parent i h = go (suc i) i (omega arith) h
    where
      go : (b i : ℕ) → i < b → i < length t → Reached i
      go zero i l h = absurd (omega arith)
      go (suc b) zero l h = ([], tt, refl)
      go (suc b) (suc i) l h =
          let (j, c, lj, lc, e) = parent (suc i) (omega arith) h in
          let (chain, v, g) = go b j (omega arith) (omega arith) in
          let (w, x) = further c lc chain 0 v in
          (chain ++ (c ∷ []), w, x ∙ ap (λ (n : ℕ). target t n c) g ∙ e)

module _ (C : ℕ) (t : List Node) (reached : (i : ℕ) → i < length t → Reached C t i) where
  abbrev at : ℕ → State
  at = meaning C t

  pub there : (i : ℕ) (r : Reached C t i) → after (at 0) r.0 ≡ at i
  there i r = after-walk C t r.0 0 r.1 ∙ ap at r.2

  -- no fewer states than classes, where rows that mean the same are of one class
  pub at_least_so_many : (cls : ℕ → ℕ) (q : ℕ) → ((i : ℕ) → i < q → (r : ℕ) × (r < length t) × (cls r ≡ i))
      → ((r s : ℕ) → r < length t → s < length t → at r ≡ at s → cls r ≡ cls s)
      → (n : ℕ) → AtMost n C (at 0) → q ≤ n
  unfolding AtMost
  at_least_so_many cls q used one n (l, few, h) =
      omega (
        arith,
        count_all q,
        count_all (length l),
        count_inj all all (λ i j. (r : ℕ) × (r < length t) × (cls r ≡ i) × (at r ≡ after (at 0) (get_or l j []))) q
            (length l)
            (λ i li _. let (r, lr, e) = used i li in let c = reached r lr in let (x, m, f) = h c.0 c.1 in
            let (j, lj, g) = place l [] x m in
            (j, lj, tt, (r, lr, e, sym (there r c) ∙ f ∙ ap (after (at 0)) (sym g))))
            (λ i j k l lj _ x y. let e = one x.0 y.0 x.1 y.1 (x.3 ∙ sym y.3) in omega arith),
      )

  module _ (closed : Closed C t) (some : 0 < length t) where
    -- a chain to each of the first k rows
    chains : (k : ℕ) → k ≤ length t
        → (l : List (List ℕ)) × (length l ≡ k)
        × ((i : ℕ) → i < k → (r : List ℕ) × Memᴰ r l × (after (at 0) r ≡ at i))
    chains zero h = ([], refl, λ i l. absurd (omega arith))
    chains (suc k) h =
        let (l, e, f) = chains k (omega arith) in
        let c = reached k h in (
          c.0 ∷ l,
          ap suc e,
          λ i li. ⊎_elim (λ e. (c.0, Memᴰ.head refl, there k c ∙ ap at (sym e)))
              (λ (lt : i < k). let (r, m, g) = f i lt in (r, Memᴰ.tail m, g))
              (eq-or-lt_of_le (le_of_suc-le-suc li)),
        )

    -- no more states than rows
    pub at_most : (n : ℕ) → length t ≤ n → AtMost n C (at 0)
    unfolding AtMost
    at_most n h =
        let (l, e, f) = chains (length t) (omega arith) in (
          l,
          omega arith,
          λ chain v. let (r, m, g) = f (walk t 0 chain) (walk_inside C t closed chain 0 some v) in
              (r, m, after-walk C t chain 0 v ∙ sym g),
        )

    pub counted : Apart C t → (n : ℕ) → AtMost n C (at 0) ↔ (length t ≤ n)
    counted apart n = (at_least_so_many (λ r. r) (length t) (λ i l. (i, l, refl)) one n, at_most n)
      where
        one : (r s : ℕ) → r < length t → s < length t → at r ≡ at s → r ≡ s
        one r s lr ls e =
            by_cases (dec_lt r s) (λ l. absurd (apart r s l ls e))
            (λ x. by_cases (dec_lt s r) (λ l. absurd (apart s r l lr (sym e))) (λ y. omega arith))
