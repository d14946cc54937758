-- A state that a table means, and that its beliefs are such states. Assumes nothing.
use Rattle.std.specs.Prelude.{ℕ, zero, suc, ◌<◌, ◌≡◌, refl}
use Rattle.std.proofs.Common.{sym, ◌∙◌, ⊎_elim, arith, List, [], ◌∷◌}
use Rattle.std.proofs.Math.Path.{ap}
use Rattle.std.proofs.Math.Logic.{by_cases}
use mathlib.Core.List.Memᴰ
use mathlib.Core.List.{Memᴰ}
use Rattle.std.proofs.Math.ListN.{get_or, length}
use Rattle.std.proofs.Math.Decide.{dec_lt}
use Rattle.pack.specs.State.{State, belief, node, nowhere, meaning, target, Closed}
use Rattle.pack.specs.Syntax.{Node}
use Rattle.pack.specs.Laws.Table.{Matches, means, blank, belief_in, belief_out}
use Rattle.chart.specs.Laws.Built.{Family, Rows, built, copied}
use Rattle.chart.specs.Laws.Lists.{tabulate, length_tabulate, get_d_tabulate}
use Rattle.chart.specs.Laws.Lists.{stands, place, below, below_in, below_out}

pub record Tabled (C : ℕ) (s : State) : Type 0 where
  pub table : List Node
  pub closed : Closed C table
  pub some : 0 < length table
  pub means : meaning C table 0 ≡ s

-- A family with finitely many members in use, listed: the table of them
module _ (C : ℕ) {K : Type 0} {Real : K → Type 0} {sem : K → State} {val : K → List ℕ} {next : K → ℕ → K}
    (f : Family C Real sem val next)
    (In : K → Type 0) (real : (k : K) → In k → Real k) (inside : (k : K) → In k → (c : ℕ) → c < C → In (next k c))
    (k0 : K) (ks : List K) (listed : (k : K) → Memᴰ k (k0 ∷ ks) → In k)
    (whole : (k : K) → In k → Memᴰ k (k0 ∷ ks)) where
  abbrev all : List K
  all = k0 ∷ ks

  abbrev key : ℕ → K
  key i = get_or all i k0

  named : (i : ℕ) → i < length all → (c : ℕ) → c < C → (j : ℕ) × (j < length all) × (key j ≡ next (key i) c)
  named i l c h =
      place all k0 (next (key i) c) (whole (next (key i) c) (inside (key i) (listed (key i) (stands all k0 i l)) c h))

  line : (i : ℕ) → i < length all → Node
  line i l = record { values = val (key i); beliefs = tabulate C (λ c h. (named i l c h).0) }

  lines : List Node
  lines = tabulate (length all) line

  long : length lines ≡ length all
  unfolding lines
  long = length_tabulate (length all) line

  at : (i : ℕ) (l : i < length all) → node lines i ≡ line i l
  unfolding lines
  at i l = get_d_tabulate (length all) line nowhere i l

  goes : (i : ℕ) (l : i < length all) (c : ℕ) (h : c < C) → target lines i c ≡ (named i l c h).0
  unfolding line
  goes i l c h = ap (λ (n : Node). get_or n.beliefs c 0) (at i l) ∙ get_d_tabulate C (λ c h. (named i l c h).0) 0 c h

  rows : Rows C lines Real val next key
  unfolding line
  rows = record {
    real = λ i l. let h : i < length all = omega (arith, long) in real (key i) (listed (key i) (stands all k0 i h));
    values = λ i l. let h : i < length all = omega (arith, long) in ap (λ (n : Node). n.values) (at i h);
    inside = λ i c l h. let g : i < length all = omega (arith, long) in
        omega (arith, long, goes i g c h, (named i g c h).1);
    names = λ i c l h. let g : i < length all = omega (arith, long) in ap key (goes i g c h) ∙ (named i g c h).2;
  }

  pub enumerated : Tabled C (sem k0)
  enumerated =
      let pos : 0 < length lines = omega (arith, long) in
      record { table = lines; closed = λ n c l h. rows.inside n c l h; some = pos; means = built f rows 0 pos }

-- the belief of c is the state of another row
pub tabled-at : (C : ℕ) (t : List Node) → Closed C t → (n : ℕ) → n < length t → Tabled C (meaning C t n)
tabled-at C t closed n h =
    enumerated C (copied C t) (λ i. i < length t) (λ i l. tt) (λ i l c g. closed i c l g) n (below (length t))
    (λ i m. ⊎_elim (λ (e : i ≡ n). omega arith) (λ (m : Memᴰ i (below (length t))). below_out (length t) i m)
    (Memᴰ.cases_cons m))
    (λ i l. Memᴰ.tail (below_in (length t) i l))

pub tabled_same : {C : ℕ} {s s' : State} → s ≡ s' → Tabled C s → Tabled C s'
tabled_same e x = record { table = x.table; closed = x.closed; some = x.some; means = x.means ∙ e }

empty : ℕ → List Node
empty C = record { values = []; beliefs = tabulate C (λ c h. 0) } ∷ []

tabled-blank : (C : ℕ) → Tabled C blank
unfolding empty
tabled-blank C =
    record {
      table = empty C;
      closed = closed;
      some = omega arith;
      means = means C (empty C) (λ n. blank) matches 0 (omega arith);
    }
  where
    row : (n : ℕ) → n < 1 → node (empty C) n ≡ record { values = []; beliefs = tabulate C (λ c h. 0) }
    row zero h = refl
    row (suc n) h = absurd (omega arith)

    closed : Closed C (empty C)
    closed n c h g =
        omega (arith, ap (λ (n : Node). get_or n.beliefs c 0) (row n h) ∙ get_d_tabulate C (λ c h. 0) 0 c g)

    matches : Matches C (empty C) (λ n. blank)
    matches = record {
      values = λ n h. ap (λ (n : Node). n.values) (row n h);
      inside = closed;
      beliefs = λ n c h g. refl;
      outside = λ n c h g chain. refl;
    }

pub tabled-belief : {C : ℕ} {s : State} → Tabled C s → (c : ℕ) → Tabled C (belief s c)
tabled-belief {C} x c =
    by_cases (dec_lt c C)
    (λ l. tabled_same (sym (belief_in C x.table 0 c l) ∙ ap (λ (s : State). belief s c) x.means)
    (tabled-at C x.table x.closed (target x.table 0 c) (x.closed 0 c x.some l)))
    (λ g. tabled_same (sym (belief_out C x.table 0 c (omega arith)) ∙ ap (λ (s : State). belief s c) x.means)
    (tabled-blank C))
