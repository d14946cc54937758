-- An action on a state that a table means, and a round from it, give such a state. Assumes nothing.
use Prim.Native.Nat.{ℕ, zero, suc, ◌<◌, ◌≤◌}
use Rattle.std.specs.Prelude.{◌≡◌, refl, Bool, cond}
use Rattle.std.proofs.Common.{sym, ap, eq-or-lt_of_le, le_of_suc-le-suc, arith}
use Rattle.std.proofs.Math.Path.{subst}
use Rattle.std.proofs.Math.Bool.{true, false}
use Rattle.std.proofs.Math.Logic.{⊎_elim}
use mathlib.Core.List.{List, [], ◌∷◌, ◌++◌, map, Memᴰ}
use Rattle.std.proofs.Math.ListN.{length}
use Rattle.pack.specs.State.{State, meaning, target, Closed}
use Rattle.pack.specs.Syntax.{Action, Trigger, Effect, Node}
use Rattle.chart.specs.Laws.Lists.{below, map_in, map_out, below_in, below_out}
use Rattle.chart.specs.Laws.Tabled.{enumerated, tabled_same, Tabled}
use Rattle.transition.specs.Happening.{act, change, fires, observes, round}
use Rattle.transition.specs.Laws.Changed.{Member, acted, edge, old, There, next, changed, all_told}

-- the members of a change in which every row that takes part is said to tell its characters something: the first row,
-- every edge, every old row
edges : ℕ → ℕ → List Member
edges C zero = []
edges C (suc m) = map (edge m) (below C) ++ edges C m

edges_in : (C n m c : ℕ) → m < n → c < C → Memᴰ (edge m c) (edges C n)
unfolding edges
edges_in C zero m c h g = absurd (omega arith)
edges_in C (suc n) m c h g =
    ⊎_elim (λ (e : m ≡ n). mathlib.Core.List.Memᴰ.append_left (edges C n)
    (subst (λ (x : ℕ). Memᴰ (edge m c) (map (edge x) (below C))) e (map_in (edge m) (below C) c (below_in C c g))))
    (λ (l : m < n). mathlib.Core.List.Memᴰ.append_right (map (edge n) (below C)) (edges_in C n m c l g))
    (eq-or-lt_of_le (le_of_suc-le-suc h))

module _ (C N : ℕ) where
  In : Member → Type 0
  In (acted m) = m ≡ 0
  In (edge m c) = (m < N) × (c < C)
  In (old m) = m < N

  edges_out : (n : ℕ) → n ≤ N → (k : Member) → Memᴰ k (edges C n) → In k
  unfolding edges In
  edges_out zero h k m = elim m [ ]
  edges_out (suc n) h k m =
      ⊎_elim (λ (m : Memᴰ k (map (edge n) (below C))). let (c, i, e) = map_out (edge n) (below C) k m in
      subst In (sym e) (h, below_out C c i))
      (λ (m : Memᴰ k (edges C n)). edges_out n (omega arith) k m)
      (mathlib.Core.List.Memᴰ.append_cases (map (edge n) (below C)) m)

  rest : List Member
  rest = map old (below N) ++ edges C N

  listed : (k : Member) → Memᴰ k (acted 0 ∷ rest) → In k
  unfolding In rest
  listed k m =
      ⊎_elim (λ (e : k ≡ acted 0). subst In (sym e) refl)
      (λ (m : Memᴰ k rest). ⊎_elim (λ (m : Memᴰ k (map old (below N))).
      let (n, i, e) = map_out old (below N) k m in subst In (sym e) (below_out N n i))
      (λ (m : Memᴰ k (edges C N)). edges_out N (omega arith) k m)
      (mathlib.Core.List.Memᴰ.append_cases (map old (below N)) m))
      (mathlib.Core.List.Memᴰ.cases_cons m)

  whole : (k : Member) → In k → Memᴰ k (acted 0 ∷ rest)
  unfolding In rest
  whole (acted m) h = mathlib.Core.List.Memᴰ.head (ap acted h)
  whole (edge m c) h = mathlib.Core.List.Memᴰ.tail
      (mathlib.Core.List.Memᴰ.append_right (map old (below N)) (edges_in C N m c h.0 h.1))
  whole (old m) h = mathlib.Core.List.Memᴰ.tail (mathlib.Core.List.Memᴰ.append_left (edges C N)
      (map_in old (below N) m (below_in N m h)))

module _ (C : ℕ) (t : List Node) (closed : Closed C t) (some : 0 < length t) (effects : State → List Effect)
    (takes : State → ℕ → Bool) where
  abbrev always : ℕ → ℕ → Bool
  always m d = true

  abbrev Has : Member → Type 0
  Has = In C (length t)

  has_real : (k : Member) → Has k → There C k
  unfolding In
  has_real (acted m) h = tt
  has_real (edge m c) h = h.1
  has_real (old m) h = tt

  has_next : (k : Member) → Has k → (c : ℕ) → c < C → Has (next effects takes C t always k c)
  unfolding In
  has_next (acted m) h d l = (omega (arith, h, some), l)
  has_next (edge m c) h d l =
      let n = target t m c in
      let ln : n < length t = closed m c h.0 h.1 in
      elim (takes (meaning C t m) c) as (λ b. Has (cond b (edge n d) (old (target t n d))))
      [ true ↦ (ln, l) | false ↦ closed n d ln l ]
  has_next (old m) h d l = closed m d h l

  tabled_there : Tabled C (change effects takes (meaning C t 0))
  tabled_there =
      enumerated C (changed effects takes C t always (all_told effects takes C t)) Has has_real has_next (acted 0)
      (rest C (length t)) (listed C (length t)) (whole C (length t))

tabled_change : {C : ℕ} {s : State} → Tabled C s → (effects : State → List Effect) (takes : State → ℕ → Bool)
    → Tabled C (change effects takes s)
tabled_change {C} x effects takes =
    tabled_same (ap (change effects takes) x.means) (tabled_there C x.table x.closed x.some effects takes)

pub tabled-act : {C : ℕ} {s : State} → Tabled C s → (a : Action) → Tabled C (act a s)
unfolding act
tabled-act x a = tabled_change x (λ s. a.effects) (observes a)

pub tabled-round : {C : ℕ} {s : State} → Tabled C s → (ts : List Trigger) → Tabled C (round ts s)
unfolding round
tabled-round x ts = tabled_change x (fires ts) (λ s c. true)
