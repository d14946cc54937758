-- Whether an action is explained and whether a list leads where it should, decided on a table. Assumes nothing.
use Prim.Native.Nat.{ℕ, zero, suc, ◌<◌}
use Rattle.std.specs.Prelude.{◌≡◌}
use Rattle.std.proofs.Math.Path.{refl, subst}
use Rattle.std.proofs.Common.{sym}
use Rattle.std.proofs.Math.Logic.{⊎_elim}
use Rattle.std.proofs.Math.Logic.Dec
use mathlib.Core.List.Memᴰ
use mathlib.Core.List.{List, [], ◌∷◌, Memᴰ}
use Rattle.std.proofs.Math.ListN.{length}
use Rattle.std.proofs.Math.Decide.{ℕ_discrete, dec_lt, map_dec}
use native.Mathlib.Omega.{arith}
use Rattle.pack.specs.State.{State, belief}
use Rattle.pack.specs.Syntax.{Theory}
use Rattle.chart.specs.Laws.Count.{any}
use Rattle.chart.specs.Laws.Tabled.{Tabled, tabled-belief}
use Rattle.transition.specs.Happening.{Plays, action_of}
use Rattle.transition.specs.Laws.Decided.{play?}
use Rattle.transition.specs.Laws.Settled.{plays_one}
use Rattle.planner.specs.Ending.{Leads, Explained, utility_to}

module _ (p : Theory) (asked : ℕ → Type 0) (content : ℕ → ℕ → State → Type 0) where
  abbrev pub Agreeing : State → ℕ → List ℕ → Type 0
  Agreeing s a cs = (c : ℕ) → Memᴰ c cs → asked c → content c a s

  -- one action, and then what is asked of the state it leaves
  abbrev pub Reaches : State → ℕ → (State → Type 0) → Type 0
  Reaches s a G = (t : State) × Plays p s a t × Agreeing s a (action_of p a).consenters × G t

  -- a list to a state that G asks for
  abbrev pub Led : (State → Type 0) → List ℕ → State → Type 0
  Led G list s = (s' : State) × Leads p asked content s list s' × G s'

  -- some list of fewer than n actions
  abbrev pub Near : (State → Type 0) → ℕ → State → Type 0
  Near G n s = (list : List ℕ) × (length list < n) × Led G list s

module _ (p : Theory) (asked : ℕ → Type 0) (asked? : (c : ℕ) → Dec (asked c)) (content : ℕ → ℕ → State → Type 0)
    (content? : (c a : ℕ) (s : State) → Tabled p.characters s → Dec (content c a s)) where
  agreed? : (s : State) → Tabled p.characters s → (a : ℕ) (cs : List ℕ) → Dec (Agreeing p asked content s a cs)
  agreed? s x a [] = yes (λ c m. elim m [ ])
  agreed? s x a (c ∷ cs) = go (asked? c) (content? c a s x) (agreed? s x a cs)
    where
      both : (asked c → content c a s) → Agreeing p asked content s a cs → Agreeing p asked content s a (c ∷ cs)
      both f g d m q =
          ⊎_elim (λ (e : d ≡ c). subst (λ (c : ℕ). content c a s) (sym e) (f (subst asked e q)))
          (λ (m : Memᴰ d cs). g d m q) (Memᴰ.cases_cons m)

      go : Dec (asked c) → Dec (content c a s) → Dec (Agreeing p asked content s a cs)
          → Dec (Agreeing p asked content s a (c ∷ cs))
      go q y (no n) = no (λ f. n (λ d m. f d (Memᴰ.tail m)))
      go (no q) y (yes g) = yes (both (λ z. absurd (q z)) g)
      go (yes q) (yes y) (yes g) = yes (both (λ z. y) g)
      go (yes q) (no y) (yes g) = no (λ f. y (f c (Memᴰ.head refl) q))

  via? : (s : State) → Tabled p.characters s → (a : ℕ) (G : State → Type 0)
      → ((t : State) → Tabled p.characters t → Dec (G t)) → Dec (Reaches p asked content s a G)
  via? s x a G g =
      ⊎_elim (λ r. go r.0 r.2 (agreed? s x a (action_of p a).consenters) (g r.0 r.1))
      (λ f. no (λ v. f v.0 v.1)) (play? x a)
    where
      go : (t : State) → Plays p s a t → Dec (Agreeing p asked content s a (action_of p a).consenters) → Dec (G t)
          → Dec (Reaches p asked content s a G)
      go t y (no n) z = no (λ v. n v.2)
      go t y (yes f) (yes z) = yes (t, y, f, z)
      go t y (yes f) (no n) = no (λ v. n (subst G (plays_one v.1 y) v.3))

  -- what a state at the end is asked for
  module _ (G : State → Type 0) (g : (s : State) → Dec (G s)) where
    -- a list
    pub along? : (list : List ℕ) (s : State) → Tabled p.characters s → Dec (Led p asked content G list s)
    unfolding Leads
    along? [] s x = map_dec (λ y. (s, refl, y)) (λ r. subst G (sym r.1) r.2) (g s)
    along? (a ∷ list) s x =
        map_dec (λ v. (v.3.0, (v.0, v.1, v.2, v.3.1), v.3.2))
        (λ r. (r.1.0, r.1.1, r.1.2, (r.0, r.1.3, r.2)))
        (via? s x a (Led p asked content G list) (λ t y. along? list t y))

    pub within? : (n : ℕ) (s : State) → Tabled p.characters s → Dec (Near p asked content G n s)
    unfolding Leads
    within? zero s x = no (λ r. omega (arith, r.1))
    within? (suc n) s x =
        go (g s) (any (λ a. via? s x a (Near p asked content G n) (λ t y. within? n t y)) (length p.actions))
      where
        none : ¬ G s → ¬ ((a : ℕ) × (a < length p.actions) × Reaches p asked content s a (Near p asked content G n))
            → (list : List ℕ) → length list < suc n → Led p asked content G list s → ⊥
        none f h [] l r = f (subst G (sym r.1) r.2)
        none f h (a ∷ list) l r =
            h (a, r.1.1.there, (r.1.0, r.1.1, r.1.2, (list, omega arith, (r.0, r.1.3, r.2))))

        go : Dec (G s)
            → Dec ((a : ℕ) × (a < length p.actions) × Reaches p asked content s a (Near p asked content G n))
            → Dec (Near p asked content G (suc n) s)
        go (yes y) r = yes ([], omega arith, (s, refl, y))
        go (no f) (yes (a, l, (t, y, z, (list, h, (s', q, w))))) = yes (a ∷ list, omega arith, (s', (t, y, z, q), w))
        go (no f) (no h) = no (λ r. none f h r.0 r.1 r.2)

module _ (p : Theory) (K : ℕ) where
  pub explained? : (e c a : ℕ) (s : State) → Tabled p.characters s → Dec (Explained p K e c a s)
  unfolding Explained
  explained? zero c a s x = no (λ z. z)
  explained? (suc e) c a s x =
      ⊎_elim (λ r.
      go r.0 r.2 (within? p Other other? (Explained p K e) (explained? e) Better better? K r.0 r.1))
      (λ f. no (λ r. f r.1 r.4)) (play? (tabled-belief x c) a)
    where
      Other : ℕ → Type 0
      Other d = d ≡ c → ⊥

      other? : (d : ℕ) → Dec (Other d)
      other? d = Dec.not (ℕ_discrete d c)

      Better : State → Type 0
      Better s' = utility_to p c (belief s c) < utility_to p c s'

      better? : (s' : State) → Dec (Better s')
      better? s' = dec_lt (utility_to p c (belief s c)) (utility_to p c s')

      go : (t : State) → Plays p (belief s c) a t → Dec (Near p Other (Explained p K e) Better K t)
          → Dec (Explained p K (suc e) c a s)
      go t y (yes (rest, l, (s', q, w))) = yes (rest, t, s', l, y, q, w)
      go t y (no n) =
          no (λ r. n (
            r.0,
            r.3,
            (
              r.2,
              subst (λ (v : State). Leads p Other (Explained p K e) v r.0 r.2) (plays_one r.4 y) r.5,
              r.6,
            ),
          ))
