-- One row for each class of rows that mean the same, classes numbered by first row: of an ordered table that is the
-- written chart. Assumes nothing.
use Rattle.std.proofs.Common.{ℕ, zero, suc, ◌<◌, ◌≤◌, max, ◌∙◌, subst, ⊎_elim, eq-or-lt_of_le, le_of_suc-le-suc, List}
use Rattle.std.proofs.Common.{[], ◌∷◌, map, arith}
use Rattle.std.specs.Prelude.{◌≡◌, refl, ◌↔◌, get_or}
use Rattle.std.proofs.Math.Path.{sym, ap, ap₂, fun_ext}
use Rattle.std.proofs.Math.Logic.{by_cases}
use Rattle.std.proofs.Math.ListN.{length, length-map}
use Rattle.std.proofs.Math.Decide.{dec_lt}
use Rattle.pack.specs.State.{State, belief, node, nowhere, meaning, target}
use Rattle.pack.specs.Syntax.{Node}
use Rattle.pack.specs.Laws.Table.{belief_in, belief_out}
use Rattle.chart.specs.Chart.{meets, Fresh, met, Ordered, Written}
use Rattle.chart.specs.Laws.Unique.{some}

-- how many classes the first i rows have
unfoldable pub classes : (ℕ → ℕ) → ℕ → ℕ
classes cls zero = 0
classes cls (suc i) = max (classes cls i) (suc (cls i))

pub get_d_map : (f : ℕ → ℕ) (bs : List ℕ) (c : ℕ) → c < length bs → get_or (map f bs) c 0 ≡ f (get_or bs c 0)
get_d_map f [] c h = absurd (omega arith)
get_d_map f (b ∷ bs) zero h = refl
get_d_map f (b ∷ bs) (suc c) h = get_d_map f bs c (omega arith)

pub meets_up : (k : ℕ) (bs : List ℕ) → k ≤ meets k bs
unfolding meets
meets_up k [] = omega arith
meets_up k (b ∷ bs) = omega (arith, meets_up (max k (suc b)) bs)

pub meets_in : (k : ℕ) (bs : List ℕ) (j : ℕ) → j < length bs → get_or bs j 0 < meets k bs
unfolding meets
meets_in k [] j h = absurd (omega arith)
meets_in k (b ∷ bs) zero h = omega (arith, meets_up (max k (suc b)) bs)
meets_in k (b ∷ bs) (suc j) h = meets_in (max k (suc b)) bs j (omega arith)

meets_low : (k : ℕ) (bs : List ℕ) → ((j : ℕ) → j < length bs → get_or bs j 0 < k) → meets k bs ≡ k
unfolding meets
meets_low k [] h = refl
meets_low k (b ∷ bs) h =
    let l = h 0 (omega arith) in let e : max k (suc b) ≡ k = omega arith in
    rw e (meets_low k bs (λ j l. h (suc j) (omega arith)))

pub met_up : (t : List Node) (m n : ℕ) → m ≤ n → met t m ≤ met t n
unfolding met
met_up t m zero h = let e : m ≡ 0 = omega arith in rw e (omega arith)
met_up t m (suc n) h =
    ⊎_elim (λ (e : m ≡ suc n). rw e (omega arith))
    (λ (l : m < suc n).
    omega (arith, met_up t m n (le_of_suc-le-suc l), meets_up (met t n) (get_or t n nowhere).beliefs))
    (eq-or-lt_of_le h)

-- a class that is new has the next number, among the first N rows
abbrev pub Numbered : (ℕ → ℕ) → ℕ → Type 0
Numbered cls N = (i : ℕ) → i < N → cls i ≤ classes cls i

pub grows : (cls : ℕ → ℕ) (i j : ℕ) → i < j → cls i < classes cls j
unfolding classes
grows cls i zero l = absurd (omega arith)
grows cls i (suc j) l =
    ⊎_elim (λ (e : i ≡ j). rw e (omega arith)) (λ (l : i < j). omega (arith, grows cls i j l))
    (eq-or-lt_of_le (le_of_suc-le-suc l))

-- there are no more classes than rows
pub no_more : (cls : ℕ → ℕ) (n : ℕ) → Numbered cls n → classes cls n ≤ n
unfolding classes
no_more cls zero d = omega arith
no_more cls (suc n) d = let g = d n (omega arith) in let h = no_more cls n (λ i l. d i (omega arith)) in omega arith

-- and where there are as many, each row is a class of its own
pub all_apart : (cls : ℕ → ℕ) (n : ℕ) → Numbered cls n → classes cls n ≡ n → (i : ℕ) → i < n → cls i ≡ i
unfolding classes
all_apart cls zero d e i l = absurd (omega arith)
all_apart cls (suc n) d e i l =
    let g = d n (omega arith) in
    let h = no_more cls n (λ i l. d i (omega arith)) in
    ⊎_elim (λ (z : i ≡ n). rw z (omega arith))
    (λ (l : i < n). all_apart cls n (λ i l. d i (omega arith)) (omega arith) i l) (eq-or-lt_of_le (le_of_suc-le-suc l))

-- the first row of a class
pub first : (cls : ℕ → ℕ) (m : ℕ) → Numbered cls m → (q : ℕ) → q < classes cls m
    → (i : ℕ) × (i < m) × (cls i ≡ q) × (classes cls i ≡ q)
unfolding classes
first cls zero d q l = absurd (omega arith)
first cls (suc m) d q l =
    by_cases (dec_lt q (classes cls m))
    (λ l. let (i, li, e, f) = first cls m (λ i h. d i (omega arith)) q l in (i, omega arith, e, f))
    (λ x. let g = d m (omega arith) in (m, omega arith, omega arith, omega arith))

pub record Merged (C : ℕ) (t : List Node) (cls : ℕ → ℕ) (u : List Node) : Type 0 where
  pub ordered : Ordered C t
  pub exact : (i j : ℕ) → i < length t → j < length t → (cls i ≡ cls j) ↔ (meaning C t i ≡ meaning C t j)
  pub numbered : Numbered cls (length t)
  pub long : length u ≡ classes cls (length t)
  pub rows : (i : ℕ) → i < length t → cls i ≡ classes cls i
      → node u (cls i) ≡ record { values = (node t i).values; beliefs = map cls (node t i).beliefs }

module _ (C : ℕ) (t : List Node) (cls : ℕ → ℕ) (u : List Node) (d : Merged C t cls u) where
  abbrev K : ℕ → ℕ
  K = classes cls

  -- the first row of class q, and row q
  head : (q : ℕ) → q < length u
      → (i : ℕ) × (i < length t) × (cls i ≡ q) × (K i ≡ q)
      × (node u q ≡ record { values = (node t i).values; beliefs = map cls (node t i).beliefs })
  head q h = let (i, l, e, f) = first cls (length t) d.numbered q (omega (arith, d.long)) in
      (i, l, e, f, ap (node u) (sym e) ∙ d.rows i l (e ∙ sym f))

  names : (q c : ℕ) (h : q < length u) → c < C → target u q c ≡ cls (target t (head q h).0 c)
  names q c h l =
      ap (λ (n : Node). get_or n.beliefs c 0) (head q h).4
      ∙ get_d_map cls (node t (head q h).0).beliefs c (omega (arith, d.ordered.wide (head q h).0 (head q h).1))

  below : (i : ℕ) → i < length t → cls i < length u
  below i h = omega (arith, d.long, grows cls i (length t) h)

  -- what row i means is what its class means
  finds : (chain : List ℕ) (i : ℕ) → i < length t → meaning C u (cls i) chain ≡ meaning C t i chain
  unfolding meaning
  finds [] i h =
      let (r, lr, e, f, n) = head (cls i) (below i h) in
      ap (λ (n : Node). n.values) n ∙ ap (λ (s : State). s []) ((d.exact r i lr h).0 e)
  finds (c ∷ chain) i h =
      let (r, lr, e, f, n) = head (cls i) (below i h) in
      by_cases (dec_lt c C)
      (λ l. ap (λ (s : State). s chain) (belief_in C u (cls i) c l ∙ ap (meaning C u) (names (cls i) c (below i h) l))
      ∙ finds chain (target t r c) (d.ordered.closed r c lr l)
      ∙ ap (λ (s : State). s chain)
      (sym (belief_in C t r c l) ∙ ap (λ (s : State). belief s c) ((d.exact r i lr h).0 e)))
      (λ x.
      ap (λ (s : State). s chain) (belief_out C u (cls i) c (omega arith) ∙ sym (belief_out C t i c (omega arith))))

  pub kept : (i : ℕ) → i < length t → meaning C u (cls i) ≡ meaning C t i
  kept i h = fun_ext λ chain. finds chain i h

  -- reading beliefs by class: as many classes are met as the nodes met have
  step : (k b : ℕ) → b ≤ k → b < length t → (cls b ≤ K k) × (max (K k) (suc (cls b)) ≡ K (max k (suc b)))
  unfolding classes
  step k b h l =
      by_cases (dec_lt b k)
      (λ x. let g = grows cls b k x in let e : max k (suc b) ≡ k = omega arith in (omega arith, rw e (omega arith)))
      (λ x. let e : k ≡ b = omega arith in
      rw e (let g : max b (suc b) ≡ suc b = omega arith in (d.numbered b l, rw g refl)))

  read : (k : ℕ) (bs : List ℕ) → meets k bs ≤ length t → Fresh k bs
      → Fresh (K k) (map cls bs) × (meets (K k) (map cls bs) ≡ K (meets k bs))
  unfolding meets Fresh
  read k [] h f = (tt, refl)
  read k (b ∷ bs) h f =
      let (x, e) = step k b f.0 (omega (arith, meets_up (max k (suc b)) bs)) in
      let r = read (max k (suc b)) bs h f.1 in
      ((x, rw e r.0), ap (λ (k : ℕ). meets k (map cls bs)) e ∙ r.1)

  read_row : (m : ℕ) → m < length t
      → Fresh (K (met t m)) (map cls (node t m).beliefs)
      × (meets (K (met t m)) (map cls (node t m).beliefs) ≡ K (met t (suc m)))
  unfolding met
  read_row m h =
      read (met t m) (node t m).beliefs (omega (arith, met_up t (suc m) (length t) h, d.ordered.whole))
      (d.ordered.fresh m h)

  -- a row whose class is not new names none that is
  again : (m : ℕ) → m < length t → cls m < K m → K (met t (suc m)) ≡ K (met t m)
  unfolding met
  again m h l =
      let (r, lr, e, f) = first cls m (λ i l. d.numbered i (omega arith)) (cls m) l in
      let same : meaning C t m ≡ meaning C t r = (d.exact m r h (omega arith)).0 (sym e) in
      sym (read_row m h).1 ∙ meets_low (K (met t m)) (map cls (node t m).beliefs) (λ j lj.
      let lc : j < C = omega (arith, length-map (node t m).beliefs cls, d.ordered.wide m h) in
      let lm : j < length (node t m).beliefs = omega (arith, d.ordered.wide m h) in
      let hr : r < length t = omega arith in
      let eq : cls (target t m j) ≡ cls (target t r j) =
      (d.exact (target t m j) (target t r j) (d.ordered.closed m j h lc) (d.ordered.closed r j hr lc)).1
      (sym (belief_in C t m j lc) ∙ ap (λ (s : State). belief s j) same ∙ belief_in C t r j lc) in
      omega (
        arith,
        get_d_map cls (node t m).beliefs j lm,
        grows cls (target t r j) (met t m) (omega (
          arith,
          meets_in (met t r) (node t r).beliefs j (omega (arith, d.ordered.wide r hr)),
          met_up t (suc r) m lr,
        )),
      ))

  -- the classes met by reading the first rows
  meets_of : (m : ℕ) → m ≤ length t → met u (K m) ≡ K (met t m)
  unfolding met classes
  meets_of zero h = omega (arith, d.numbered 0 (some t d.ordered.whole))
  meets_of (suc m) h =
      let before = meets_of m (omega arith) in
      by_cases (dec_lt (cls m) (K m))
      (λ l. let e : K (suc m) ≡ K m = omega arith in ap (met u) e ∙ before ∙ sym (again m h l))
      (λ x. let e : cls m ≡ K m = omega (arith, d.numbered m h) in
      let g : K (suc m) ≡ suc (K m) = omega arith in
      ap (met u) g ∙ ap₂ meets before (ap (λ (n : Node). n.beliefs) (ap (node u) (sym e) ∙ d.rows m h e))
      ∙ (read_row m h).1)

  pub merged_ordered : Ordered C u
  merged_ordered = record {
    closed = λ q c h l. let (i, li, e, f, n) = head q h in
        omega (arith, names q c h l, below (target t i c) (d.ordered.closed i c li l));
    wide = λ q h. let (i, li, e, f, n) = head q h in
        ap (λ (n : Node). length n.beliefs) n ∙ length-map (node t i).beliefs cls ∙ d.ordered.wide i li;
    known = λ q h. let (i, li, e, f, n) = head q h in
        rw (sym f) (omega (arith, meets_of i (omega arith), grows cls i (met t i) (d.ordered.known i li)));
    fresh = λ q h. let (i, li, e, f, n) = head q h in
        rw n (subst (λ (k : ℕ). Fresh k (map cls (node t i).beliefs)) (sym (meets_of i (omega arith)) ∙ ap (met u) f)
        (read_row i li).0);
    whole = ap (met u) d.long ∙ meets_of (length t) (omega arith) ∙ ap K d.ordered.whole ∙ sym d.long;
  }

  pub merged : Written C u
  merged = record {
    ordered = merged_ordered;
    apart = λ q r l h x.
        let (i, li, e, _, _) = head q (omega arith) in
        let (j, lj, f, _, _) = head r h in
        let z = (d.exact i j li lj).1
        (sym (kept i li) ∙ ap (meaning C u) e ∙ x ∙ ap (meaning C u) (sym f) ∙ kept j lj) in
        omega arith;
  }
