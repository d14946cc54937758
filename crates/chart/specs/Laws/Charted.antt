-- Whatever state a table means has a written chart: its rows that are reached, in order, one for each meaning. So it is
-- decided how many states its chains lead to. Assumes nothing.
use Rattle.std.proofs.Common.{ℕ, zero, suc, ◌-◌, ◌<◌, ◌≤◌, min, ◌∙◌, subst, ⊎_elim, eq-or-lt_of_le, le_of_suc-le-suc}
use Rattle.std.proofs.Common.{List, map, arith}
use Rattle.std.specs.Prelude.{◌≡◌, ◌↔◌, length}
use Rattle.std.proofs.Math.Path.{refl, sym, ap}
use Rattle.std.proofs.Math.Logic.{by_cases}
use Rattle.std.proofs.Math.Decide.{dec_lt, dec_le, map_dec}
use Rattle.chart.specs.Laws.Moore as moore
use Rattle.pack.specs.State.{State, node, nowhere, meaning, target, Closed}
use Rattle.pack.specs.Syntax.{Node}
use Rattle.chart.specs.Chart.{Ordered, Written}
use Rattle.chart.specs.States.{AtMost}
use Rattle.chart.specs.Laws.Bridge.{val, meaning_at}
use Rattle.chart.specs.Laws.Classes.{Sorts, First, first?, head, head_one}
use Rattle.chart.specs.Laws.Counted.{counted}
use Rattle.chart.specs.Laws.Lists.{tabulate, length_tabulate, get_d_tabulate}
use Rattle.chart.specs.Laws.Merged.{classes, grows, first, Merged, merged, kept}
use Rattle.chart.specs.Laws.Reach.{reaching}
use Rattle.chart.specs.Laws.Tabled.{Tabled}
use Rattle.chart.specs.Laws.Unique.{some, ordered_reached}

-- two rows mean the same, or they don't
pub same? : (C : ℕ) (t : List Node) → Closed C t → (i j : ℕ) → i < length t → j < length t
    → Dec (meaning C t i ≡ meaning C t j)
same? C t closed i j li lj =
    ⊎_elim
    (λ s.
    yes (meaning_at C t i ∙ moore.bound C (val C t) (target t) (length t) closed i j li lj s ∙ sym (meaning_at C t j)))
    (λ (a : moore.Apart C (val C t) (target t) (length t - 1) i j).
    no (λ e. a.2 (ap (λ (s : State). s a.0) (sym (meaning_at C t i) ∙ e ∙ meaning_at C t j))))
    (moore.same_or_apart C (val C t) (target t) (length t - 1) i j)

more : {A : Type 0} → Dec A → ℕ → ℕ
more (yes f) k = suc k
more (no f) k = k

-- Classes numbered by their first members
module _ {R : ℕ → ℕ → Type 0} (s : Sorts R) where
  tally : ℕ → ℕ
  tally zero = 0
  tally (suc n) = more (first? s n) (tally n)

  tally_new : (n : ℕ) → First R n → tally (suc n) ≡ suc (tally n)
  unfolding tally more
  tally_new n f = elim (first? s n) as (λ d. more d (tally n) ≡ suc (tally n)) [ yes g ↦ refl | no g ↦ absurd (g f) ]

  tally_old : (n : ℕ) → ¬ First R n → tally (suc n) ≡ tally n
  unfolding tally more
  tally_old n f = elim (first? s n) as (λ d. more d (tally n) ≡ tally n) [ yes g ↦ absurd (f g) | no g ↦ refl ]

  tally_up : (m n : ℕ) → m ≤ n → tally m ≤ tally n
  tally_up m zero h = let e : m ≡ 0 = omega arith in rw e (omega arith)
  tally_up m (suc n) h =
      ⊎_elim (λ (e : m ≡ suc n). rw e (omega arith))
      (λ (l : m < suc n). let r = tally_up m n (le_of_suc-le-suc l) in
      by_cases (first? s n) (λ f. omega (arith, tally_new n f)) (λ f. omega (arith, tally_old n f))) (eq-or-lt_of_le h)

  tally_past : (m n : ℕ) → m < n → First R m → tally m < tally n
  tally_past m n h f = omega (arith, tally_new m f, tally_up (suc m) n h)

  pub class : ℕ → ℕ
  class n = tally (head s n).0

  pub class_same : (n m : ℕ) → (class n ≡ class m) ↔ R n m
  unfolding class
  class_same n m =
      let (a, la, ra, fa) = head s n in
      let (b, lb, rb, fb) = head s m in (
        λ e. let g : a ≡ b = by_cases (dec_lt a b) (λ l. absurd (omega (arith, tally_past a b l fa)))
            (λ x. by_cases (dec_lt b a) (λ l. absurd (omega (arith, tally_past b a l fb))) (λ y. omega arith)) in
            s.join (s.back ra) (subst (λ (x : ℕ). R x m) (sym g) rb),
        λ x. ap tally (head_one s a b fa fb (s.join ra (s.join x (s.back rb)))),
      )

  class_tally : (i : ℕ) → classes class i ≡ tally i
  unfolding classes class tally
  class_tally zero = refl
  class_tally (suc i) =
      let (a, la, ra, fa) = head s i in
      let e = class_tally i in
      by_cases (first? s i)
      (λ f. let g : a ≡ i = head_one s a i fa f ra in omega (arith, tally_new i f, ap tally g))
      (λ f. let l : a < i = by_cases (dec_lt a i) (λ l. l)
      (λ x. let g : a ≡ i = omega arith in absurd (f (subst (First R) g fa))) in
      omega (arith, tally_old i f, tally_past a i l fa))

  pub class_numbered : (i : ℕ) → class i ≤ classes class i
  unfolding class
  class_numbered i = let (a, la, ra, fa) = head s i in omega (arith, class_tally i, tally_up a i la)

-- one row for each class
module _ (C : ℕ) (t : List Node) (w : Ordered C t) where
  pos : 0 < length t
  pos = some t w.whole

  -- a row, whatever the number
  cap : ℕ → ℕ
  cap n = min n (length t - 1)

  cap_in : (n : ℕ) → cap n < length t
  unfolding cap
  cap_in n = omega (arith, pos)

  cap_id : (n : ℕ) → n < length t → cap n ≡ n
  unfolding cap
  cap_id n h = omega arith

  alike : Sorts (λ n m. meaning C t (cap n) ≡ meaning C t (cap m))
  alike = record {
    self = λ n. refl;
    back = λ e. sym e;
    join = λ e f. e ∙ f;
    test = λ n m. same? C t w.closed (cap n) (cap m) (cap_in n) (cap_in m);
  }

  cls : ℕ → ℕ
  cls = class alike

  rep : (q : ℕ) → q < classes cls (length t) → (i : ℕ) × (i < length t) × (cls i ≡ q) × (classes cls i ≡ q)
  unfolding cls
  rep q l = first cls (length t) (λ i h. class_numbered alike i) q l

  line : (q : ℕ) → q < classes cls (length t) → Node
  line q l = let i = (rep q l).0 in record { values = (node t i).values; beliefs = map cls (node t i).beliefs }

  lines : List Node
  lines = tabulate (classes cls (length t)) line

  merging : Merged C t cls lines
  unfolding cls lines line
  merging = record {
    ordered = w;
    exact = λ i j li lj.
        let x = class_same alike i j in
        let ei = ap (meaning C t) (cap_id i li) in
        let ej = ap (meaning C t) (cap_id j lj) in
        (λ e. sym ei ∙ x.0 e ∙ ej, λ e. x.1 (ei ∙ e ∙ sym ej));
    numbered = λ i l. class_numbered alike i;
    long = length_tabulate (classes cls (length t)) line;
    rows = λ i li e.
        let l : cls i < classes cls (length t) = grows cls i (length t) li in
        let (r, lr, f, g) = rep (cls i) l in
        let same : r ≡ i = by_cases (dec_lt r i) (λ h. absurd (omega (arith, grows cls r i h)))
        (λ x. by_cases (dec_lt i r) (λ h. absurd (omega (arith, grows cls i r h))) (λ y. omega arith)) in
        get_d_tabulate (classes cls (length t)) line nowhere (cls i) l
        ∙ ap (λ (i : ℕ). record { values = (node t i).values; beliefs = map cls (node t i).beliefs }) same;
  }

-- the written chart
pub record Charting (C : ℕ) (s : State) : Type 0 where
  pub rows : List Node
  pub written : Written C rows
  pub means : meaning C rows 0 ≡ s

pub chart : {C : ℕ} {s : State} → Tabled C s → Charting C s
chart {C} x =
    let C = C in
    let (u, w, e) = reaching C x.table x.closed x.some in
    let m = merging C u w in
    let pos : 0 < length u = some u w.whole in
    let z : cls C u w 0 ≡ 0 = omega (arith, m.numbered 0 pos, classes-zero (cls C u w)) in
    record {
      rows = lines C u w;
      written = merged C u (cls C u w) (lines C u w) m;
      means = ap (meaning C (lines C u w)) (sym z) ∙ kept C u (cls C u w) (lines C u w) m 0 pos ∙ e ∙ x.means;
    }
  where
    classes-zero : (cls : ℕ → ℕ) → classes cls 0 ≡ 0
    classes-zero cls = unfold classes in refl

module _ {C : ℕ} {s : State} (x : Charting C s) where
  pub few_rows : (n : ℕ) → AtMost n C s ↔ (length x.rows ≤ n)
  few_rows n =
      let w = x.written.ordered in
      subst (λ (s : State). AtMost n C s ↔ (length x.rows ≤ n)) x.means
      (counted C x.rows (ordered_reached C x.rows w) w.closed (some x.rows w.whole)
      x.written.apart n)

pub few? : {C : ℕ} {s : State} → Tabled C s → (n : ℕ) → Dec (AtMost n C s)
few? x n = let c = chart x in let e = few_rows c n in map_dec e.1 e.0 (dec_le (length c.rows) n)
