-- Two states that tables mean compared: the same, or the shortest chain to a difference, the earliest of those, and the
-- lowest fluent there. Assumes nothing.
use Rattle.std.specs.Prelude.{ℕ, ◌+◌, ◌-◌, ◌<◌, ◌≤◌, ◌≡◌, refl, cond, ◌≢◌, get_or, ltb}
use Rattle.std.proofs.Common.{sym, ◌∙◌, inl, inr, ⊎_elim, ext_get_or, List, [], ◌∷◌, lt-ltb, le-ltb, arith}
use Rattle.std.proofs.Math.Path.{ap, subst, fun_ext}
use Rattle.std.proofs.Math.Logic.{by_cases}
use Rattle.std.proofs.Math.Logic.Dec
use mathlib.Core.List.{List-discrete}
use Rattle.std.proofs.Math.ListN.{length}
use Rattle.std.proofs.Math.Decide.{ℕ_discrete, dec_lt}
use Rattle.chart.specs.Laws.Moore as moore
use Rattle.pack.specs.State.{State, Valid, node, meaning, target, Closed}
use Rattle.pack.specs.Syntax.{Node}
use Rattle.pack.specs.Laws.Table.{belief_in, belief_out}
use Rattle.chart.specs.Compare.{Compared, Verdict, same, differ}
use Rattle.chart.specs.Earliest.{Earliest}
use Rattle.chart.specs.States.{Wide}
use Rattle.chart.specs.Laws.Count.{least}
use Rattle.chart.specs.Laws.Earliest.{differ_one}
use Rattle.chart.specs.Laws.Seek.{seek}
use Rattle.chart.specs.Laws.Tables.{Full}

-- a chain that finds a difference is of characters that are there
pub differ_valid : (C : ℕ) (t u : List Node) (chain : List ℕ) (n m : ℕ) → meaning C t n chain ≢ meaning C u m chain
    → Valid C chain
unfolding Valid
differ_valid C t u [] n m h = tt
differ_valid C t u (c ∷ chain) n m h =
    by_cases (dec_lt c C)
    (λ l. (
      l,
      differ_valid C t u chain (target t n c) (target u m c)
          (λ e. h
          (ap (λ (s : State). s chain) (belief_in C t n c l) ∙ e
          ∙ ap (λ (s : State). s chain) (sym (belief_in C u m c l)))),
    ))
    (λ x. absurd
    (h (ap (λ (s : State). s chain) (belief_out C t n c (omega arith) ∙ sym (belief_out C u m c (omega arith))))))

valid? : (C : ℕ) (chain : List ℕ) → Dec (Valid C chain)
unfolding Valid
valid? C [] = yes tt
valid? C (c ∷ chain) = Dec.and (dec_lt c C) (valid? C chain)

-- two tables as one: the second's rows behind the first's
module _ (C : ℕ) (t u : List Node) (ct : Closed C t) (cu : Closed C u) where
  val : ℕ → List ℕ
  val n = cond (ltb n (length t)) (node t n).values (node u (n - length t)).values

  bel : ℕ → ℕ → ℕ
  bel n c = cond (ltb n (length t)) (target t n c) (length t + target u (n - length t) c)

  bel_left : (n c : ℕ) → n < length t → bel n c ≡ target t n c
  unfolding bel
  bel_left n c h = rw lt-ltb

  bel_right : (n c : ℕ) → bel (length t + n) c ≡ length t + target u n c
  unfolding bel
  bel_right n c =
      let e : (length t + n) - length t ≡ n = omega arith in rw (le-ltb (length t + n) (length t) (omega arith), e)

  left : (chain : List ℕ) (n : ℕ) → n < length t → moore.at C val bel n chain ≡ meaning C t n chain
  unfolding moore.at meaning val
  left [] n h = rw lt-ltb
  left (c ∷ chain) n h =
      by_cases (dec_lt c C)
      (λ l. moore.at_in C val bel n c chain l ∙ ap (λ (n : ℕ). moore.at C val bel n chain) (bel_left n c h)
      ∙ left chain (target t n c) (ct n c h l) ∙ ap (λ (s : State). s chain) (sym (belief_in C t n c l)))
      (λ x. moore.at_out C val bel n c chain (omega arith)
      ∙ ap (λ (s : State). s chain) (sym (belief_out C t n c (omega arith))))

  right : (chain : List ℕ) (n : ℕ) → n < length u → moore.at C val bel (length t + n) chain ≡ meaning C u n chain
  unfolding moore.at meaning val
  right [] n h =
      let e : (length t + n) - length t ≡ n = omega arith in rw (le-ltb (length t + n) (length t) (omega arith), e)
  right (c ∷ chain) n h =
      by_cases (dec_lt c C)
      (λ l. moore.at_in C val bel (length t + n) c chain l ∙ ap (λ (n : ℕ). moore.at C val bel n chain) (bel_right n c)
      ∙ right chain (target u n c) (cu n c h l) ∙ ap (λ (s : State). s chain) (sym (belief_in C u n c l)))
      (λ x. moore.at_out C val bel (length t + n) c chain (omega arith)
      ∙ ap (λ (s : State). s chain) (sym (belief_out C u n c (omega arith))))

  closed : (n c : ℕ) → n < length t + length u → c < C → bel n c < length t + length u
  closed n c h l =
      by_cases (dec_lt n (length t)) (λ g. omega (arith, bel_left n c g, ct n c g l))
      (λ g. let k = n - length t in let e : n ≡ length t + k = omega arith in
      omega (arith, ap (λ (n : ℕ). bel n c) e ∙ bel_right k c, cu k c (omega arith) l))

  -- chains of at most N + M - 2 characters tell apart what any chain does
  pub short : 0 < length t → 0 < length u
      → ((chain : List ℕ) → length chain ≤ (length t + length u) - 2 → meaning C t 0 chain ≡ meaning C u 0 chain)
      → meaning C t 0 ≡ meaning C u 0
  short st su h =
      let e = moore.bound C val bel (length t + length u) closed 0 (length t + 0) (omega arith) (omega arith)
      (λ chain l. left chain 0 st ∙ h chain (omega arith) ∙ sym (right chain 0 su)) in
      fun_ext λ chain. sym (left chain 0 st) ∙ ap (λ (s : State). s chain) e ∙ right chain 0 su

-- the lowest place where two lists of one length differ
lowest : (v w : List ℕ) → length v ≡ length w → v ≢ w
    → (f : ℕ) × (f < length v) × (get_or v f 0 ≢ get_or w f 0) × ((g : ℕ) → g < f → get_or v g 0 ≡ get_or w g 0)
lowest v w e n =
    ⊎_elim (λ h. absurd (n (ext_get_or 0 v w e h))) (λ r. r)
    (least {P = λ f. get_or v f 0 ≡ get_or w f 0} {Q = λ f. get_or v f 0 ≢ get_or w f 0}
    (λ f. by_cases (ℕ_discrete (get_or v f 0) (get_or w f 0)) (λ x. inl x) (λ x. inr x)) (length v))

pub compared_one : (C : ℕ) (s s' : State) (r r' : Verdict) → Compared C s s' r → Compared C s s' r' → r ≡ r'
compared_one C s s' same same x y = refl
compared_one C s s' same (differ chain f) x y = absurd (y.first.good.1 (ap (λ (s : State). s chain) x))
compared_one C s s' (differ chain f) same x y = absurd (x.first.good.1 (ap (λ (s : State). s chain) y))
compared_one C s s' (differ chain f) (differ chain' f') x y = let (a, b) = differ_one x y in λ i. differ (a i) (b i)

-- how long a verdict's chain is
abbrev Long : Verdict → ℕ
Long same = 0
Long (differ chain f) = length chain

module _ (C F : ℕ) (t u : List Node) (ct : Closed C t) (cu : Closed C u) (st : 0 < length t) (su : 0 < length u)
    (ft : Wide C F (meaning C t 0)) (fu : Wide C F (meaning C u 0)) where
  abbrev Good : List ℕ → Type 0
  Good chain = Valid C chain × (meaning C t 0 chain ≢ meaning C u 0 chain)

  good? : (chain : List ℕ) → Dec (Good chain)
  good? chain =
      Dec.and (valid? C chain) (Dec.not (List-discrete ℕ_discrete (meaning C t 0 chain) (meaning C u 0 chain)))

  pub compare : (r : Verdict) × (Long r ≤ (length t + length u) - 2) × Compared C (meaning C t 0) (meaning C u 0) r
  compare = ⊎_elim none found (seek C Good good? (λ l g. g.0) ((length t + length u) - 2))
    where
      none : ((l : List ℕ) → length l ≤ (length t + length u) - 2 → ¬ Good l)
          → (r : Verdict) × (Long r ≤ (length t + length u) - 2) × Compared C (meaning C t 0) (meaning C u 0) r
      none f = (
        same,
        omega arith,
        short C t u ct cu st su (λ chain l.
            by_cases (List-discrete ℕ_discrete (meaning C t 0 chain) (meaning C u 0 chain)) (λ x. x)
            (λ x. absurd (f chain l (differ_valid C t u chain 0 0 x, x)))),
      )

      found : (l : List ℕ) × (length l ≤ (length t + length u) - 2) × Earliest Good l
          → (r : Verdict) × (Long r ≤ (length t + length u) - 2) × Compared C (meaning C t 0) (meaning C u 0) r
      found (l, h, e) =
          let v = e.good.0 in
          let (f, lf, here, low) = lowest (meaning C t 0 l) (meaning C u 0 l) (ft l v ∙ sym (fu l v)) e.good.1 in
          (differ l f, h, record { first = e; here = here; lowest = low })

module _ {C F : ℕ} where
  comparing : {s s' : State} (x : Full C F s) (y : Full C F s')
      → (r : Verdict) × (Long r ≤ (length x.table.table + length y.table.table) - 2) × Compared C s s' r
  comparing {s} {s'} x y =
      let (r, l, h) = compare C F x.table.table y.table.table x.table.closed y.table.closed
      x.table.some y.table.some (subst (Wide C F) (sym x.table.means) x.wide)
      (subst (Wide C F) (sym y.table.means) y.wide) in (
        r,
        l,
        subst (λ (s : State). Compared C s s' r) x.table.means
            (subst (λ (s' : State). Compared C (meaning C x.table.table 0) s' r) y.table.means h),
      )

  pub compare_of : {s s' : State} → Full C F s → Full C F s' → Verdict
  compare_of x y = (comparing x y).0

  pub compared : {s s' : State} (x : Full C F s) (y : Full C F s') → Compared C s s' (compare_of x y)
  unfolding compare_of
  compared x y = (comparing x y).2

  -- with at most 32 nodes each the chain has at most 62 characters
  pub compare_short : {s s' : State} (x : Full C F s) (y : Full C F s') (chain : List ℕ) (f : ℕ)
      → compare_of x y ≡ differ chain f → length chain ≤ (length x.table.table + length y.table.table) - 2
  unfolding compare_of
  compare_short x y chain f e =
      subst (λ (r : Verdict). Long r ≤ (length x.table.table + length y.table.table) - 2) e (comparing x y).1
