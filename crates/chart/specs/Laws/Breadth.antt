-- Breadth first over pairs of rows: each pair that a chain leads to is met, and by no later chain, where shorter chains
-- come first and then those earlier by their numbers. Assumes nothing.
use Rattle.std.proofs.Common.{ℕ, zero, suc, ◌+◌, ◌<◌, ◌≤◌, ◌∙◌, inr, length-append, lt-ltb, le-ltb, List, [], ◌∷◌, ◌++◌}
use Rattle.std.proofs.Common.{arith}
use Rattle.std.specs.Prelude.{◌≡◌, refl, Bool, ◌⊎◌, ◌≢◌, ltb}
use Rattle.std.proofs.Math.Path.{sym, ap, ap₂, subst, fun_ext}
use Rattle.std.proofs.Math.Bool.{cond}
use Rattle.std.proofs.Math.Logic.{inl, ⊎_elim, by_cases}
use mathlib.Core.List.{List-discrete}
use Rattle.std.proofs.Math.ListN.{length}
use Rattle.std.proofs.Math.Decide.{ℕ_discrete, dec_lt, dec_le}
use Rattle.pack.specs.Syntax.{Node}
use Rattle.pack.specs.State.{Valid, node, target, meaning, walk}
use Rattle.pack.specs.Laws.Table.{finds_walk}
use Rattle.chart.specs.Earliest.{Before, Earliest}
use Rattle.chart.specs.Laws.Counted.{further}
use Rattle.chart.specs.Laws.Comparing.{differ_valid}

before_self : (a : List ℕ) → Before a a → ⊥
unfolding Before
before_self [] b = b
before_self (x ∷ a) b = ⊎_elim (λ (h : x < x). omega arith) (λ (r : (x ≡ x) × Before a a). before_self a r.1) b

before_on : (a b c : List ℕ) → Before a b → Before b c → Before a c
unfolding Before
before_on a b [] x y = y
before_on [] [] (r ∷ c) x y = x
before_on [] (q ∷ b) (r ∷ c) x y = x
before_on (p ∷ a) [] (r ∷ c) x y = absurd x
before_on (p ∷ a) (q ∷ b) (r ∷ c) x y =
    ⊎_elim
    (λ (h : p < q).
    ⊎_elim (λ (g : q < r). inl (omega arith)) (λ (g : (q ≡ r) × Before b c). inl (omega (arith, g.0))) y)
    (λ (h : (p ≡ q) × Before a b). ⊎_elim (λ (g : q < r). inl (omega (arith, h.0)))
    (λ (g : (q ≡ r) × Before b c). inr (h.0 ∙ g.0, before_on a b c h.1 g.1)) y) x

before_more : (a b s t : List ℕ) → Before a b → Before (a ++ s) (b ++ t)
unfolding Before
before_more a [] s t x = absurd x
before_more [] (q ∷ b) s t x = absurd x
before_more (p ∷ a) (q ∷ b) s t x =
    ⊎_elim (λ (h : p < q). inl h) (λ (h : (p ≡ q) × Before a b). inr (h.0, before_more a b s t h.1)) x

before_last : (a : List ℕ) (x y : ℕ) → x < y → Before (a ++ (x ∷ [])) (a ++ (y ∷ []))
unfolding Before
before_last [] x y h = inl h
before_last (z ∷ a) x y h = inr (refl, before_last a x y h)

-- a is shorter than b, or as long and earlier by its numbers
abbrev pub Ahead : List ℕ → List ℕ → Type 0
Ahead a b = (length a < length b) ⊎ ((length a ≡ length b) × Before a b)

ahead_self : (a : List ℕ) → Ahead a a → ⊥
ahead_self a h =
    ⊎_elim (λ (l : length a < length a). omega arith)
    (λ (r : (length a ≡ length a) × Before a a). before_self a r.1) h

ahead_on : (a b c : List ℕ) → Ahead a b → Ahead b c → Ahead a c
ahead_on a b c x y =
    ⊎_elim
    (λ (h : length a < length b). ⊎_elim (λ (g : length b < length c). inl (omega arith))
    (λ (g : (length b ≡ length c) × Before b c). inl (omega (arith, g.0))) y)
    (λ (h : (length a ≡ length b) × Before a b).
    ⊎_elim (λ (g : length b < length c). inl (omega (arith, h.0)))
    (λ (g : (length b ≡ length c) × Before b c). inr (h.0 ∙ g.0, before_on a b c h.1 g.1)) y) x

one_more : (a : List ℕ) (x : ℕ) → length (a ++ (x ∷ [])) ≡ suc (length a)
one_more a x = omega (arith, length-append a (x ∷ []))

ahead_more : (a b : List ℕ) (x y : ℕ) → Ahead a b → Ahead (a ++ (x ∷ [])) (b ++ (y ∷ []))
ahead_more a b x y h =
    ⊎_elim (λ (l : length a < length b). inl (omega (arith, one_more a x, one_more b y)))
    (λ (r : (length a ≡ length b) × Before a b).
    inr (omega (arith, one_more a x, one_more b y, r.0), before_more a b (x ∷ []) (y ∷ []) r.1)) h

ahead_last : (a : List ℕ) (x y : ℕ) → x < y → Ahead (a ++ (x ∷ [])) (a ++ (y ∷ []))
ahead_last a x y h = inr (omega (arith, one_more a x, one_more a y), before_last a x y h)

-- a is b, or ahead of it
abbrev pub NotAfter : List ℕ → List ℕ → Type 0
NotAfter a b = (a ≡ b) ⊎ Ahead a b

not_after_more : (a b : List ℕ) (x : ℕ) → NotAfter a b → NotAfter (a ++ (x ∷ [])) (b ++ (x ∷ []))
not_after_more a b x h =
    ⊎_elim (λ (e : a ≡ b). inl (ap (λ (l : List ℕ). l ++ (x ∷ [])) e)) (λ (l : Ahead a b). inr (ahead_more a b x x l)) h

not_after_on : (a b c : List ℕ) → NotAfter a b → NotAfter b c → NotAfter a c
not_after_on a b c x y =
    ⊎_elim (λ (e : a ≡ b). subst (λ (a : List ℕ). NotAfter a c) (sym e) y)
    (λ (l : Ahead a b).
    ⊎_elim (λ (e : b ≡ c). inr (subst (Ahead a) e l)) (λ (g : Ahead b c). inr (ahead_on a b c l g)) y) x

not_after_ahead : (a b c : List ℕ) → NotAfter a b → Ahead b c → Ahead a c
not_after_ahead a b c x y =
    ⊎_elim (λ (e : a ≡ b). subst (λ (a : List ℕ). Ahead a c) (sym e) y) (λ (l : Ahead a b). ahead_on a b c l y) x

-- a list that is not empty, by its last number
last_of : (n : ℕ) (l : List ℕ) → length l ≡ suc n → (a : List ℕ) × (x : ℕ) × (l ≡ a ++ (x ∷ [])) × (length a ≡ n)
last_of n [] e = absurd (omega arith)
last_of zero (x ∷ []) e = ([], x, refl, refl)
last_of zero (x ∷ y ∷ l) e = absurd (omega arith)
last_of (suc n) (x ∷ l) e =
    let (a, y, g, h) = last_of n l (omega arith) in (x ∷ a, y, ap {B = List ℕ} (λ m. x ∷ m) g, omega arith)

valid_init : (C : ℕ) (a : List ℕ) (x : ℕ) → Valid C (a ++ (x ∷ [])) → Valid C a × (x < C)
unfolding Valid
valid_init C [] x v = (tt, v.0)
valid_init C (y ∷ a) x v = let (u, h) = valid_init C a x v.1 in ((v.0, u), h)

-- The first `count` pairs met from rows r and s on, in the order met: pair e is of the rows X e and Y e, and was met
-- from the pair `from e` by the character `char e`. All characters of the pairs below `done` have been followed, and
-- those below d of the pair `done`.
pub record Met (T : List Node) (C r s : ℕ) (X Y from char : ℕ → ℕ) (count done d : ℕ) : Type 0 where
  -- the chain by which a pair was met
  pub way : ℕ → List ℕ
  pub some : 0 < count
  pub root : way 0 ≡ []
  pub on : (e : ℕ) → 0 < e → e < count → (from e < e) × (way e ≡ way (from e) ++ (char e ∷ []))
  pub led : (e : ℕ) → e < count → Valid C (way e) × (X e ≡ walk T r (way e)) × (Y e ≡ walk T s (way e))
  pub sorted : (a b : ℕ) → a < b → b < count → Ahead (way a) (way b)
  pub turn : (e : ℕ) → 0 < e → e < count → (from e < done) ⊎ ((from e ≡ done) × (char e < d))
  pub past : (e k : ℕ) → e < count → k < C → (e < done) ⊎ ((e ≡ done) × (k < d))
      → (i : ℕ) × (i < count) × (X i ≡ target T (X e) k) × (Y i ≡ target T (Y e) k)
      × NotAfter (way i) (way e ++ (k ∷ []))

module _ {T : List Node} {C r s : ℕ} {X Y from char : ℕ → ℕ} where
  -- the pair that the empty chain leads to
  pub met_start : X 0 ≡ r → Y 0 ≡ s → Met T C r s X Y from char 1 0 0
  unfolding Valid walk
  met_start x y = record {
    way = λ e. [];
    some = omega arith;
    root = refl;
    on = λ e h l. absurd (omega arith);
    led = λ e h. let z : e ≡ 0 = omega arith in (tt, ap X z ∙ x, ap Y z ∙ y);
    sorted = λ a b h l. absurd (omega arith);
    turn = λ e h l. absurd (omega arith);
    past = λ e k h l p.
        ⊎_elim (λ (g : e < 0). absurd (omega arith)) (λ (g : (e ≡ 0) × (k < 0)). absurd (omega (arith, g.1))) p;
  }

  module _ {count done d : ℕ} (m : Met T C r s X Y from char count done d) where
    -- every pair met was met before the next one
    ahead_next : done < count → (i : ℕ) → i < count → Ahead (m.way i) (m.way done ++ (d ∷ []))
    ahead_next h i l =
        by_cases (dec_lt 0 i)
        (λ p. let (lf, e) = m.on i p l in subst (λ (a : List ℕ). Ahead a (m.way done ++ (d ∷ []))) (sym e)
        (⊎_elim
        (λ (g : from i < done). ahead_more (m.way (from i)) (m.way done) (char i) d (m.sorted (from i) done g h))
        (λ (g : (from i ≡ done) × (char i < d)).
        subst (λ (j : ℕ). Ahead (m.way j ++ (char i ∷ [])) (m.way done ++ (d ∷ []))) (sym g.0)
        (ahead_last (m.way done) (char i) d g.1)) (m.turn i p l)))
        (λ p. let z : i ≡ 0 = omega arith in
        inl (omega (arith, one_more (m.way done) d, ap (λ (j : ℕ). length (m.way j)) z, ap length m.root)))

    -- all characters of a pair have been followed
    pub met-row : d ≡ C → Met T C r s X Y from char count (done + 1) 0
    met-row z = record {
      way = m.way;
      some = m.some;
      root = m.root;
      on = m.on;
      led = m.led;
      sorted = m.sorted;
      turn = λ e h l.
          inl (⊎_elim (λ (g : from e < done). omega arith) (λ (g : (from e ≡ done) × (char e < d)). omega (arith, g.0))
          (m.turn e h l));
      past = λ e k h l p. ⊎_elim
          (λ (g : e < done + 1).
          by_cases (dec_lt e done) (λ q. m.past e k h l (inl q))
          (λ q. m.past e k h l (inr (omega arith, omega arith))))
          (λ (g : (e ≡ done + 1) × (k < 0)). absurd (omega (arith, g.1))) p;
    }

    -- a character leads to a pair that was met
    pub met_known : done < count → (i : ℕ) → i < count → X i ≡ target T (X done) d → Y i ≡ target T (Y done) d
        → Met T C r s X Y from char count done (d + 1)
    met_known h i l x y = record {
      way = m.way;
      some = m.some;
      root = m.root;
      on = m.on;
      led = m.led;
      sorted = m.sorted;
      turn = λ e h l.
          ⊎_elim (λ (g : from e < done). inl g)
          (λ (g : (from e ≡ done) × (char e < d)). inr (g.0, omega (arith, g.1))) (m.turn e h l);
      past = λ e k he hk p. ⊎_elim (λ (g : e < done). m.past e k he hk (inl g))
          (λ (g : (e ≡ done) × (k < d + 1)). by_cases (dec_lt k d) (λ q. m.past e k he hk (inr (g.0, q)))
          (λ q. let z : k ≡ d = omega (arith, g.1) in (
            i,
            l,
            x ∙ ap₂ (λ (e k : ℕ). target T (X e) k) (sym g.0) (sym z),
            y ∙ ap₂ (λ (e k : ℕ). target T (Y e) k) (sym g.0) (sym z),
            inr (subst (λ (e : ℕ). Ahead (m.way i) (m.way e ++ (k ∷ []))) (sym g.0)
                (subst (λ (k : ℕ). Ahead (m.way i) (m.way done ++ (k ∷ []))) (sym z) (ahead_next h i l))),
          )))
          p;
    }

    -- a character leads to a pair that was not: it is the next one
    module _ (h : done < count) (hd : d < C) where
      way' : ℕ → List ℕ
      way' e = cond (ltb e count) (m.way e) (m.way done ++ (d ∷ []))

      old : (e : ℕ) → e < count → way' e ≡ m.way e
      unfolding way'
      old e l = ap (λ (b : Bool). cond b (m.way e) (m.way done ++ (d ∷ []))) (lt-ltb e count l)

      new : (e : ℕ) → count ≤ e → way' e ≡ m.way done ++ (d ∷ [])
      unfolding way'
      new e l = ap (λ (b : Bool). cond b (m.way e) (m.way done ++ (d ∷ []))) (le-ltb e count l)

      module _ {X' Y' from' char' : ℕ → ℕ}
          (same : (e : ℕ) → e < count → (X' e ≡ X e) × (Y' e ≡ Y e) × (from' e ≡ from e) × (char' e ≡ char e))
          (x : X' count ≡ target T (X done) d) (y : Y' count ≡ target T (Y done) d) (f : from' count ≡ done)
          (c : char' count ≡ d) where
        on_old : (e : ℕ) → 0 < e → e < count → (from' e < e) × (way' e ≡ way' (from' e) ++ (char' e ∷ []))
        on_old e p q =
            let (lf, g) = m.on e p q in
            let (_, _, z, k) = same e q in (
              omega arith,
              old e q ∙ g
                  ∙ ap₂ (λ (a : List ℕ) (k : ℕ). a ++ (k ∷ [])) (sym (old (from e) (omega arith)) ∙ ap way' (sym z))
                  (sym k),
            )

        on_new : (e : ℕ) → e ≡ count → (from' e < e) × (way' e ≡ way' (from' e) ++ (char' e ∷ []))
        on_new e z =
            let g : from' e ≡ done = ap from' z ∙ f in (
              omega arith,
              new e (omega arith)
                  ∙ ap₂ (λ (a : List ℕ) (k : ℕ). a ++ (k ∷ [])) (sym (old done h) ∙ ap way' (sym g))
                  (sym (ap char' z ∙ c)),
            )

        led_old : (e : ℕ) → e < count → Valid C (way' e) × (X' e ≡ walk T r (way' e)) × (Y' e ≡ walk T s (way' e))
        led_old e q =
            let (v, a, b) = m.led e q in
            let (p, o, _, _) = same e q in (
              subst (Valid C) (sym (old e q)) v,
              p ∙ a ∙ ap (walk T r) (sym (old e q)),
              o ∙ b ∙ ap (walk T s) (sym (old e q)),
            )

        led_new : (e : ℕ) → e ≡ count → Valid C (way' e) × (X' e ≡ walk T r (way' e)) × (Y' e ≡ walk T s (way' e))
        led_new e z =
            let (v, a, b) = m.led done h in
            let (u, p) = further C T d hd (m.way done) r v in
            let q = (further C T d hd (m.way done) s v).1 in
            let g = new e (omega arith) in (
              subst (Valid C) (sym g) u,
              ap X' z ∙ x ∙ ap (λ (n : ℕ). target T n d) a ∙ sym p ∙ ap (walk T r) (sym g),
              ap Y' z ∙ y ∙ ap (λ (n : ℕ). target T n d) b ∙ sym q ∙ ap (walk T s) (sym g),
            )

        sorted' : (a b : ℕ) → a < b → b < count + 1 → Ahead (way' a) (way' b)
        sorted' a b p l =
            subst (λ (u : List ℕ). Ahead u (way' b)) (sym (old a (omega arith)))
            (by_cases (dec_lt b count) (λ q. subst (Ahead (m.way a)) (sym (old b q)) (m.sorted a b p q))
            (λ q. subst (Ahead (m.way a)) (sym (new b (omega arith))) (ahead_next h a (omega arith))))

        turn' : (e : ℕ) → 0 < e → e < count + 1 → (from' e < done) ⊎ ((from' e ≡ done) × (char' e < d + 1))
        turn' e p l =
            by_cases (dec_lt e count)
            (λ q. let (_, _, z, k) = same e q in
            ⊎_elim (λ (g : from e < done). inl (omega arith))
            (λ (g : (from e ≡ done) × (char e < d)). inr (z ∙ g.0, omega (arith, g.1))) (m.turn e p q))
            (λ q. let z : e ≡ count = omega arith in inr (ap from' z ∙ f, omega (arith, ap char' z ∙ c)))

        Follows : ℕ → ℕ → Type 0
        Follows e k =
            (i : ℕ) × (i < count + 1) × (X' i ≡ target T (X' e) k) × (Y' i ≡ target T (Y' e) k)
            × NotAfter (way' i) (way' e ++ (k ∷ []))

        past_old : (e k : ℕ) → e < count → k < C → (e < done) ⊎ ((e ≡ done) × (k < d)) → Follows e k
        unfolding Follows
        past_old e k l hk p =
            let (i, li, a, b, g) = m.past e k l hk p in
            let (xi, yi, _, _) = same i li in
            let (xe, ye, _, _) = same e l in (
              i,
              omega arith,
              xi ∙ a ∙ ap (λ (n : ℕ). target T n k) (sym xe),
              yi ∙ b ∙ ap (λ (n : ℕ). target T n k) (sym ye),
              subst (λ (u : List ℕ). NotAfter u (way' e ++ (k ∷ []))) (sym (old i li))
                  (subst (λ (u : List ℕ). NotAfter (m.way i) (u ++ (k ∷ []))) (sym (old e l)) g),
            )

        past_new : (e k : ℕ) → e ≡ done → k ≡ d → Follows e k
        unfolding Follows
        past_new e k z g =
            let (xe, ye, _, _) = same done h in (
              count,
              omega arith,
              x ∙ ap₂ (λ (n k : ℕ). target T n k) (sym (ap X' z ∙ xe)) (sym g),
              y ∙ ap₂ (λ (n k : ℕ). target T n k) (sym (ap Y' z ∙ ye)) (sym g),
              inl (new count (omega arith)
                  ∙ ap₂ (λ (a : List ℕ) (k : ℕ). a ++ (k ∷ [])) (sym (ap way' z ∙ old done h)) (sym g)),
            )

        pub met_new : Met T C r s X' Y' from' char' (count + 1) done (d + 1)
        unfolding Follows
        met_new = record {
          way = way';
          some = omega arith;
          root = old 0 m.some ∙ m.root;
          on = λ e p l. by_cases (dec_lt e count) (λ q. on_old e p q) (λ q. on_new e (omega arith));
          led = λ e l. by_cases (dec_lt e count) (λ q. led_old e q) (λ q. led_new e (omega arith));
          sorted = sorted';
          turn = turn';
          past = λ e k l hk p. ⊎_elim (λ (g : e < done). past_old e k (omega arith) hk (inl g))
              (λ (g : (e ≡ done) × (k < d + 1)). by_cases (dec_lt k d)
              (λ q. past_old e k (omega (arith, g.0)) hk (inr (g.0, q)))
              (λ q. past_new e k g.0 (omega (arith, g.1)))) p;
        }

  module _ {count done : ℕ} (m : Met T C r s X Y from char count done 0) (within : done ≤ count) where
    -- a pair whose chain is not after one ahead of the next pair's was met before that
    before_done : (ch : List ℕ) → (done < count → Ahead ch (m.way done)) → (j : ℕ) → j < count → NotAfter (m.way j) ch
        → j < done
    before_done ch a j l na =
        by_cases (dec_lt j done) (λ h. h)
        (λ h. let g = not_after_ahead (m.way j) ch (m.way done) na (a (omega arith)) in
        by_cases (dec_lt done j)
        (λ q. absurd (ahead_self (m.way j) (ahead_on (m.way j) (m.way done) (m.way j) g (m.sorted done j q l))))
        (λ q. let z : j ≡ done = omega arith in
        absurd (ahead_self (m.way done) (subst (λ (k : ℕ). Ahead (m.way k) (m.way done)) z g))))

    -- each chain ahead of the next pair's leads to a pair met before it
    reached : (n : ℕ) (ch : List ℕ) → length ch ≡ n → Valid C ch → (done < count → Ahead ch (m.way done))
        → (e : ℕ) × (e < done) × (X e ≡ walk T r ch) × (Y e ≡ walk T s ch) × NotAfter (m.way e) ch
    unfolding walk
    reached zero [] e v a =
        let (_, p, q) = m.led 0 m.some in (
          0,
          before_done [] a 0 m.some (inl m.root),
          p ∙ ap (walk T r) m.root,
          q ∙ ap (walk T s) m.root,
          inl m.root,
        )
    reached zero (x ∷ ch) e v a = absurd (omega arith)
    reached (suc n) ch e v a =
        let (b, x, z, g) = last_of n ch e in
        let (vb, hx) = valid_init C b x (subst (Valid C) z v) in
        let (i, li, p, q, na) = reached n b g vb
        (λ h. inl (⊎_elim (λ (l : length ch < length (m.way done)). omega arith)
        (λ (l : (length ch ≡ length (m.way done)) × Before ch (m.way done)). omega (arith, l.0)) (a h))) in
        step b x z vb hx i li p q na
      where
        step : (b : List ℕ) (x : ℕ) → ch ≡ b ++ (x ∷ []) → Valid C b → x < C → (i : ℕ) → i < done → X i ≡ walk T r b
            → Y i ≡ walk T s b → NotAfter (m.way i) b
            → (e : ℕ) × (e < done) × (X e ≡ walk T r ch) × (Y e ≡ walk T s ch) × NotAfter (m.way e) ch
        step b x z vb hx i li p q na =
            let (j, lj, p', q', nb) = m.past i x (omega arith) hx (inl li) in
            let nc : NotAfter (m.way j) ch = subst (NotAfter (m.way j)) (sym z)
            (not_after_on (m.way j) (m.way i ++ (x ∷ [])) (b ++ (x ∷ [])) nb (not_after_more (m.way i) b x na)) in (
              j,
              before_done ch a j lj nc,
              p' ∙ ap (λ (n : ℕ). target T n x) p ∙ sym (further C T x hx b r vb).1 ∙ ap (walk T r) (sym z),
              q' ∙ ap (λ (n : ℕ). target T n x) q ∙ sym (further C T x hx b s vb).1 ∙ ap (walk T s) (sym z),
              nc,
            )

    -- the pairs met before have the same values
    module _ (same : (e : ℕ) → e < done → (node T (X e)).values ≡ (node T (Y e)).values) where
      -- so a chain to such a pair finds no difference
      agree : (ch : List ℕ) → Valid C ch → (done < count → Ahead ch (m.way done)) → meaning C T r ch ≡ meaning C T s ch
      agree ch v a =
          let (e, l, p, q, _) = reached (length ch) ch refl v a in
          finds_walk C T ch r v ∙ ap (λ (n : ℕ). (node T n).values) (sym p) ∙ same e l
          ∙ ap (λ (n : ℕ). (node T n).values) q ∙ sym (finds_walk C T ch s v)

      -- the next pair differs: its chain is the shortest to a difference, and the earliest of those
      pub met-first : done < count → (node T (X done)).values ≢ (node T (Y done)).values
          → Earliest (λ ch. Valid C ch × (meaning C T r ch ≢ meaning C T s ch)) (m.way done)
      met-first h differs =
          let (v, p, q) = m.led done h in
          record {
            good = (
              v,
              λ e. differs (ap (λ (n : ℕ). (node T n).values) p ∙ sym (finds_walk C T (m.way done) r v) ∙ e
                  ∙ finds_walk C T (m.way done) s v ∙ ap (λ (n : ℕ). (node T n).values) (sym q)),
            );
            shortest = λ other g.
                by_cases (dec_le (length (m.way done)) (length other)) (λ l. l)
                (λ l. absurd (g.1 (agree other g.0 (λ _. inl (omega arith)))));
            earliest = λ other g e b. g.1 (agree other g.0 (λ _. inr (e, b)));
          }

      -- there is no next pair: no chain finds a difference
      pub met_none : count ≤ done → meaning C T r ≡ meaning C T s
      met_none h =
          fun_ext λ ch.
          by_cases (List-discrete ℕ_discrete (meaning C T r ch) (meaning C T s ch)) (λ e. e)
          (λ n. absurd (n (agree ch (differ_valid C T T ch r s n) (λ l. absurd (omega arith)))))
