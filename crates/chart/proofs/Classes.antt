-- One more row in a numbering by classes: with the number of an earlier row of its class, or with the next number. Assumes nothing.
use Rattle.std.proofs.Common.{◌≡◌, refl, sym, ◌∙◌, ap, subst, Bool, true, false, ◌↔◌, ⊎_elim, ℕ, zero, suc, ◌+◌, ◌<◌}
use Rattle.std.proofs.Common.{◌≤◌, add-one, eq-or-lt_of_le, le_of_suc-le-suc, arith}
use Rattle.std.proofs.Math.Logic.{by_cases}
use Rattle.chart.specs.Laws.Merged.{classes, grows, Numbered, first}
use Rattle.std.specs.Bool.{Decides}
use Rattle.chart.specs.Duties.Level.{Placed, Sorted}
use Rattle.std.proofs.Math.Decide.{dec_lt}

true_not_false : {r : Bool} → r ≡ true → r ≡ false → ⊥
true_not_false p q = let z : ◌≡◌ {A = ℕ} 0 1 = cc in omega arith

pub refuted : {r : Bool} {P : Type 0} → Decides r P → r ≡ false → P → ⊥
refuted d e p = true_not_false (d.1 p) e

pub decides_as : {r : Bool} {P Q : Type 0} → (P → Q) → (Q → P) → Decides r P → Decides r Q
decides_as f g d = (λ e. f (d.0 e), λ q. d.1 (g q))

-- a row's class: the one that is found, or the next
module _ {R : ℕ → ℕ → Type 0} {lead : ℕ → ℕ} {count i : ℕ} where
  pub placed_found : {q : ℕ} → (q < count) × R (lead q) i → Placed R lead count i q
  placed_found f = record { within = omega (arith, f.0); known = λ _. f.1; fresh = λ h. absurd (omega (arith, f.0)) }

  pub placed_next : ((p : ℕ) → p < count → R (lead p) i → ⊥) → Placed R lead count i count
  placed_next n = record { within = omega arith; known = λ h. absurd (omega arith); fresh = λ _. n }

pub record Equivalence (R : ℕ → ℕ → Type 0) : Type 0 where
  pub self : (a : ℕ) → R a a
  pub back : {a b : ℕ} → R a b → R b a
  pub on : {a b c : ℕ} → R a b → R b c → R a c

-- what holds of all pairs of rows below i, and of each with i, holds of all pairs below i + 1
pairs : {R : ℕ → ℕ → Type 0} → Equivalence R → (key : ℕ → ℕ) (i : ℕ) → ((a b : ℕ) → a < i → b < i → (key a ≡ key b) ↔ R a b) → ((a : ℕ) → a < i → (key a ≡ key i) ↔ R a i)
    → (a b : ℕ) → a < suc i → b < suc i → (key a ≡ key b) ↔ R a b
pairs {R} eq key i both one a b ha hb =
    ⊎_elim
    (λ (x : a ≡ i). ⊎_elim
    (λ (y : b ≡ i). (λ _. subst (λ (b : ℕ). R a b) (x ∙ sym y) (eq.self a), λ _. ap key (x ∙ sym y)))
    (λ (y : b < i). let z = one b y in (λ g. subst (λ (a : ℕ). R a b) (sym x) (eq.back (z.0 (sym g ∙ ap key x))), λ t. ap key x ∙ sym (z.1 (eq.back (subst (λ (a : ℕ). R a b) x t))))) (eq-or-lt_of_le (le_of_suc-le-suc hb)))
    (λ (x : a < i). ⊎_elim
    (λ (y : b ≡ i). let z = one a x in (λ g. subst (R a) (sym y) (z.0 (g ∙ ap key y)), λ t. z.1 (subst (R a) y t) ∙ ap key (sym y)))
    (λ (y : b < i). both a b x y) (eq-or-lt_of_le (le_of_suc-le-suc hb))) (eq-or-lt_of_le (le_of_suc-le-suc ha))

-- classes of the first i rows depend on those rows alone
pub classes_same : (key key' : ℕ → ℕ) (i : ℕ) → ((a : ℕ) → a < i → key' a ≡ key a) → classes key' i ≡ classes key i
unfolding classes
classes_same key key' zero h = refl
classes_same key key' (suc i) h = let e = classes_same key key' i (λ a l. h a (omega arith)) in let g = h i (omega arith) in omega arith

pub sorted_none : (R : ℕ → ℕ → Type 0) (key lead : ℕ → ℕ) → Sorted R key lead 0 0
unfolding classes
sorted_none R key lead = record { same = λ a b p. absurd (omega arith); led = λ q p. absurd (omega arith); met = refl; numbered = λ a p. absurd (omega arith) }

-- higher numbers are no fewer classes
classes_up : (key key' : ℕ → ℕ) (i : ℕ) → ((a : ℕ) → a < i → key a ≤ key' a) → classes key i ≤ classes key' i
unfolding classes
classes_up key key' zero h = omega arith
classes_up key key' (suc i) h = let e = classes_up key key' i (λ a l. h a (omega arith)) in let g = h i (omega arith) in omega arith

-- a numbering that tells apart whatever another does has no lower numbers
pub finer_above : (key key' : ℕ → ℕ) (i : ℕ) → Numbered key i → Numbered key' i → ((a b : ℕ) → a < i → b < i → key' a ≡ key' b → key a ≡ key b) → (a : ℕ) → a < i → key a ≤ key' a
finer_above key key' zero num num' same a h = absurd (omega arith)
finer_above key key' (suc i) num num' same a h =
    let below = finer_above key key' i (λ b l. num b (omega arith)) (λ b l. num' b (omega arith)) (λ b c lb lc. same b c (omega arith) (omega arith)) in
    ⊎_elim (λ (e : a ≡ i). subst (λ (a : ℕ). key a ≤ key' a) (sym e) (last below)) (λ (l : a < i). below a l) (eq-or-lt_of_le (le_of_suc-le-suc h))
  where
    last : ((a : ℕ) → a < i → key a ≤ key' a) → key i ≤ key' i
    last below =
        by_cases (dec_lt (key' i) (classes key' i))
        (λ l. let (b, lb, e, _) = first key' i (λ b l. num' b (omega arith)) (key' i) l in omega (arith, below b lb, same i b (omega arith) (omega arith) (sym e), e))
        (λ l. omega (arith, num i (omega arith), classes_up key key' i below))

-- the same numbers under another name
pub sorted_as : {R : ℕ → ℕ → Type 0} {key lead : ℕ → ℕ} {i count : ℕ} (key' lead' : ℕ → ℕ) → Sorted R key lead i count → ((a : ℕ) → a < i → key' a ≡ key a) → ((q : ℕ) → q < count → lead' q ≡ lead q) → Sorted R key' lead' i count
sorted_as {R} {key} {lead} {i} {count} key' lead' s k l = record {
  same = λ a b ha hb. (λ e. (s.same a b ha hb).0 (sym (k a ha) ∙ e ∙ k b hb), λ r. k a ha ∙ (s.same a b ha hb).1 r ∙ sym (k b hb));
  led = λ q h. let (p, e) = s.led q h in let z = l q h in (omega arith, ap key' z ∙ k (lead q) p ∙ e);
  met = classes_same key key' i k ∙ s.met;
  numbered = λ a h. omega (arith, k a h, s.numbered a h, classes_same key key' a (λ b g. k b (omega arith)));
}

module _ {R : ℕ → ℕ → Type 0} (eq : Equivalence R) {key lead : ℕ → ℕ} {i count : ℕ} (s : Sorted R key lead i count) where
  below : (a : ℕ) → a < i → key a < count
  below a h = omega (arith, grows key a i h, s.met)

  -- row i is of the class q, which row `lead q` leads
  pub sorted_old : (q : ℕ) → q < count → R (lead q) i → key i ≡ q → Sorted R key lead (suc i) count
  unfolding classes
  sorted_old q h r e = record {
    same = pairs eq key i s.same one;
    led = λ p l. let (x, y) = s.led p l in (omega arith, y);
    met = omega (arith, s.met);
    numbered = λ a l. ⊎_elim (λ (z : a ≡ i). subst (λ (a : ℕ). key a ≤ classes key a) (sym z) (omega (arith, s.met))) (λ (l : a < i). s.numbered a l) (eq-or-lt_of_le (le_of_suc-le-suc l));
  }
    where
      led : (lead q < i) × (key (lead q) ≡ q)
      led = s.led q h

      -- each earlier row against i
      one : (a : ℕ) → a < i → (key a ≡ key i) ↔ R a i
      one a l = let x = s.same a (lead q) l led.0 in (λ g. eq.on (x.0 (g ∙ e ∙ sym led.1)) r, λ t. x.1 (eq.on t (eq.back r)) ∙ led.1 ∙ sym e)

  -- row i is of none of the classes, gets the next number and leads it
  pub sorted_new : ((q : ℕ) → q < count → R (lead q) i → ⊥) → key i ≡ count → lead count ≡ i → Sorted R key lead (suc i) (suc count)
  unfolding classes
  sorted_new none e f = record {
    same = pairs eq key i s.same one;
    led = λ p l. ⊎_elim (λ (z : p ≡ count). let g : lead p ≡ i = ap lead z ∙ f in (omega arith, ap key g ∙ e ∙ sym z)) (λ (l : p < count). let (x, y) = s.led p l in (omega arith, y)) (eq-or-lt_of_le (le_of_suc-le-suc l));
    met = omega (arith, s.met);
    numbered = λ a l. ⊎_elim (λ (z : a ≡ i). subst (λ (a : ℕ). key a ≤ classes key a) (sym z) (omega (arith, s.met))) (λ (l : a < i). s.numbered a l) (eq-or-lt_of_le (le_of_suc-le-suc l));
  }
    where
      -- no earlier row is alike
      apart : (a : ℕ) → a < i → R a i → ⊥
      apart a l t = let (x, y) = s.led (key a) (below a l) in none (key a) (below a l) (eq.on ((s.same (lead (key a)) a x l).0 y) t)

      one : (a : ℕ) → a < i → (key a ≡ key i) ↔ R a i
      one a l = (λ g. absurd (omega (arith, below a l)), λ t. absurd (apart a l t))

-- row i put into its class, under another name of the numbers
pub sorted_row : {R : ℕ → ℕ → Type 0} → Equivalence R → {key lead : ℕ → ℕ} {i count q more : ℕ} (key' lead' : ℕ → ℕ) → Sorted R key lead i count → ((a : ℕ) → a < i → key' a ≡ key a) → ((q : ℕ) → q < count → lead' q ≡ lead q)
    → Placed R lead count i q → key' i ≡ q → (q < count → more ≡ count) → (count ≤ q → (more ≡ count + 1) × (lead' count ≡ i)) → Sorted R key' lead' (i + 1) more
sorted_row {R} eq {key} {lead} {i} {count} {q} {more} key' lead' s k l place e old new = by_cases (dec_lt q count) known fresh
  where
    s' : Sorted R key' lead' i count
    s' = sorted_as key' lead' s k l

    -- row i and how many classes, as the code counts
    done : (m : ℕ) → more ≡ m → Sorted R key' lead' (suc i) m → Sorted R key' lead' (i + 1) more
    done m g x = subst (λ (m : ℕ). Sorted R key' lead' (i + 1) m) (sym g) (subst (λ (i : ℕ). Sorted R key' lead' i m) (sym (add-one i)) x)

    known : q < count → Sorted R key' lead' (i + 1) more
    known h = done count (old h) (sorted_old eq s' q h (subst (λ (j : ℕ). R j i) (sym (l q h)) (place.known h)) e)

    fresh : ¬ (q < count) → Sorted R key' lead' (i + 1) more
    fresh h =
        let z : q ≡ count = omega (arith, place.within) in
        let (m, g) = new (omega arith) in
        done (suc count) (m ∙ add-one count) (sorted_new eq s' (λ p lp u. place.fresh (omega arith) p lp (subst (λ (j : ℕ). R j i) (l p lp) u)) (e ∙ z) g)
