-- The classes of a decidable equivalence on the numbers below N, counted by their first members. Assumes nothing.
use Rattle.std.specs.Prelude.{◌≡◌, refl, ℕ, suc, ◌≤◌, ◌<◌}
use Rattle.std.proofs.Math.Path.{sym}
use Rattle.std.proofs.Common.{◌∙◌, subst, arith}
use Rattle.std.proofs.Math.Logic.{⊎_elim, by_cases}
use Rattle.std.proofs.Math.Decide.{ℕ_discrete, dec_lt}
use Rattle.chart.specs.Laws.Count.{count, count_eq, count_full, count_one}
use Rattle.chart.specs.Laws.Count.{count_inj, all, count_all, least, turn}

pub record Sorts (R : ℕ → ℕ → Type 0) : Type 0 where
  pub self : (n : ℕ) → R n n
  pub back : {n m : ℕ} → R n m → R m n
  pub join : {n m k : ℕ} → R n m → R m k → R n k
  pub test : (n m : ℕ) → Dec (R n m)

pub by_key : (key : ℕ → ℕ) → Sorts (λ n m. key n ≡ key m)
by_key key =
    record { self = λ n. refl; back = λ p. sym p; join = λ p q. p ∙ q; test = λ n m. ℕ_discrete (key n) (key m) }

-- no smaller number is of the same class
unfoldable pub First : (ℕ → ℕ → Type 0) → ℕ → Type 0
First R n = (m : ℕ) → m < n → ¬ R m n

module _ {R : ℕ → ℕ → Type 0} (s : Sorts R) where
  pub first? : (n : ℕ) → Dec (First R n)
  unfolding First
  first? n = ⊎_elim (λ f. yes f) (λ r. no (λ f. f r.0 r.1 r.2)) (least (λ m. turn (s.test m n)) n)

  -- the number of classes-of
  pub classes_of : ℕ → ℕ
  classes_of N = count first? N

  -- the first of n's class
  pub head : (n : ℕ) → (r : ℕ) × (r ≤ n) × R r n × First R r
  unfolding First
  head n = ⊎_elim (λ f. absurd (f n (omega arith) (s.self n)))
      (λ r. (r.0, omega arith, r.2, λ m l x. r.3 m l (s.join x r.2))) (least (λ m. turn (s.test m n)) (suc n))

  pub head_one : (r t : ℕ) → First R r → First R t → R r t → r ≡ t
  unfolding First
  head_one r t f g x =
      by_cases (dec_lt r t) (λ l. absurd (g r l x))
      (λ h. by_cases (dec_lt t r) (λ l. absurd (f t l (s.back x))) (λ k. omega arith))

  pub classes_pos : (N : ℕ) → 1 ≤ N → 1 ≤ classes_of N
  unfolding classes_of First
  classes_pos N h = count_one first? N 0 h (λ m l x. omega arith)

  -- as many classes-of as numbers: each is alone in its class
  pub classes-full : (N : ℕ) → N ≤ classes_of N → (n m : ℕ) → n < N → m < N → R n m → n ≡ m
  unfolding classes_of
  classes-full N h n m l k = head_one n m (count_full first? N h n l) (count_full first? N h m k)

-- S is finer than R. It has as many classes-of, or more; if no more, it is R.
module _ {R S : ℕ → ℕ → Type 0} (r : Sorts R) (s : Sorts S) (N : ℕ)
    (f : (n m : ℕ) → n < N → m < N → S n m → R n m) where
  finer : (n : ℕ) → n < N → First R n → First S n
  unfolding First
  finer n k h m l x = h m l (f m n (omega arith) k x)

  pub classes_eq : classes_of s N ≤ classes_of r N → (n m : ℕ) → n < N → m < N → R n m → S n m
  unfolding classes_of
  classes_eq h n m ln lm x =
      let (a, la, sa, fa) = head s n in
      let (b, lb, sb, fb) = head s m in
      let ha : a < N = omega arith in
      let hb : b < N = omega arith in
      let back = count_eq (first? r) (first? s) N finer h in
      let same : a ≡ b = head_one r a b (back a ha fa) (back b hb fb)
      (r.join (f a n ha ln sa) (r.join x (r.back (f b m hb lm sb)))) in
      s.join (s.back sa) (subst (λ (k : ℕ). S k m) (sym same) sb)

-- Classes that are numbered: no more than q if all numbers are below q, no fewer if each number below q is used
module _ (key : ℕ → ℕ) (N q : ℕ) where
  pub classes_below : ((n : ℕ) → n < N → key n < q) → classes_of (by_key key) N ≤ q
  unfolding classes_of First
  classes_below h =
      rw count_all at (count_inj (first? (by_key key)) all (λ n i. key n ≡ i) N q (λ n l f. (key n, h n l, tt, refl))
      (λ n m i l k f e g. f n l (e ∙ sym g)))

  pub classes_used : ((i : ℕ) → i < q → (n : ℕ) × (n < N) × (key n ≡ i)) → q ≤ classes_of (by_key key) N
  unfolding classes_of
  classes_used h =
      rw count_all at (count_inj all (first? (by_key key)) (λ i n. key n ≡ i) q N
      (λ i l _. let (n, ln, e) = h i l in let (r, lr, g, f) = head (by_key key) n in (r, omega arith, f, g ∙ e))
      (λ i j n l k _ e g. omega arith))
