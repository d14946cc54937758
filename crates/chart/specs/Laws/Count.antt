-- How many of the numbers below N have a decidable property, what two such counts say of one another, and decisions
-- over the numbers below n. Assumes nothing.
use Rattle.std.specs.Prelude.{◌≡◌, refl, ◌⊎◌, ◌≢◌}
use Rattle.std.proofs.Common.{sym, ap, inl, inr, eq-or-lt_of_le, le_of_suc-le-suc, le_trans, arith, ℕ, zero, suc, ◌≤◌}
use Rattle.std.proofs.Common.{◌<◌, suc-le-suc, zero-le}
use Rattle.std.proofs.Math.Path.{subst}
use Rattle.std.proofs.Math.Logic.{⊎_elim, by_cases}
use Rattle.std.proofs.Math.Logic.Dec
use Rattle.std.proofs.Math.Decide.{ℕ_discrete, dec_le, dec_lt}

tick : {P : Type 0} → Dec P → ℕ → ℕ
tick (yes a) k = suc k
tick (no a) k = k

pub count : {P : ℕ → Type 0} → ((n : ℕ) → Dec (P n)) → ℕ → ℕ
count d zero = zero
count d (suc n) = tick (d n) (count d n)

tick_le : {P Q : Type 0} (p : Dec P) (q : Dec Q) → (P → Q) → {a b : ℕ} → a ≤ b → tick p a ≤ tick q b
unfolding tick
tick_le (yes x) (yes y) f h = suc-le-suc h
tick_le (yes x) (no y) f h = absurd (y (f x))
tick_le (no x) (yes y) f h = omega arith
tick_le (no x) (no y) f h = h

tick_eq : {P Q : Type 0} (p : Dec P) (q : Dec Q) → (P → Q) → {a b : ℕ} → a ≤ b → tick q b ≤ tick p a → (b ≤ a) × (Q → P)
unfolding tick
tick_eq (yes x) (yes y) f h g = (omega arith, λ _. x)
tick_eq (yes x) (no y) f h g = absurd (y (f x))
tick_eq (no x) (yes y) f h g = absurd (omega arith)
tick_eq (no x) (no y) f h g = (g, λ z. absurd (y z))

module _ {P Q : ℕ → Type 0} (p : (n : ℕ) → Dec (P n)) (q : (n : ℕ) → Dec (Q n)) where
  pub count_le : (N : ℕ) → ((n : ℕ) → n < N → P n → Q n) → count p N ≤ count q N
  unfolding count
  count_le zero f = zero-le
  count_le (suc N) f = tick_le (p N) (q N) (f N (omega arith)) (count_le N (λ n l. f n (omega arith)))

  -- where the larger property counts no more, it is the smaller one
  pub count_eq : (N : ℕ) → ((n : ℕ) → n < N → P n → Q n) → count q N ≤ count p N → (n : ℕ) → n < N → Q n → P n
  unfolding count
  count_eq zero f h n l = absurd (omega arith)
  count_eq (suc N) f h n l =
      let g : (n : ℕ) → n < N → P n → Q n = λ n l. f n (omega arith) in
      let s = tick_eq (p N) (q N) (f N (omega arith)) (count_le N g) h in
      ⊎_elim (λ e. subst (λ (k : ℕ). Q k → P k) (sym e) s.1) (λ (l : n < N). count_eq N g s.0 n l)
      (eq-or-lt_of_le (le_of_suc-le-suc l))

-- all numbers below N are N, so a count of N leaves none out
pub all : (n : ℕ) → Dec (Unit {0})
all n = yes tt

pub count_all : (N : ℕ) → count all N ≡ N
unfolding count all tick
count_all zero = refl
count_all (suc N) = ap suc (count_all N)

pub count_full : {P : ℕ → Type 0} (p : (n : ℕ) → Dec (P n)) (N : ℕ) → N ≤ count p N → (n : ℕ) → n < N → P n
count_full p N h n l = count_eq p all N (λ _ _ _. tt) (rw count_all h) n l tt

-- what one number has is counted at least once
nobody : (n : ℕ) → Dec ⊥
nobody n = no (λ x. x)

pub count_one : {P : ℕ → Type 0} (p : (n : ℕ) → Dec (P n)) (N n : ℕ) → n < N → P n → 1 ≤ count p N
count_one p N n l x =
    by_cases (dec_le 1 (count p N)) (λ h. h) (λ h. absurd (count_eq nobody p N (λ _ _ y. absurd y) (omega arith) n l x))

-- One fewer, where one that counts is left out
without : {Q : ℕ → Type 0} → ((n : ℕ) → Dec (Q n)) → (x n : ℕ) → Dec (Q n × (n ≢ x))
without q x n = Dec.and (q n) (Dec.not (ℕ_discrete n x))

count_without : {Q : ℕ → Type 0} (q : (n : ℕ) → Dec (Q n)) (N x : ℕ) → x < N → Q x
    → suc (count (without q x) N) ≤ count q N
count_without q N x l y =
    by_cases (dec_lt (count (without q x) N) (count q N)) (λ h. h)
    (λ h. absurd ((count_eq (without q x) q N (λ _ _ z. z.0) (omega arith) x l y).1 refl))

-- The pigeonhole: F takes each that counts below N to one that counts below M, and no two to the same
pub count_inj : {P Q : ℕ → Type 0} (p : (n : ℕ) → Dec (P n)) (q : (n : ℕ) → Dec (Q n)) (F : ℕ → ℕ → Type 0) (N M : ℕ)
    → ((n : ℕ) → n < N → P n → (i : ℕ) × (i < M) × Q i × F n i)
    → ((n m i : ℕ) → n < m → m < N → P m → F n i → F m i → ⊥)
    → count p N ≤ count q M
unfolding count tick
count_inj {P} {Q} p q F zero M im inj = zero-le
count_inj {P} {Q} p q F (suc N) M im inj =
    elim (p N) as (λ d. tick d (count p N) ≤ count q M) [
      | yes x ↦
          let t = im N (omega arith) x in
          le_trans (suc-le-suc (count_inj {Q = λ n. Q n × (n ≢ t.0)} p (without q t.0) F N M
          (λ n l y. let u = im n (omega arith) y in
          (u.0, u.1, (u.2, λ e. inj n N t.0 l (omega arith) x (subst (F n) e u.3) t.3), u.3))
          (λ n m i l k. inj n m i l (omega arith))))
          (count_without q M t.0 t.1 t.2)
      | no x ↦ count_inj {Q = Q} p q F N M (λ n l. im n (omega arith)) (λ n m i l k. inj n m i l (omega arith))
    ]

-- below b all have P, or there is a least one that has Q
pub least : {P Q : ℕ → Type 0} → ((n : ℕ) → P n ⊎ Q n) → (b : ℕ)
    → ((m : ℕ) → m < b → P m) ⊎ ((r : ℕ) × (r < b) × Q r × ((m : ℕ) → m < r → P m))
least t zero = inl (λ m l. absurd (omega arith))
least {P} {Q} t (suc b) = ⊎_elim (λ f. go f (t b)) (λ r. inr (r.0, omega arith, r.2, r.3)) (least t b)
  where
    go : ((m : ℕ) → m < b → P m) → P b ⊎ Q b
        → ((m : ℕ) → m < suc b → P m) ⊎ ((r : ℕ) × (r < suc b) × Q r × ((m : ℕ) → m < r → P m))
    go f (inl x) =
        inl (λ m l. ⊎_elim (λ e. subst P (sym e) x) (λ (g : m < b). f m g) (eq-or-lt_of_le (le_of_suc-le-suc l)))
    go f (inr y) = inr (b, omega arith, y, f)

-- a decision, turned
pub turn : {A : Type 0} → Dec A → (¬ A) ⊎ A
turn (yes x) = inr x
turn (no x) = inl x

-- all below n
pub every : {P : ℕ → Type 0} → ((i : ℕ) → Dec (P i)) → (n : ℕ) → Dec ((i : ℕ) → i < n → P i)
every {P} d n =
    ⊎_elim (λ f. yes f) (λ r. no (λ f. r.2 (f r.0 r.1)))
    (least {P = P} {Q = λ i. ¬ P i} (λ i. by_cases (d i) (λ x. inl x) (λ x. inr x)) n)

-- some number below n
pub any : {P : ℕ → Type 0} → ((i : ℕ) → Dec (P i)) → (n : ℕ) → Dec ((i : ℕ) × (i < n) × P i)
any {P} d n =
    ⊎_elim (λ f. no (λ r. f r.0 r.1 r.2)) (λ r. yes (r.0, r.1, r.2))
    (least {P = λ i. ¬ P i} {Q = P} (λ i. turn (d i)) n)
