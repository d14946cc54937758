-- The shortest list with a decidable property, then the earliest. Assumes nothing.
use Rattle.std.proofs.Common.{ℕ, zero, suc, ◌<◌, ◌≤◌, ◌∙◌, ap, subst, inl, inr, ⊎_elim, List, [], ◌∷◌, arith}
use Rattle.std.specs.Prelude.{◌≡◌, refl, ◌⊎◌, length}
use Rattle.std.proofs.Math.Logic.{by_cases}
use Rattle.std.proofs.Math.Decide.{dec_le}
use Rattle.pack.specs.State.{Valid}
use Rattle.chart.specs.Earliest.{Before, Earliest}
use Rattle.chart.specs.Laws.Count.{least}

-- Lists of numbers below A, by length and then in order
module _ (A : ℕ) where
  abbrev Low : List ℕ → Type 0
  Low l = Valid A l

  abbrev Nil : (List ℕ → Type 0) → ℕ → Type 0
  Nil Good n = (l : List ℕ) → length l ≡ n → Low l → ¬ Good l

  abbrev Lead : (List ℕ → Type 0) → ℕ → Type 0
  Lead Good n = (l : List ℕ) × (length l ≡ n) × Good l × ((m : List ℕ) → length m ≡ n → Low m → Good m → ¬ Before m l)

  -- of length n
  pub seek_at : (Good : List ℕ → Type 0) → ((l : List ℕ) → Dec (Good l)) → (n : ℕ) → Nil Good n ⊎ Lead Good n
  unfolding Before Valid
  seek_at Good good? zero = go (good? [])
    where
      nil : ¬ Good [] → Nil Good 0
      nil f [] e w g = f g
      nil f (a ∷ l) e w g = omega arith

      go : Dec (Good []) → Nil Good 0 ⊎ Lead Good 0
      go (yes g) = inr ([], refl, g, λ m e w h b. b)
      go (no f) = inl (nil f)
  seek_at Good good? (suc n) =
      ⊎_elim (λ f. inl (nil f)) (λ r. inr (r.0 ∷ r.2.0, ap suc r.2.1, r.2.2, first r.0 r.2 r.3))
      (least {P = λ a. Nil (Tail a) n} {Q = λ a. Lead (Tail a) n} (λ a. seek_at (Tail a) (λ l. good? (a ∷ l)) n) A)
    where
      Tail : ℕ → List ℕ → Type 0
      Tail a l = Good (a ∷ l)

      nil : ((a : ℕ) → a < A → Nil (Tail a) n) → Nil Good (suc n)
      nil f [] e w g = omega arith
      nil f (a ∷ l) e w g = f a w.0 l (omega arith) w.1 g

      first : (a : ℕ) (r : Lead (Tail a) n) → ((b : ℕ) → b < a → Nil (Tail b) n) → (m : List ℕ) → length m ≡ suc n
          → Low m → Good m → ¬ Before m (a ∷ r.0)
      first a r f [] e w g b = b
      first a r f (b ∷ m) e w g x =
          ⊎_elim (λ (l : b < a). f b l m (omega arith) w.1 g)
          (λ (y : (b ≡ a) × Before m r.0).
          r.3 m (omega arith) w.1 (subst (λ (a : ℕ). Good (a ∷ m)) y.0 g) y.1) x

  -- of any length up to T
  pub seek : (Good : List ℕ → Type 0) → ((l : List ℕ) → Dec (Good l)) → ((l : List ℕ) → Good l → Low l) → (T : ℕ)
      → ((l : List ℕ) → length l ≤ T → ¬ Good l) ⊎ ((l : List ℕ) × (length l ≤ T) × Earliest Good l)
  seek Good good? low T =
      ⊎_elim (λ f. inl (λ l h g. f (length l) (omega arith) l refl (low l g) g))
      (λ r. inr (found r.0 r.1 r.2 r.3))
      (least {P = Nil Good} {Q = Lead Good} (seek_at Good good?) (suc T))
    where
      found : (n : ℕ) → n < suc T → Lead Good n → ((m : ℕ) → m < n → Nil Good m)
          → (l : List ℕ) × (length l ≤ T) × Earliest Good l
      found n h (l, e, g, f) none = (
        l,
        omega arith,
        record {
          good = g;
          shortest = λ m h.
              by_cases (dec_le (length l) (length m)) (λ x. x)
              (λ x. absurd (none (length m) (omega arith) m refl (low m h) h));
          earliest = λ m h z. f m (z ∙ e) (low m h) h;
        },
      )
