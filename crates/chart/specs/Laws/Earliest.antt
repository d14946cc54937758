-- There is at most one shortest and then earliest list, and so at most one difference. Assumes nothing.
use Rattle.std.specs.Prelude.{ℕ, ◌≡◌, refl, List, [], ◌∷◌, length}
use Rattle.std.proofs.Common.{sym, ap₂, subst, inl, inr, arith}
use Rattle.std.proofs.Math.Logic.{by_cases}
use Rattle.std.proofs.Math.Decide.{dec_lt}
use Rattle.pack.specs.State.{State}
use Rattle.chart.specs.Compare.{Differ}
use Rattle.chart.specs.Earliest.{Earliest, Before}

either : (l m : List ℕ) → length l ≡ length m → ¬ Before l m → ¬ Before m l → l ≡ m
unfolding Before
either [] [] e x y = refl
either [] (d ∷ m) e x y = absurd (omega arith)
either (c ∷ l) [] e x y = absurd (omega arith)
either (c ∷ l) (d ∷ m) e x y =
    by_cases (dec_lt c d) (λ h. absurd (x (inl h))) (λ p. by_cases (dec_lt d c) (λ h. absurd (y (inl h)))
    (λ q. let g : c ≡ d = omega arith in
    ap₂ ◌∷◌ g (either l m (omega arith) (λ b. x (inr (g, b))) (λ b. y (inr (sym g, b))))))

pub earliest_one : {Good : List ℕ → Type 0} {l m : List ℕ} → Earliest Good l → Earliest Good m → l ≡ m
earliest_one {l = l} {m = m} x y =
    let e : length l ≡ length m = omega (arith, x.shortest m y.good, y.shortest l x.good) in
    either l m e (y.earliest l x.good e) (x.earliest m y.good (sym e))

pub differ_one : {C : ℕ} {s t : State} {chain chain' : List ℕ} {f f' : ℕ} → Differ C s t chain f
    → Differ C s t chain' f' → (chain ≡ chain') × (f ≡ f')
differ_one {C} {s} {t} {chain} {chain'} {f} {f'} x y =
    let e = earliest_one x.first y.first in
    let z : Differ C s t chain f' = subst (λ (ch : List ℕ). Differ C s t ch f') (sym e) y in (
      e,
      by_cases (dec_lt f f') (λ l. absurd (x.here (z.lowest f l)))
          (λ p. by_cases (dec_lt f' f) (λ l. absurd (z.here (x.lowest f' l))) (λ q. omega arith)),
    )
