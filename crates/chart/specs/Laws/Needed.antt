-- That a row is met before it is read is needed of a written chart: all else holds of a table with a node that nothing
-- reaches. Assumes nothing.
use Rattle.std.specs.Prelude.{ℕ, zero, suc, ◌<◌, ◌≡◌, refl, List, [], ◌∷◌, get_or, length}
use Rattle.std.proofs.Common.{sym, ◌∙◌, ap, arith}
use Rattle.pack.specs.State.{State, node, meaning, Closed, Valid}
use Rattle.pack.specs.Syntax.{Node}
use Rattle.pack.specs.Laws.Table.{same_valid}
use Rattle.chart.specs.Chart.{Apart, meets, Fresh, met, Written}

abbrev short : List Node
short = record { values = 0 ∷ []; beliefs = 0 ∷ [] } ∷ []

abbrev long : List Node
long = record { values = 0 ∷ []; beliefs = 0 ∷ [] } ∷ record { values = 1 ∷ []; beliefs = 1 ∷ [] } ∷ []

fresh : (m : ℕ) → m < 2 → Fresh (met long m) (node long m).beliefs
unfolding met meets Fresh
fresh zero h = (omega arith, tt)
fresh (suc zero) h = (omega arith, tt)
fresh (suc (suc m)) h = absurd (omega arith)

whole : met long 2 ≡ 2
unfolding met meets
whole = refl

apart : Apart 1 long
unfolding meaning
apart i j l h e =
    let x : i ≡ 0 = omega arith in
    let y : j ≡ 1 = omega arith in
    let z : ◌≡◌ {A = ℕ} 0 1 = ap (λ (s : State). get_or (s []) 0 0)
    (ap (meaning 1 long) (sym x) ∙ e ∙ ap (meaning 1 long) y) in
    omega arith

closed : Closed 1 long
closed zero c h l = let e : c ≡ 0 = omega arith in rw e (omega arith)
closed (suc zero) c h l = let e : c ≡ 0 = omega arith in rw e (omega arith)
closed (suc (suc n)) c h l = absurd (omega arith)

wide : (m : ℕ) → m < 2 → length (node long m).beliefs ≡ 1
wide zero h = refl
wide (suc zero) h = refl
wide (suc (suc n)) h = absurd (omega arith)

-- the other table is a written chart
short_written : Written 1 short
unfolding met meets Fresh
short_written =
    record {
      ordered = record { closed = closed₁; wide = wide₁; known = known₁; fresh = fresh₁; whole = refl };
      apart = λ i j l h e. omega arith;
    }
  where
    closed₁ : Closed 1 short
    closed₁ zero c h l = let e : c ≡ 0 = omega arith in rw e (omega arith)
    closed₁ (suc n) c h l = absurd (omega arith)

    wide₁ : (m : ℕ) → m < 1 → length (node short m).beliefs ≡ 1
    wide₁ zero h = refl
    wide₁ (suc n) h = absurd (omega arith)

    known₁ : (m : ℕ) → m < 1 → m < met short m
    known₁ zero h = omega arith
    known₁ (suc n) h = absurd (omega arith)

    fresh₁ : (m : ℕ) → m < 1 → Fresh (met short m) (node short m).beliefs
    fresh₁ zero h = (omega arith, tt)
    fresh₁ (suc n) h = absurd (omega arith)

one_meaning : meaning 1 short 0 ≡ meaning 1 long 0
unfolding meaning Valid
one_meaning = (same_valid 1 short long 0 0).1 go
  where
    go : (chain : List ℕ) → Valid 1 chain → meaning 1 short 0 chain ≡ meaning 1 long 0 chain
    go [] v = refl
    go (c ∷ chain) v = let e : c ≡ 0 = omega arith in rw e (go chain v.1)

two_tables : short ≡ long → ⊥
two_tables e = let z : ◌≡◌ {A = ℕ} 1 2 = ap (λ (t : List Node). length t) e in omega arith
