-- Why Compare asks for one value a fluent in every row: where a node has fewer values than another, no verdict may be
-- true. Assumes nothing.
use Rattle.std.specs.Prelude.{ℕ, zero, suc, ◌≡◌, refl, List, [], ◌∷◌, length}
use Rattle.std.proofs.Common.{ap, arith}
use Rattle.pack.specs.State.{State, Valid, meaning}
use Rattle.pack.specs.Syntax.{Node}
use Rattle.chart.specs.Compare.{Verdict, same, differ, Compared}

-- where a node has fewer values than another, Compare may have no answer
abbrev zeroed : List Node
zeroed = record { values = 0 ∷ []; beliefs = [] } ∷ []

abbrev bare : List Node
bare = record { values = []; beliefs = [] } ∷ []

pub no_verdict : (r : Verdict) → ¬ Compared 0 (meaning 0 zeroed 0) (meaning 0 bare 0) r
unfolding meaning Valid
no_verdict same e = let z : ◌≡◌ {A = ℕ} 1 0 = ap (λ (s : State). length (s [])) e in omega arith
no_verdict (differ [] zero) d = d.here refl
no_verdict (differ [] (suc f)) d = d.here refl
no_verdict (differ (c ∷ chain) f) d = omega (arith, d.first.good.0.0)
