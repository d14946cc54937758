-- What Compare says of two states. Document 01, "Charts": "Compare takes two charts: same, or the shortest chain that
-- leads to a difference, the earliest by character numbers among those, and the lowest differing fluent there."
use Rattle.std.specs.Prelude.{ℕ, ◌<◌, ◌≡◌, ◌≢◌, List, get_or}
use Rattle.pack.specs.State.{State, Valid}
use Rattle.chart.specs.Earliest.{Earliest}

-- where s and t differ: "the shortest chain that leads to a difference, the earliest by character numbers among those,
-- and the lowest differing fluent there"
pub record Differ (characters : ℕ) (s t : State) (chain : List ℕ) (fluent : ℕ) : Type 0 where
  pub first : Earliest (λ ch. Valid characters ch × (s ch ≢ t ch)) chain
  pub here : get_or (s chain) fluent 0 ≢ get_or (t chain) fluent 0
  pub lowest : (f : ℕ) → f < fluent → get_or (s chain) f 0 ≡ get_or (t chain) f 0

-- "same, or the shortest chain .. and the lowest differing fluent there"
pub data Verdict : Type 0 where
  same : Verdict
  differ : (chain : List ℕ) (fluent : ℕ) → Verdict

-- when a verdict is true of two states: "Two states are the same exactly when all these agree."
abbrev pub Compared : ℕ → State → State → Verdict → Type 0
Compared C s s' same = s ≡ s'
Compared C s s' (differ chain f) = Differ C s s' chain f
