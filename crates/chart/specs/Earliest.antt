-- The shortest list of a kind, then the earliest by its numbers: what Compare and Search give.
use Rattle.std.specs.Prelude.{ℕ, ◌<◌, ◌≤◌, ◌≡◌, ◌⊎◌, List, [], ◌∷◌, length}

-- "of two lists of one length, the one with the lower action at the first place where they differ"
unfoldable pub Before : List ℕ → List ℕ → Type 0
Before list [] = ⊥
Before [] (d ∷ list) = ⊥
Before (c ∷ chain) (d ∷ list) = (c < d) ⊎ ((c ≡ d) × Before chain list)

-- "the shortest, then the earliest by action numbers"; "the shortest chain .., the earliest by character numbers among
-- those"
pub record Earliest (Good : List ℕ → Type 0) (list : List ℕ) : Type 0 where
  pub good : Good list
  pub shortest : (other : List ℕ) → Good other → length list ≤ length other
  pub earliest : (other : List ℕ) → Good other → length other ≡ length list → ¬ Before other list
