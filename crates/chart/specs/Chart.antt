-- What a written chart is. Document 01, "Charts": "A written chart holds each different state reachable by beliefs
-- once, numbered in the order met breadth first, characters in rising order."
use Rattle.std.specs.Prelude.{ℕ, zero, suc, ◌<◌, ◌≤◌, max, ◌≡◌, List, [], ◌∷◌, length}
use Rattle.pack.specs.Syntax.{Node}
use Rattle.pack.specs.State.{State, node, meaning, Closed}
use Rattle.pack.specs.Layout.{chart_bytes, ChartFits}

-- k nodes are met; how many are once these beliefs are read, "characters in rising order"
unfoldable pub meets : ℕ → List ℕ → ℕ
meets k [] = k
meets k (b ∷ bs) = meets (max k (suc b)) bs

-- each of these beliefs names a node met already or the next new one
unfoldable pub Fresh : ℕ → List ℕ → Type 0
Fresh k [] = Unit {0}
Fresh k (b ∷ bs) = (b ≤ k) × Fresh (max k (suc b)) bs

-- how many nodes are met once the first m rows are read: node 0 at the start
unfoldable pub met : List Node → ℕ → ℕ
met t zero = 1
met t (suc m) = meets (met t m) (node t m).beliefs

-- "numbered in the order met breadth first": read row by row, each belief names a node met already or the next new one
pub record Ordered (C : ℕ) (t : List Node) : Type 0 where
  pub closed : Closed C t
  pub wide : (m : ℕ) → m < length t → length (node t m).beliefs ≡ C
  -- a row is met before it is read
  pub known : (m : ℕ) → m < length t → m < met t m
  pub fresh : (m : ℕ) → m < length t → Fresh (met t m) (node t m).beliefs
  -- every node is met
  pub whole : met t (length t) ≡ length t

-- different rows mean different states
abbrev pub Apart : ℕ → List Node → Type 0
Apart C t = (i j : ℕ) → i < j → j < length t → meaning C t i ≡ meaning C t j → ⊥

-- "each different state reachable by beliefs once"
pub record Written (C : ℕ) (t : List Node) : Type 0 where
  pub ordered : Ordered C t
  pub apart : Apart C t

-- the written chart of a state
abbrev pub Starts : ℕ → State → List Node → Type 0
Starts C s rows = Written C rows × (meaning C rows 0 ≡ s)

-- These bytes are the written chart of s, over the domains D
pub record ChartOf (C : ℕ) (D : List ℕ) (s : State) (bytes : List ℕ) : Type 0 where
  pub rows : List Node
  pub starts : Starts C s rows
  pub fits : ChartFits C D rows
  pub bytewise : bytes ≡ chart_bytes rows
