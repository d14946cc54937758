-- How many states chains lead to, and what holds wherever they lead.
use Rattle.std.specs.Prelude.{ℕ, ◌≤◌, ◌≡◌, length}
use mathlib.Core.List.{List, Memᴰ}
use Rattle.pack.specs.State.{State, after, Valid}

-- Document 01, "Happenings": "the chains must lead to at most 32 different states". A list of at most n chains such
-- that every chain leads where one of them leads
unfoldable pub AtMost : ℕ → ℕ → State → Type 0
AtMost n C s =
    (reached : List (List ℕ)) × (length reached ≤ n)
    × ((chain : List ℕ) → Valid C chain → (r : List ℕ) × Memᴰ r reached × (after s chain ≡ after s r))

-- every chain finds values of which P holds
abbrev pub Everywhere : ℕ → (List ℕ → Type 0) → State → Type 0
Everywhere C P s = (chain : List ℕ) → Valid C chain → P (s chain)

-- each chain finds a value for each of F fluents: "the fluent values found where it leads"
abbrev pub Wide : ℕ → ℕ → State → Type 0
Wide C F = Everywhere C (λ values. length values ≡ F)
