-- Explanation and ending, over states that chains define. Document 01, "Worth, explanation, ending"; a worth is a
-- utility here.
use Rattle.std.specs.Prelude.{ℕ, zero, suc, ◌<◌, ◌≤◌, ◌≡◌, get_or, length}
use mathlib.Core.List.{List, [], ◌∷◌, Memᴰ}
use Rattle.pack.specs.Syntax.{Theory}
use Rattle.pack.specs.State.{State, belief}
use Rattle.pack.specs.Condition.{utility}
use Rattle.transition.specs.Happening.{Plays, action_of}

-- "worths, the author's first, then each character's"
abbrev pub author_utility : Theory → State → ℕ
author_utility p s = utility s (get_or p.utilities 0 [])

-- "then each character's"
abbrev pub utility_to : Theory → ℕ → State → ℕ
utility_to p c s = utility s (get_or p.utilities (suc c) [])

module _ (p : Theory) where
  -- a list of actions leads from s to s': "its first action is playable there, and each later one in the state that the
  -- action before it leaves"; and each consenter that is `asked` is `content` with the action "in the state before that
  -- action"
  unfoldable pub Leads : (asked : ℕ → Type 0) → (content : (character action : ℕ) → State → Type 0) → State → List ℕ
      → State → Type 0
  Leads asked content s [] s' = s ≡ s'
  Leads asked content s (a ∷ rest) s' =
      (t : State) × Plays p s a t
      × ((c : ℕ) → Memᴰ c (action_of p a).consenters → asked c → content c a s)
      × Leads asked content t rest s'

  -- the foresight limit K
  module _ (foresight : ℕ) where
    -- "Explained(c, a, s, e) is no at e = 0. Else let b0 be c's belief in s. It is yes if some list of 1 to K actions
    -- beginning with a is playable from b0, ends with c's worth above that in b0, and from its second action on has
    -- Explained at e - 1, in the state before that action, for each consenter other than c"
    unfoldable pub Explained : (nesting character action : ℕ) → State → Type 0
    Explained zero c a s = ⊥
    Explained (suc e) c a s =
        (rest : List ℕ) × (t : State) × (s' : State)
        × (length rest < foresight)
        × Plays p (belief s c) a t
        × Leads (λ d. d ≡ c → ⊥) (Explained e) t rest s'
        × (utility_to p c (belief s c) < utility_to p c s')

  -- "An ending is a list of 1 to T actions, each playable, each explained at E, in the state before it, to all its
  -- consenters (none: explained), with the author's worth higher at its end than at the start."
  pub record Ending (story foresight nesting : ℕ) (s : State) (list : List ℕ) : Type 0 where
    pub some : 0 < length list
    pub within : length list ≤ story
    pub end : State
    pub leads : Leads (λ d. Unit {0}) (Explained foresight nesting) s list end
    pub better : author_utility p s < author_utility p end
