-- Lists of actions that are looked for, a character's and the author's, and the slots that states stand in. Assumes
-- nothing.
use Rattle.std.specs.Prelude.{◌≡◌, List, ◌∷◌, ℕ, zero, suc, ◌+◌, ◌<◌, get_or}
use Rattle.pack.specs.Syntax.{Theory}
use Rattle.pack.specs.State.{State}
use Rattle.pack.specs.declared.table.Table.{Table}
use Rattle.transition.specs.Happening.{action_of, Plays}
use Rattle.planner.specs.declared.limits.Context.{Context}
use Rattle.planner.specs.Ending.{Explained, utility_to, author_utility}
use Rattle.planner.specs.Laws.Explaining as explaining

-- a table of n rows in a slot
abbrev pub counted : Context → (slot n : ℕ) → Table
counted h slot n =
    record {
      rows = slot + 1;
      nodes = n;
      fluents = h.fluents;
      characters = h.characters;
      width = h.fluents + h.characters;
    }

-- the table in a slot
abbrev pub slot_table : Context → List ℕ → ℕ → Table
slot_table h work slot = counted h slot (get_or work slot 0)

-- asked of a consenter: to be another than c
abbrev pub Other : ℕ → ℕ → Type 0
Other c d = d ≡ c → ⊥

-- some list of fewer than n actions, each explained to its consenters other than c, ends with c's utility above base
abbrev pub Above : (p : Theory) (foresight nesting c base n : ℕ) → State → Type 0
Above p K e c base n s = explaining.Near p (Other c) (Explained p K e) (λ s'. base < utility_to p c s') n s

-- action x first
abbrev pub AboveBy : (p : Theory) (foresight nesting c base n x : ℕ) → State → Type 0
AboveBy p K e c base n x s =
    explaining.Reaches p (Other c) (Explained p K e) s x
    (λ t. explaining.Near p (Other c) (Explained p K e) (λ s'. base < utility_to p c s') n t)

-- some action first
abbrev pub AboveBySome : (p : Theory) (foresight nesting c base n : ℕ) → State → Type 0
AboveBySome p K e c base n s = (x : ℕ) × AboveBy p K e c base n x s

-- what Explained asks of c's belief b: the action is played in it, and then some list of fewer than K actions ends with
-- c's utility above that in b
unfoldable pub ExplainedBy : (p : Theory) (foresight nesting c action : ℕ) → State → Type 0
ExplainedBy p K zero c a b = ⊥
ExplainedBy p K (suc e) c a b = (t : State) × Plays p b a t × Above p K e c (utility_to p c b) K t

-- action x is explained to its consenters other than c
abbrev pub Agreed : (p : Theory) (foresight nesting c x : ℕ) → State → Type 0
Agreed p K e c x s = explaining.Agreeing p (Other c) (Explained p K e) s x (action_of p x).consenters

-- everybody is asked
abbrev pub All : ℕ → Type 0
All d = Unit {0}

-- a list from s, explained at e to all its consenters, that ends with the author's utility r, above base
abbrev pub Ends : (p : Theory) (foresight nesting base : ℕ) → State → List ℕ → ℕ → Type 0
Ends p K e base s list r = explaining.Led p All (Explained p K e) (λ s'. (author_utility p s' ≡ r) × (base < r)) list s

-- action x first
abbrev pub EndsBy : (p : Theory) (foresight nesting base x : ℕ) → State → List ℕ → ℕ → Type 0
EndsBy p K e base x s list r =
    (rest : List ℕ) × (list ≡ x ∷ rest) × explaining.Reaches p All (Explained p K e) s x (λ t. Ends p K e base t rest r)
