-- What is reckoned of the actions that may be played, level by level. Assumes nothing.
use Rattle.std.specs.Prelude.{ℕ, ◌+◌, ◌<◌, ◌≤◌, ◌≡◌, true, List, [], length, get_or}
use Rattle.pack.specs.Syntax.{Node, Theory}
use Rattle.pack.specs.State.{State, meaning}
use Rattle.pack.specs.Condition.{utility}
use Rattle.transition.specs.Happening.{action_of}
use Rattle.transition.specs.Duties.Play.{Theorized}
use Rattle.planner.specs.declared.limits.Context.{Context}
use Rattle.planner.specs.Inner.Lists.{slot_table}
use Rattle.planner.specs.Inner.Explain.{Stage, Staged, Free}
use Rattle.planner.specs.Inner.Range.{could_hold, could_pass, AllInRange, Wider}
use Rattle.planner.specs.Inner.Reach.{Played, ActionsInRange}

-- an action of a theory that is found in the pack
abbrev pub ActionThere : (pack places : List ℕ) (a : ℕ) → Type 0
ActionThere pack places a =
    (p : Theory) × ((actions : ℕ) × ((triggers : ℕ) × (Theorized p pack places actions triggers × (a < actions))))

-- ranges are widened by what it writes, where it could be played by other ranges, from lower to upper
pub record ActionWidened (pack places : List ℕ) (a : ℕ) (lower upper lows highs lows' highs' : List ℕ) : Type 0 where
  pub wider : Wider lows highs lows' highs'
  pub covers : (p : Theory) (actions triggers : ℕ) → Theorized p pack places actions triggers → a < actions
      → could_hold (could_pass lower upper) (action_of p a).condition ≡ true
      → AllInRange lows' highs' (action_of p a).effects

-- a theory with so many actions
abbrev pub Levelable : (pack places : List ℕ) (actions : ℕ) → Type 0
Levelable pack places actions = (p : Theory) × ((triggers : ℕ) × Theorized p pack places actions triggers)

-- ranges are widened by what each of them writes that could be played
pub record LevelWidened (pack places : List ℕ) (actions : ℕ) (lower upper lows highs lows' highs' : List ℕ) : Type 0
  where
    pub wider : Wider lows highs lows' highs'
    pub covers : (p : Theory) (triggers : ℕ) → Theorized p pack places actions triggers
        → ActionsInRange p lower upper lows' highs' actions

-- whose utility it is, in the state in a slot: the author's is the first, then each character's
abbrev pub Reckoned : (pack places : List ℕ) (h : Context) (work : List ℕ) (slot whose : ℕ) → Type 0
Reckoned pack places h work slot whose =
    Staged pack places h work (slot_table h work slot) (slot + h.stride) × Free h slot 1 × (whose < h.characters + 1)

-- no list of at most so many actions has a utility above base
abbrev pub OutOfReach : (pack places : List ℕ) (h : Context) (work : List ℕ) (slot whose left base : ℕ) → Type 0
OutOfReach pack places h work slot whose left base =
    (th : Theory) (T : List Node) → Stage th T pack places h work (slot_table h work slot) (slot + h.stride)
    → (list : List ℕ) (u : State) → length list ≤ left → Played th (meaning h.characters T 0) list u
    → utility u (get_or th.utilities whose []) ≤ base

-- of so many actions and fewer: r is the least number of them that is not out of reach, or one more
pub record Nearest (pack places : List ℕ) (h : Context) (work : List ℕ) (slot whose left base r : ℕ) : Type 0 where
  pub within : r ≤ left + 1
  pub beyond : (k : ℕ) → k < r → OutOfReach pack places h work slot whose k base
