-- What an action and the triggers after it make of a state. Document 01, "Happenings".
use Rattle.std.specs.Prelude.{ℕ, suc, ◌<◌, ◌≡◌, Bool, true, false, cond, List, [], ◌∷◌, get_or, length}
use Rattle.std.proofs.Math.Option.{Option, none, some}
use Rattle.pack.specs.Syntax.{Effect, Action, Trigger, Theory}
use Rattle.pack.specs.State.{State, belief, after, Valid}
use Rattle.pack.specs.Condition.{holds, write}
use Rattle.chart.specs.States.{AtMost}

-- f of the values where the chain has ended: what is written into a belief is written into its own values, and into
-- nothing that it believes in turn
unfoldable pub at_root : (List ℕ → List ℕ) → List ℕ → List ℕ → List ℕ
at_root f [] values = f values
at_root f (c ∷ chain) values = values

-- A state changes by its own effects; a belief that takes part changes in the same way, "this repeats at every depth";
-- and "the effects meant for that character's belief are written after it", taking part or not. "A belief neither
-- observing nor written is the old one."
module _ (effects : State → List Effect) (takes : State → ℕ → Bool) where
  unfoldable pub change : State → State
  change s [] = write 0 (effects s) (s [])
  change s (c ∷ chain) =
      at_root (write (suc c) (effects s)) chain (cond (takes s c) (change (belief s c) chain) (belief s c chain))

-- "if the observation condition for that character held before the action in the state that holds the belief"
abbrev pub observes : Action → State → ℕ → Bool
observes a s c = holds s (get_or a.observed c [])

-- part 1: "The state takes the effects with whom 0 .. Each character's belief takes the action in the same way if ..";
-- whether the action's condition holds in a belief plays no part: "An observed action takes effect even where its
-- condition fails in the belief"
unfoldable pub act : Action → State → State
act a = change (λ s. a.effects) (observes a)

-- "the lowest trigger whose condition holds"
unfoldable pub firing : List Trigger → State → Option Trigger
firing [] s = none
firing (t ∷ ts) s = cond (holds s t.condition) (some t) (firing ts s)

-- where no trigger holds nothing takes effect
abbrev pub effects_of : Option Trigger → List Effect
effects_of none = []
effects_of (some t) = t.effects

-- what takes effect in a state in a round
abbrev pub fires : List Trigger → State → List Effect
fires ts s = effects_of (firing ts s)

-- part 2, one round: "in every state reached by beliefs, the lowest trigger whose condition holds takes effect, all
-- states together, judged before the round; effects for a character's belief are written into that belief after its own
-- trigger's"
unfoldable pub round : List Trigger → State → State
round ts = change (fires ts) (λ s c. true)

-- "no trigger holds anywhere"
unfoldable pub Quiet : Theory → State → Type 0
Quiet p s = (chain : List ℕ) → Valid p.characters chain → firing p.triggers (after s chain) ≡ none

-- "Rounds go on until no trigger holds anywhere; at most 16." "After part 1 and after each round the chains must lead
-- to at most 32 different states; this is tested before the trigger limit." With k rounds left, s settles in s'
pub data Settles (p : Theory) : ℕ → State → State → Type 0 where
  still : {k : ℕ} {s : State} → AtMost 32 p.characters s → Quiet p s → Settles p k s s
  again : {k : ℕ} {s s' : State} → AtMost 32 p.characters s → ¬ Quiet p s → Settles p k (round p.triggers s) s'
      → Settles p (suc k) s s'

-- or it stops: "12 | over 32 different states", tested first, and "11 | a trigger holds after round 16"
pub data Stops (p : Theory) : ℕ → State → ℕ → Type 0 where
  many : {k : ℕ} {s : State} → ¬ AtMost 32 p.characters s → Stops p k s 12
  loud : {s : State} → AtMost 32 p.characters s → ¬ Quiet p s → Stops p 0 s 11
  later : {k : ℕ} {s : State} {n : ℕ} → AtMost 32 p.characters s → ¬ Quiet p s → Stops p k (round p.triggers s) n
      → Stops p (suc k) s n

-- what stands for an action that isn't there: its condition never holds
abbrev pub nothing : Action
nothing = record { condition = []; effects = []; consenters = []; observed = [] }

-- action a: "Characters, fluents, nodes and actions count from 0."
abbrev pub action_of : Theory → ℕ → Action
action_of p a = get_or p.actions a nothing

-- "An action is playable in a state if its condition holds there and both limits, of 32 states and of 16 rounds, are
-- kept": action a in s leaves s'
pub record Plays (p : Theory) (s : State) (a : ℕ) (s' : State) : Type 0 where
  pub there : a < length p.actions
  pub may : holds s (action_of p a).condition ≡ true
  pub settles : Settles p 16 (act (action_of p a) s) s'

-- where it is not: "10 | action's condition fails", else 11 or 12; of an action that isn't there this says nothing
-- (that is 9)
pub data Refuses (p : Theory) (s : State) (a : ℕ) : ℕ → Type 0 where
  forbidden : holds s (action_of p a).condition ≡ false → Refuses p s a 10
  stopped : {n : ℕ} → holds s (action_of p a).condition ≡ true → Stops p 16 (act (action_of p a) s) n → Refuses p s a n
