-- Lists of actions, and why ranges that are widened level by level bound where they lead. Assumes nothing.
use Prim.Native.Nat.{ℕ, suc, ◌<◌, ◌≤◌}
use Rattle.std.specs.Prelude.{◌≡◌}
use Rattle.std.proofs.Common.{sym, ◌∙◌, subst, arith}
use Rattle.std.proofs.Math.Bool.{true}
use Rattle.std.proofs.Math.Logic.{⊎_elim}
use mathlib.Core.List.{List, [], ◌∷◌}
use Rattle.std.proofs.Math.ListN.{length}
use Rattle.pack.specs.Syntax.{Theory}
use Rattle.pack.specs.State.{State}
use Rattle.transition.specs.Happening.{change, act, action_of, Plays}
use Rattle.planner.specs.Ending.{Leads}
use Rattle.planner.specs.Inner.Range.{could_hold, could_pass, Within, AllInRange, TriggersInRange, Wider}
use Rattle.planner.specs.Inner.Range.{unequal, either, no_hold, within_barred, within_wider, write_within}
use Rattle.planner.specs.Inner.Range.{settles_within}

-- a list that is played from s and ends in u
unfoldable pub Played : (p : Theory) → State → List ℕ → State → Type 0
Played p s [] u = s ≡ u
Played p s (a ∷ list) u = (t : State) × Plays p s a t × Played p t list u

-- as one is that leads there
pub leads_played : (p : Theory) (asked : ℕ → Type 0) (content : ℕ → ℕ → State → Type 0) (s : State) (list : List ℕ)
    (u : State) → Leads p asked content s list u
    → Played p s list u
unfolding Leads Played
leads_played p asked content s [] u q = q
leads_played p asked content s (a ∷ list) u (t, plays, agreed, leads) =
    (t, plays, leads_played p asked content t list u leads)

-- u is reached from a state within the ranges by at most so many actions
pub record Passing (p : Theory) (lows highs : List ℕ) (left : ℕ) (u : State) : Type 0 where
  pub state : State
  pub within : Within lows highs (state [])
  pub list : List ℕ
  pub few : length list ≤ left
  pub played : Played p state list u

-- what each action writes that could be played by some ranges is in range of others
abbrev pub ActionsInRange : (p : Theory) (lows highs lows' highs' : List ℕ) (n : ℕ) → Type 0
ActionsInRange p lows highs lows' highs' n =
    (a : ℕ) → a < n → could_hold (could_pass lows highs) (action_of p a).condition ≡ true
    → AllInRange lows' highs' (action_of p a).effects

-- an action and its triggers that write values in range leave a state within the ranges
pub plays_within : {p : Theory} (lows highs : List ℕ) {a : ℕ} {t u : State}
    → TriggersInRange lows highs p.triggers (length p.triggers) → AllInRange lows highs (action_of p a).effects
    → Plays p t a u → Within lows highs (t []) → Within lows highs (u [])
unfolding act change
plays_within {p} lows highs {a} {t} {u} triggers own plays w =
    settles_within lows highs p triggers 16 (act (action_of p a) t) u plays.settles
    (write_within lows highs (action_of p a).effects (t []) own w)

-- One level: an action of the list is played, if one is left
module _ {p : Theory} {lows highs lows' highs' : List ℕ} (wider : Wider lows highs lows' highs')
    (triggers : TriggersInRange lows' highs' p.triggers (length p.triggers))
    (actions : ActionsInRange p lows highs lows' highs' (length p.actions)) where
  pub passing_more : {left : ℕ} {u : State} → Passing p lows highs (suc left) u → Passing p lows' highs' left u
  unfolding Played
  passing_more {left} {u} g = go g.list g.few g.played
    where
      go : (list : List ℕ) → length list ≤ suc left → Played p g.state list u → Passing p lows' highs' left u
      go [] few q =
          record {
            state = g.state;
            within = within_wider wider g.within;
            list = [];
            few = omega arith;
            played = q;
          }
      go (a ∷ list) few (t, plays, more) =
          let c = (action_of p a).condition in
          let may : could_hold (could_pass lows highs) c ≡ true = ⊎_elim (λ q. q)
          (λ q. absurd (unequal (sym plays.may ∙ no_hold (could_pass lows highs) g.state
          (within_barred g.state g.within) c q))) (either (could_hold (could_pass lows highs) c)) in
          record {
            state = t;
            within = plays_within lows' highs' triggers (actions a plays.there may) plays
                (within_wider wider g.within);
            list = list;
            few = omega arith;
            played = more;
          }

-- and in the end none is left
pub passing_end : {p : Theory} {lows highs : List ℕ} {left : ℕ} {u : State} → left ≡ 0 → Passing p lows highs left u
    → Within lows highs (u [])
unfolding Played
passing_end {p} {lows} {highs} {left} {u} none g = go g.list g.few g.played
  where
    go : (list : List ℕ) → length list ≤ left → Played p g.state list u → Within lows highs (u [])
    go [] few q = subst (λ (s : State). Within lows highs (s [])) q g.within
    go (a ∷ list) few q = absurd (omega (arith, few, none))
