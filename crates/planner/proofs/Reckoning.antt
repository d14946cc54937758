-- Ranges widened level by level, and what is out of reach by them. Assumes nothing.
use Prim.Native.Nat.{ℕ, suc, ◌+◌, ◌*◌, ◌<◌, ◌≤◌}
use mathlib.Core.Path.{◌≡◌, sym, ap, ◌∙◌, subst}
use mathlib.Core.Bool.{Bool, true, false}
use mathlib.Core.Logic.{by_cases}
use mathlib.Core.List.{List, []}
use native.Mathlib.Decide.{dec_le}
use native.Mathlib.Nat.{mul-le-mul_right}
use native.Mathlib.Omega.{arith}
use lib.ListN.{length, get_or, replicate}
use borrow.Author.Count.{below_more}
use Rattle.pack.specs.Syntax.{Node, Theory}
use Rattle.pack.specs.State.{State, meaning}
use Rattle.pack.specs.Condition.{utility}
use Rattle.pack.specs.Grammar.{dimensions, condition_at, rules_at, effects_at}
use Rattle.pack.specs.Duties.Contents.{Gives}
use Rattle.pack.specs.Duties.Copy.{Copied}
use Rattle.pack.specs.Duties.Judge.{Readable, Tells}
use Rattle.pack.specs.Duties.Table.{state_of, cells}
use Rattle.pack.specs.declared.table.Table.{Table}
use Rattle.transition.specs.Happening.{nothing, action_of}
use Rattle.transition.specs.Duties.Play.{Theorized}
use Rattle.planner.specs.declared.limits.Context.{Context}
use Rattle.planner.specs.Ending.{Explained}
use Rattle.planner.specs.Inner.Lists.{Other, Above, All, Ends}
use Rattle.planner.specs.Inner.Memory.{Laid}
use Rattle.planner.specs.Inner.Explain.{Stage, Free}
use Rattle.planner.specs.Inner.Range.{could_hold, could_pass, could_exceed, Within, AllInRange, idle, TriggersInRange, no_exceed, within_barred, within_wider, all_wider}
use Rattle.planner.specs.Inner.Look.{TriggersWidened}
use Rattle.planner.specs.Inner.Levels.{ActionThere, ActionWidened, LevelWidened}
use Rattle.planner.specs.Inner.Reach.{Passing, passing_more, passing_end, ActionsInRange, Played, leads_played}
use Rattle.planner.proofs.Pruning.{all_triggers, own_values, copied_cells, laid_within, zeros}

-- An action
module _ (pack places : List ℕ) (a : ℕ) where
  condition_there : (p : Theory) (m n : ℕ) → Theorized p pack places m n → a < m → Gives (condition_at (dimensions p)) pack (get_or places (9 * a) 0) (action_of p a).condition
  condition_there p m n x l = (x.found.action a l nothing).condition

  effects_there : (p : Theory) (m n : ℕ) → Theorized p pack places m n → a < m → Gives (effects_at (dimensions p)) pack (get_or places (9 * a + 1) 0) (action_of p a).effects
  effects_there p m n x l = (x.found.action a l nothing).effects

  module _ (y : ActionThere pack places a) where
    pub action_condition : Readable condition_at pack (get_or places (9 * a) 0)
    action_condition =
        let (p, (m, (n, (x, l)))) = y in
        let g = condition_there p m n x l in
        record { over = dimensions p; small = x.small; value = (action_of p a).condition; end = g.end; reads = g.reads }

    pub action_effects : Readable effects_at pack (get_or places (9 * a + 1) 0)
    action_effects =
        let (p, (m, (n, (x, l)))) = y in
        let g = effects_there p m n x l in
        record { over = dimensions p; small = x.small; value = (action_of p a).effects; end = g.end; reads = g.reads }

pub actions_more : {pack places : List ℕ} {actions a : ℕ} (lower upper : List ℕ) {lows highs lows' highs' : List ℕ} → a < actions → ActionWidened pack places a lower upper lows highs lows' highs'
    → (p : Theory) (n : ℕ) → Theorized p pack places actions n → ActionsInRange p lower upper lows highs a → ActionsInRange p lower upper lows' highs' (a + 1)
actions_more {actions = actions} {a} lower upper {lows' = lows'} {highs'} l w p n x old =
    below_more (λ (j : ℕ). could_hold (could_pass lower upper) (action_of p j).condition ≡ true → AllInRange lows' highs' (action_of p j).effects) a
    (λ j h q. all_wider w.wider (action_of p j).effects (old j h q))
    (w.covers p actions n x l)

-- From the start to the end
module _ {th : Theory} {T : List Node} {pack places : List ℕ} {h : Context} {work : List ℕ} {t : Table} {slot : ℕ} (x : Stage th T pack places h work t slot) where
  -- so many actions are left of every list that is within reach, from a state within the ranges on
  abbrev pub Bounded : (lows highs : List ℕ) (left k : ℕ) → Type 0
  Bounded lows highs left k = (list : List ℕ) (u : State) → length list ≤ left → Played th (meaning t.characters T 0) list u → Passing th lows highs k u

  pub bounded_start : {mid lows highs : List ℕ} {left : ℕ} → Copied work t.rows (replicate 24 0) mid 0 t.fluents 0 → TriggersWidened pack places h.triggers mid mid lows highs → Bounded lows highs left left
  bounded_start {mid} {lows} {highs} copied widened list u few played =
      let S = meaning t.characters T 0 in
      let same : state_of t work 0 [] ≡ S [] = ap (λ (U : List Node). meaning t.characters U 0 []) x.tabled.same in
      let is : cells mid 0 t.fluents ≡ S [] = copied_cells copied ∙ sym (own_values t work x.tabled.some) ∙ same in
      let past : (f : ℕ) → t.fluents ≤ f → get_or mid f 0 ≡ 0 = λ f l. copied.only.above f (omega (arith, l)) ∙ zeros 24 f in
      record { state = S; within = within_wider widened.wider (subst (Within mid mid) is (laid_within t.fluents mid past)); list = list; few = few; played = played }

  pub bounded_more : {lows highs lows' highs' : List ℕ} {left k : ℕ} → TriggersInRange lows highs th.triggers h.triggers → LevelWidened pack places h.actions lows highs lows highs lows' highs' → Bounded lows highs left (suc k) → Bounded lows' highs' left k
  bounded_more {lows' = lows'} {highs'} triggers level g list u few played =
      passing_more level.wider
      (all_triggers pack places h.triggers lows' highs' x.theorized (λ j l. all_wider level.wider (get_or th.triggers j idle).effects (triggers j l)))
      (λ a l. level.covers th h.triggers x.theorized a (omega (arith, l, x.theorized.found.actions)))
      (g list u few played)

  pub bounded_end : {lows highs : List ℕ} {left k whose base : ℕ} {r : Bool} → k ≡ 0 → whose < t.characters + 1 → Bounded lows highs left k
      → Tells rules_at (could_exceed (could_pass lows highs) base) pack (get_or places (320 + whose) 0) r → r ≡ false
      → (list : List ℕ) (u : State) → length list ≤ left → Played th (meaning t.characters T 0) list u → utility u (get_or th.utilities whose []) ≤ base
  bounded_end {lows} {highs} {whose = whose} {base} none l g told e list u few played =
      let rules = get_or th.utilities whose [] in
      let s = x.theorized.found.rules whose (omega (arith, l, x.tabled.over.characters)) in
      no_exceed (could_pass lows highs) u (within_barred u (passing_end none (g list u few played))) base rules
      (sym (told (dimensions th) x.theorized.small rules s.end s.reads) ∙ e)

-- slots that lie before the memory are few
pub free_few : (h : Context) (slot n : ℕ) → Laid h → Free h slot n → n < 31
free_few h slot n laid free = by_cases (dec_le 31 n) (λ k. absurd (omega (arith, free, laid.few, laid.some, mul-le-mul_right h.stride k))) (λ k. omega (arith, k))

-- what that says of a character's lists, and of the author's
module _ (th : Theory) (K e : ℕ) where
  pub above_beyond : (c base left : ℕ) (s : State)
      → ((list : List ℕ) (u : State) → length list ≤ left → Played th s list u → utility u (get_or th.utilities (c + 1) []) ≤ base)
      → ¬ Above th K e c base (suc left) s
  above_beyond c base left s f (list, l, (u, leads, above)) =
      let next : c + 1 ≡ suc c = omega arith in
      let same = ap (λ (k : ℕ). utility u (get_or th.utilities k [])) next in
      omega (arith, above, same, f list u (omega (arith, l)) (leads_played th (Other c) (Explained th K e) s list u leads))

  pub ends_beyond : (base left : ℕ) (s : State)
      → ((list : List ℕ) (u : State) → length list ≤ left → Played th s list u → utility u (get_or th.utilities 0 []) ≤ base)
      → (list : List ℕ) (v : ℕ) → length list ≡ left → ¬ Ends th K e base s list v
  ends_beyond base left s f list v l (u, leads, (is, above)) =
      omega (arith, is, above, f list u (omega (arith, l)) (leads_played th All (Explained th K e) s list u leads))
