-- Each of Step's outcomes is met: an action that may always be played and writes nothing leaves every state as it is,
-- is refused with 11 where a trigger always holds, and with 12 where each further belief is another. Assumes nothing.
use Rattle.std.specs.Prelude.{ℕ, zero, suc, ◌≤◌, ◌≡◌, Bool, true, false, cond, length, get_or}
use Rattle.std.proofs.Math.Path.{refl, ap, fun_ext}
use Rattle.std.proofs.Common.{sym, ◌∙◌, subst, arith}
use Rattle.std.proofs.Math.Option.{Option, none, some}
use mathlib.Core.List.Memᴰ
use mathlib.Core.List.{List, [], ◌∷◌, ◌++◌, append-nil}
use Rattle.pack.specs.Syntax.{Condition, Effect, Action, Trigger, Theory}
use Rattle.pack.specs.State.{State, belief, after, Valid}
use Rattle.pack.specs.Condition.{holds, all_pass, write}
use Rattle.chart.specs.States.{AtMost}
use Rattle.chart.specs.Laws.Count.{count, all, count_all, count_inj}
use Rattle.chart.specs.Laws.Lists.{place}
use Rattle.transition.specs.Happening.{at_root, change, observes, act, firing, fires, round}
use Rattle.transition.specs.Happening.{Quiet, Settles, Stops, Plays, Refuses}

-- an alternative without tests
abbrev always : Condition
always = [] ∷ []

abbrev idle : Action
idle = record { condition = always; effects = []; consenters = []; observed = [] }

abbrev restless : Trigger
restless = record { condition = always; effects = [] }

-- one character, one fluent, that action and some triggers
abbrev pub idling : List Trigger → Theory
idling triggers = record { characters = 1; domains = 2 ∷ []; actions = idle ∷ []; triggers = triggers; utilities = [] }

-- without effects nothing changes
module _ (effects : State → List Effect) (takes : State → ℕ → Bool) (none : (s : State) → effects s ≡ []) where
  told-nothing : (c : ℕ) (chain values : List ℕ) → at_root (write (suc c) []) chain values ≡ values
  unfolding at_root write
  told-nothing c [] values = refl
  told-nothing c (d ∷ chain) values = refl

  either : (b : Bool) (x y : List ℕ) → x ≡ y → cond b x y ≡ y
  either true x y e = e
  either false x y e = refl

  unchanged : (s : State) (chain : List ℕ) → change effects takes s chain ≡ s chain
  unfolding change write
  unchanged s [] = ap (λ (es : List Effect). write 0 es (s [])) (none s)
  unchanged s (c ∷ chain) =
      ap (λ (es : List Effect). at_root (write (suc c) es) chain
      (cond (takes s c) (change effects takes (belief s c) chain) (belief s c chain))) (none s)
      ∙ told-nothing c chain (cond (takes s c) (change effects takes (belief s c) chain) (belief s c chain))
      ∙ either (takes s c) (change effects takes (belief s c) chain) (belief s c chain) (unchanged (belief s c) chain)

idles : (s : State) → act idle s ≡ s
unfolding act
idles s = fun_ext (unchanged (λ (s : State). []) (observes idle) (λ s. refl) s)

rests : (s : State) → round (restless ∷ []) s ≡ s
unfolding round firing holds all_pass
rests s = fun_ext (unchanged (fires (restless ∷ [])) (λ (s : State) (c : ℕ). true) (λ s. refl) s)

may : (s : State) → holds s always ≡ true
unfolding holds all_pass
may s = refl

-- it plays
pub idle_plays : (s : State) → AtMost 32 1 s → Plays (idling []) s 0 s
unfolding Quiet firing
idle_plays s few = record {
  there = omega arith;
  may = may s;
  settles = subst (λ (x : State). Settles (idling []) 16 x s) (sym (idles s)) (Settles.still few (λ chain v. refl));
}

loud : (s : State) → ¬ Quiet (idling (restless ∷ [])) s
unfolding Quiet firing holds all_pass Valid
loud s quiet = absurd (never (quiet [] tt))
  where
    never : ◌≡◌ {A = Option Trigger} (some restless) none → ⊥
    never e = let z : ◌≡◌ {A = ℕ} 1 0 = ap (λ (o : Option Trigger). elim o as (λ o. ℕ) [ none ↦ 0 | some t ↦ 1 ]) e in
        omega arith

-- 11, "a trigger holds after round 16"
pub restless_stops : (k : ℕ) (s : State) → AtMost 32 1 s → Stops (idling (restless ∷ [])) k s 11
restless_stops zero s few = Stops.loud few (loud s)
restless_stops (suc k) s few =
    Stops.later few (loud s)
    (subst (λ (x : State). Stops (idling (restless ∷ [])) k x 11) (sym (rests s)) (restless_stops k s few))

pub eleven : (s : State) → AtMost 32 1 s → Refuses (idling (restless ∷ [])) s 0 11
eleven s few =
    Refuses.stopped (may s)
    (subst (λ (x : State). Stops (idling (restless ∷ [])) 16 x 11) (sym (idles s)) (restless_stops 16 s few))

-- a state in which all believe what is: one state
abbrev pub agreed : State
agreed chain = 0 ∷ []

pub agreed-one : AtMost 32 1 agreed
unfolding AtMost after
agreed-one = ([] ∷ [], omega arith, λ chain v. ([], Memᴰ.head refl, refl))

-- a state in which each further belief has another value
abbrev pub deepening : State
deepening chain = length chain ∷ []

-- n beliefs on
onward : ℕ → List ℕ
onward zero = []
onward (suc n) = 0 ∷ onward n

onward_valid : (n : ℕ) → Valid 1 (onward n)
unfolding Valid onward
onward_valid zero = tt
onward_valid (suc n) = (omega arith, onward_valid n)

onward_length : (n : ℕ) → length (onward n) ≡ n
unfolding onward
onward_length zero = refl
onward_length (suc n) = ap suc (onward_length n)

length_there : (chain r : List ℕ) → after deepening chain ≡ after deepening r → length chain ≡ length r
unfolding after
length_there chain r e =
    let here : length (chain ++ []) ≡ length (r ++ []) = ap (λ (s : State). get_or (s []) 0 0) e in
    ap length (sym (append-nil chain)) ∙ here ∙ ap length (append-nil r)

pub deepening-many : (n : ℕ) → ¬ AtMost n 1 deepening
unfolding AtMost
deepening-many n (reached, few, covers) =
    let more : count all (suc n)
    ≤ count all (length reached) = count_inj all all (λ i j. length (get_or reached j []) ≡ i) (suc n) (length reached)
    (λ i l u. let (r, m, e) = covers (onward i) (onward_valid i) in let (j, is_in_range, same) = place reached [] r m in
    (j, is_in_range, tt, ap length same ∙ sym (length_there (onward i) r e) ∙ onward_length i))
    (λ i j k l m u e f. absurd (omega (arith, e, f))) in
    omega (arith, more, count_all (suc n), count_all (length reached))

-- 12, "over 32 different states"
pub twelve : Refuses (idling []) deepening 0 12
twelve = Refuses.stopped (may deepening)
    (subst (λ (x : State). Stops (idling []) 16 x 12) (sym (idles deepening)) (Stops.many (deepening-many 32)))
