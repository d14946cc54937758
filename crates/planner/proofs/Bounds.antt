-- Whether some rule is above a number, and who then can have no reason. Assumes nothing.
use Prim.Native.Nat.{ℕ, suc, ◌+◌, ◌*◌, ◌<◌, ◌≤◌}
use mathlib.Core.Path.{◌≡◌, sym, ap, ◌∙◌, refl}
use mathlib.Core.Bool.{Bool, true, false, ◌||◌}
use mathlib.Core.List.{List, [], ◌∷◌}
use native.Mathlib.Omega.{arith}
use lib.ListN.{get_or}
use borrow.Author.Tests.{lt-ltb, le-ltb}
use Rattle.pack.specs.Syntax.{Condition, Rule, Node, Theory}
use Rattle.pack.specs.State.{State, meaning}
use Rattle.pack.specs.Condition.{holds}
use Rattle.pack.specs.Reading.{Reader, done}
use Rattle.pack.specs.Grammar.{Dimensions, condition_at, rules_at}
use Rattle.pack.specs.Duties.Answer.{dims}
use Rattle.pack.specs.Duties.Contents.{Gives}
use Rattle.pack.specs.Duties.Judge.{Over, Readable, Judged, Tells}
use Rattle.pack.specs.Duties.Table.{state_of}
use Rattle.pack.specs.declared.table.Table.{Table}
use Rattle.transition.specs.Happening.{nothing, action_of, Plays}
use Rattle.planner.specs.declared.limits.Context.{Context}
use Rattle.planner.specs.Inner.Explain.{Stage}
use Rattle.planner.specs.Inner.Bound.{exceeds}
use Rattle.planner.proofs.Explanations.{stage_state}
use Rattle.planner.proofs.Pruning.{unequal}

-- by one rule more
module _ (base : ℕ) where
  pub above_none : exceeds base [] ≡ false
  unfolding exceeds
  above_none = refl

  module _ (x : Rule) (rest : List Rule) where
    pub above_here : base < x.utility → exceeds base (x ∷ rest) ≡ true
    unfolding exceeds
    above_here l = ap (λ (b : Bool). b || exceeds base rest) (lt-ltb base x.utility l)

    pub above_not : x.utility ≤ base → exceeds base (x ∷ rest) ≡ exceeds base rest
    unfolding exceeds
    above_not l = ap (λ (b : Bool). b || exceeds base rest) (le-ltb base x.utility l)

pub judged_readable : {A : Type 0} {part : Dimensions → Reader A} {s : List ℕ} {at : ℕ} {t : Table} {work : List ℕ} {root : ℕ} → Judged part s at t work root → Readable part s at
judged_readable j = record { over = j.dimensions; small = j.over.small; value = j.value; end = j.end; reads = j.reads }

-- a row of a table before the free slots
module _ {th : Theory} {T : List Node} {pack places : List ℕ} {h : Context} {work : List ℕ} {t : Table} {slot : ℕ} (x : Stage th T pack places h work t slot) where
  abbrev D : Dimensions
  D = dims th.characters th.domains

  -- where an action's condition is judged
  module _ (a : ℕ) (l : a < h.actions) (root : ℕ) where
    condition_at_lem : Gives (condition_at D) pack (get_or places (9 * a) 0) (action_of th a).condition
    condition_at_lem = (x.theorized.found.action a l nothing).condition

    pub stage_judged : root < t.nodes → Judged condition_at pack (get_or places (9 * a) 0) t work root
    stage_judged i = record { table = x.tabled.fits; there = i; dimensions = D; over = x.tabled.over; value = (action_of th a).condition; end = condition_at_lem.end; reads = condition_at_lem.reads }

    -- it fails
    pub stage_forbidden : {r : Bool} → ((d : Dimensions) → Over d t → (c : Condition) (n : ℕ) → condition_at d pack (get_or places (9 * a) 0) ≡ done c n → r ≡ holds (state_of t work root) c) → r ≡ false → (s : State) → ¬ Plays th (meaning t.characters T root) a s
    stage_forbidden judged e s plays =
        unequal (sym plays.may ∙ ap (λ (s : State). holds s (action_of th a).condition) (sym (stage_state x root)) ∙ sym (judged D x.tabled.over (action_of th a).condition condition_at_lem.end condition_at_lem.reads) ∙ e)

  -- whether some rule of the author, or of a character, is above base
  pub author-exceeds : {r : Bool} (base : ℕ) → Tells rules_at (exceeds base) pack (get_or places 320 0) r → r ≡ exceeds base (get_or th.utilities 0 [])
  author-exceeds base f =
      let g = x.theorized.found.rules 0 (omega arith) in
      f D x.tabled.over.small (get_or th.utilities 0 []) g.end g.reads

  pub stage_exceeds : {r : Bool} (base c : ℕ) → c < t.characters → Tells rules_at (exceeds base) pack (get_or places (321 + c) 0) r → r ≡ exceeds base (get_or th.utilities (suc c) [])
  stage_exceeds base c l f =
      let place : 320 + (c + 1) ≡ 321 + c = omega arith in
      let next : c + 1 ≡ suc c = omega arith in
      let g = x.theorized.found.rules (c + 1) (omega (arith, x.tabled.over.characters)) in
      f D x.tabled.over.small (get_or th.utilities (c + 1) []) g.end (ap (λ (k : ℕ). rules_at D pack (get_or places k 0)) (sym place) ∙ g.reads)
      ∙ ap (λ (k : ℕ). exceeds base (get_or th.utilities k [])) next
