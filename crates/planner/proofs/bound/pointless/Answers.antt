-- The action's condition fails in what the character believes, or none of its rules is above. Assumes nothing.
use Prim.Native.Nat.{ℕ, suc, ◌+◌, ◌*◌, ◌<◌}
use mathlib.Core.Path.{◌≡◌, sym, ap, ◌∙◌, subst}
use mathlib.Core.Bool.{false}
use mathlib.Core.List.{List, []}
use native.Mathlib.Omega.{arith}
use lib.ListN.{get_or}
use borrow.Author.Tests.{not-true}
use Rattle.pack.specs.Syntax.{Node, Theory, Condition}
use Rattle.pack.specs.State.{State, meaning, belief}
use Rattle.pack.specs.Condition.{holds}
use Rattle.pack.specs.Reading.{done}
use Rattle.pack.specs.Grammar.{Dimensions, condition_at}
use Rattle.pack.specs.Duties.Judge.{Over, Judged}
use Rattle.pack.specs.Duties.Table.{state_of}
use Rattle.pack.specs.declared.table.Table.{Table}
use Rattle.transition.specs.Happening.{Plays}
use Rattle.planner.specs.Ending.{utility_to}
use Rattle.planner.specs.Inner.Lists.{slot_table}
use Rattle.planner.specs.Inner.Explain.{Stage}
use Rattle.planner.specs.Inner.Bound.{exceeds, unexplained}
use Rattle.planner.proofs.Explanations.{stage_believed, stage_rules, stage_utility, rules_in, utility_in, explained_plays, by_belief}
use Rattle.planner.proofs.Bounds.{judged_readable, stage_judged, stage_forbidden, stage_exceeds}
use Rattle.planner.proofs.bound.pointless.Goals as goal
use Rattle.planner.proofs.bound.pointless.Goals.{After-from-q}

-- the row of what the character believes
believed : (c : After-from-q) {th : Theory} {T : List Node} →
    Stage th T c.args.pack.now c.args.places.now c.args.p c.args.work.now (slot_table c.args.p c.args.work.now c.args.slot) (c.args.slot + c.args.p.stride)
    → (belief (meaning c.args.p.characters T 0) c.args.d.who ≡ meaning c.args.p.characters T c.from-q.result) × (c.from-q.result < get_or c.args.work.now c.args.slot 0)
believed c y =
    stage_believed y 0 c.args.d.who y.tabled.some c.requires.1 (ap (λ (q : ℕ). get_or c.args.work.now q 0) (omega arith) ∙ sym c.from-q.ensures)

-- the condition fails
pub returns-then-not-holds : goal.returns-then-not-holds
returns-then-not-holds c =
    λ e th T y K E.
    let judged = subst (λ (t : Table). (d : Dimensions) → Over d t → (z : Condition) (n : ℕ) → condition_at d c.args.pack.now (get_or c.args.places.now (9 * c.args.d.action) 0) ≡ done z n → c.holds.result ≡ holds (state_of t c.args.work.now c.from-q.result) z) c.table_in-t.ensures c.holds.ensures in
    λ z. explained_plays th K E c.args.d.who c.args.d.action (belief (meaning c.args.p.characters T 0) c.args.d.who) (λ s plays. stage_forbidden y c.args.d.action c.requires.2 c.from-q.result judged (c.if-not-holds.true) s (subst (λ (z : State). Plays th z c.args.d.action s) (believed (goal.at.returns-then-not-holds c).After-from-q y).0 plays)) (by_belief th K E c.args.d.who c.args.d.action (meaning c.args.p.characters T 0) z)

pub utility-base-requires : goal.utility-base-requires
utility-base-requires c =
    let (th, (T, y)) = c.requires.0 in
    rules_in _ _ _ c.from-q.result c.table_in-t.ensures (stage_rules y _ _ c.requires.1 (believed (goal.at.utility-base-requires c).After-from-q y).1).0

-- no rule is above what the belief is worth
pub returns : goal.returns
returns c =
    λ e th T y K E.
    let worth = stage_utility y c.args.d.who c.from-q.result c.requires.1 (utility_in c.args.pack.now (get_or c.args.places.now (321 + c.args.d.who) 0) c.args.work.now c.from-q.result c.utility-base.result c.table_in-t.ensures c.utility-base.ensures) in
    unexplained th K E c.args.d.who c.args.d.action (meaning c.args.p.characters T 0)
    (subst (λ (b : ℕ). exceeds b (get_or th.utilities (suc c.args.d.who) []) ≡ false) (worth ∙ ap (utility_to th c.args.d.who) (sym (believed (goal.at.returns c).After-from-q y).0))
    (sym (stage_exceeds y c.utility-base.result c.args.d.who c.requires.1 c.can_exceed.ensures) ∙ not-true c.can_exceed.result e))

pub holds-requires : goal.holds-requires
holds-requires c =
    let (th, (T, y)) = c.requires.0 in
    subst (λ (t : Table). Judged condition_at c.args.pack.now (get_or c.args.places.now (9 * c.args.d.action) 0) t c.args.work.now c.from-q.result) (sym c.table_in-t.ensures) (stage_judged y c.args.d.action c.requires.2 c.from-q.result (believed (goal.at.holds-requires c).After-from-q y).1)

pub can_exceed-requires : goal.can_exceed-requires
can_exceed-requires c =
    let (th, (T, y)) = c.requires.0 in
    judged_readable (stage_rules y _ _ c.requires.1 (believed (goal.at.can_exceed-requires c).After-from-q y).1).0
