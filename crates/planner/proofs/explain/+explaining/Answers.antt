-- Explanations over states in slots. Assumes nothing.
use Prim.Native.Nat.{ℕ, suc, ◌+◌, ◌*◌, ◌-◌, ◌<◌}
use mathlib.Core.Path.{◌≡◌, refl, sym, ◌∙◌, subst}
use mathlib.Core.List.{List}
use native.Mathlib.Omega.{arith}
use lib.ListN.{length, get_or}
use borrow.Author.Count.{below_more}
use Rattle.pack.specs.Syntax.{Node, Theory}
use Rattle.pack.specs.State.{State, meaning}
use Rattle.planner.specs.Ending.{Explained, utility_to}
use Rattle.planner.specs.Inner.Lists.{slot_table, AboveBy, ExplainedBy}
use Rattle.planner.specs.Inner.Lists as inner
use Rattle.planner.specs.Inner.Memory.{deed_key, Memory}
use Rattle.planner.specs.Inner.Explain.{Stage, Free}
use Rattle.planner.proofs.TrueMemory.{memory_fewer}
use Rattle.planner.proofs.Pruning.{still_in, tried, tried_not}
use Rattle.planner.proofs.Reckoning.{free_few, above_beyond}
use Rattle.planner.proofs.Explanations.{marked_as, told_verdict, told_reached, told_is, told_none, told_by, told_no, told_yes, stage_rules, stage_utility, next_table, next_plays, next_stage, reach_here, reach_no_more, by_hopeless, by_from, by_to, explained_from, explained_to, explained_zero, explained_plays, by_belief, of_belief, agreed_all, content_of, content_more, free_fewer, free_two, free_held, within, held_step, held_rest, consenters_of, consent_readable, consent_count, consent_each, slot_same, stage_before, known, note, verdict, extended, noted, rules_in, utility_in}
use Rattle.planner.proofs.explain.+explaining.Goals as goal
use Rattle.planner.proofs.explain.+explaining.Goals.{explained-then-d-eq0-via-then-d-eq0, explained-then-d-eq0-via-else-d-eq0+then-pointless}
use mathlib.Core.Bool.{true}
use borrow.Author.Tests.{eq-eqb}
use Rattle.planner.proofs.explain.+explaining.Goals.{explains-After-known_step}

pub allowed-returns-then-not-fine : goal.allowed-returns-then-not-fine
allowed-returns-then-not-fine t c =
    let (long, low, high, rest) = c.loop-i.invariant in
    λ th T y mem.
    let told = c.fine.ensures th T (slot_same c.args.slot y low long) (rest th T y mem).0 in
    let count = consent_count y _ c.requires.1 c.consenters-count.ensures in
    let li : c.loop-i.i < length (consenters_of y _ c.requires.1) = omega (arith, count, c.loop-i-test.true) in
    let d = consent_each y _ c.requires.1 li c.consenter-c.ensures in
    told_no (λ q l. told.low q l ∙ low q l) (λ q l. told.high q l ∙ high q l) told.memory
    (λ agreed. told.complete c.if-not-fine.true (content_of th c.args.p.foresight.0 c.args.d.nesting.0 c.args.d.who c.args.d.action (meaning c.args.p.characters T 0) agreed li d.0))

pub allowed-loop-i-preserved : goal.allowed-loop-i-preserved
allowed-loop-i-preserved t c =
    let (long, low, high, rest) = c.loop-i.invariant in
    let (th, (T, (y, mem))) = c.requires.0 in
    let told = c.fine.ensures th T (slot_same c.args.slot y low long) (rest th T y mem).0 in (
      c.fine.auto.work ∙ long,
      λ q l. told.low q l ∙ low q l,
      λ q l. told.high q l ∙ high q l,
      λ th T y mem.
          let told = c.fine.ensures th T (slot_same c.args.slot y low long) (rest th T y mem).0 in
          let count = consent_count y _ c.requires.1 c.consenters-count.ensures in
          let li : c.loop-i.i < length (consenters_of y _ c.requires.1) = omega (arith, count, c.loop-i-test.true) in
          let d = consent_each y _ c.requires.1 li c.consenter-c.ensures in
          (told.memory, content_more th c.args.p.foresight.0 c.args.d.nesting.0 c.args.d.who c.args.d.action (meaning c.args.p.characters T 0) (rest th T y mem).1 d.0 (told.sound c.if-not-fine.false)),
    )

pub allowed-returns : goal.allowed-returns
allowed-returns t c =
    let (long, low, high, rest) = c.loop-i.invariant in
    λ th T y mem. let count = consent_count y _ c.requires.1 c.consenters-count.ensures in told_yes low high (rest th T y mem).0 (agreed_all th c.args.p.foresight.0 c.args.d.nesting.0 c.args.d.who c.args.d.action (meaning c.args.p.characters T 0) {n = c.loop-i.i} (omega (arith, count, c.loop-i-test.false)) (rest th T y mem).1)

pub explained-returns-then-d-eq0 : goal.explained-returns-then-d-eq0
explained-returns-then-d-eq0 t c =
    λ th T y mem.
    let s = meaning c.args.p.characters T 0 in
    let K = c.args.p.foresight.0 in
    told_none _ mem (elim c.then-d-eq0.branch [
      | explained-then-d-eq0-via-then-d-eq0 w ↦ λ z. explained_zero th K c.args.d.who c.args.d.action s (subst (λ (e : ℕ). Explained th K e c.args.d.who c.args.d.action s) w.if-d-eq0.true z)
      | explained-then-d-eq0-via-else-d-eq0+then-pointless w ↦ w.pointless.ensures w.if-pointless.true th T y K c.args.d.nesting.0
    ])

pub explained-returns : goal.explained-returns
explained-returns t c =
    λ th T y mem.
    let b = c.place_belief-b.ensures c.args.pack.now c.args.places.now th T y mem in
    let told = c.judged.ensures th b.rows b.stage b.memory in
    let by : State → Type 0 = ExplainedBy th c.args.p.foresight.0 c.args.d.nesting.0 c.args.d.who c.args.d.action in
    told_by (omega (arith, b.from)) (memory_fewer c.args.p (omega (arith, b.from))) b.low b.high told
    (λ z. of_belief th c.args.p.foresight.0 c.args.d.nesting.0 c.args.d.who c.args.d.action (meaning c.args.p.characters T 0) (subst by b.means z))
    (λ z. subst by (sym b.means) (by_belief th c.args.p.foresight.0 c.args.d.nesting.0 c.args.d.who c.args.d.action (meaning c.args.p.characters T 0) z))

pub explains-returns-then-not-known_step : goal.explains-returns-then-not-known_step
explains-returns-then-not-known_step t c =
    λ th T y mem.
    let played = c.known_step.ensures.0 th T y mem in
    told_no played.low played.high played.memory (explained_plays th c.args.p.foresight.0 c.args.d.nesting.0 c.args.d.who c.args.d.action (meaning c.args.p.characters T c.args.q) (played.none c.if-not-known_step.true))

-- the table in the slot after the step
explains_stays : (t : ℕ) (c : explains-After-known_step t) {th : Theory} {T : List Node} →
    let a = c.args in
    Stage th T a.pack.now a.places.now a.p a.work.now (slot_table a.p a.work.now a.slot) (a.slot + a.p.stride) → Memory th a.p.foresight.0 a.p (a.slot + a.p.stride) a.work.now
    → Stage th T a.pack.now a.places.now a.p c.known_step.new.work (slot_table a.p c.known_step.new.work a.slot) (a.slot + a.p.stride) × (a.q < get_or c.known_step.new.work a.slot 0)
explains_stays t c {th} {T} y mem =
    let a = c.args in
    let s = c.known_step in
    let low = (s.ensures.0 th T y mem).low in
    (slot_same a.slot y low s.auto.work, omega (arith, c.requires.5, low a.slot (omega (arith, y.laid.some))))

pub explains-utility-base-requires : goal.explains-utility-base-requires
explains-utility-base-requires t c =
    let (th, (T, (y, mem))) = c.requires.0 in
    let (z, inside) = explains_stays t (goal.at.explains-utility-base-requires t c).After-known_step y mem in
    rules_in _ _ _ c.args.q c.table_in-before.ensures (stage_rules z _ _ c.requires.1 inside).0

pub explains-returns : goal.explains-returns
explains-returns t c =
    let f = held_step c.args.p c.args.slot c.requires.6.some c.requires.4 c.requires.3 in
    let zero : c.known_step.result ≡ true = c.if-not-known_step.false in
    let up : suc (c.args.d.nesting.0 - 1) ≡ c.args.d.nesting.0 = omega (arith, c.requires.4) in
    let all : suc (c.args.p.foresight.0 - 1) ≡ c.args.p.foresight.0 = omega (arith, c.requires.6.some) in
    λ th T y mem.
    let b = meaning c.args.p.characters T c.args.q in
    let by : ℕ → Type 0 = λ e. ExplainedBy th c.args.p.foresight.0 e c.args.d.who c.args.d.action b in
    let played = c.known_step.ensures.0 th T y mem in
    let base = stage_utility (explains_stays t (goal.at.explains-returns t c).After-known_step y mem).0 c.args.d.who c.args.q c.requires.1 (utility_in c.args.pack.now (get_or c.args.places.now (321 + c.args.d.who) 0) c.known_step.new.work c.args.q c.utility-base.result c.table_in-before.ensures c.utility-base.ensures) in
    let plays = next_plays y _ played f c.known_step.auto.work zero in
    let told = c.extends.ensures th (next_table y _ played f c.known_step.auto.work zero) (next_stage y _ played f c.known_step.auto.work zero) (played.further zero) in
    told_by (omega arith) (memory_fewer c.args.p (omega arith)) played.low played.high told
    (λ z. subst by up (explained_from th c.args.p.foresight.0 (c.args.d.nesting.0 - 1) c.args.d.who c.args.d.action b _ _ base plays (c.args.p.foresight.0 - 1) all z))
    (λ z. explained_to th c.args.p.foresight.0 (c.args.d.nesting.0 - 1) c.args.d.who c.args.d.action b _ _ base plays (c.args.p.foresight.0 - 1) all (subst by (sym up) z))

pub extends-returns-then-goal-worth : goal.extends-returns-then-goal-worth
extends-returns-then-goal-worth t c =
    λ th T y mem. told_yes (λ q l. refl) (λ q l. refl) mem (reach_here th c.args.p.foresight.0 c.args.quest.goal.nesting.0 c.args.quest.who c.args.quest.goal.base c.args.quest.left (meaning c.args.p.characters T 0) (omega (arith, stage_utility y c.args.quest.who 0 c.requires.1 (utility_in c.args.pack.now (get_or c.args.places.now (321 + c.args.quest.who) 0) c.args.work.now 0 c.utility-worth.result c.table_in-t.ensures c.utility-worth.ensures), c.if-goal-worth.true)))

pub extends-returns-then-quest-eq0 : goal.extends-returns-then-quest-eq0
extends-returns-then-quest-eq0 t c =
    let none : 1 ≡ suc c.args.quest.left = omega (arith, c.if-quest-eq0.true) in
    λ th T y mem. told_none _ mem (λ z. reach_no_more th c.args.p.foresight.0 c.args.quest.goal.nesting.0 c.args.quest.who c.args.quest.goal.base (meaning c.args.p.characters T 0) (λ b. omega (arith, stage_utility y c.args.quest.who 0 c.requires.1 (utility_in c.args.pack.now (get_or c.args.places.now (321 + c.args.quest.who) 0) c.args.work.now 0 c.utility-worth.result c.table_in-t.ensures c.utility-worth.ensures), c.if-goal-worth.false)) (subst (λ (n : ℕ). inner.Above th c.args.p.foresight.0 c.args.quest.goal.nesting.0 c.args.quest.who c.args.quest.goal.base n (meaning c.args.p.characters T 0)) (sym none) z))

pub extends-returns-then-not-within_reach : goal.extends-returns-then-not-within_reach
extends-returns-then-not-within_reach t c =
    λ th T y mem. told_none _ mem (above_beyond th c.args.p.foresight.0 c.args.quest.goal.nesting.0 c.args.quest.who c.args.quest.goal.base c.args.quest.left (meaning c.args.p.characters T 0) (c.within_reach.ensures c.if-not-within_reach.true th T y))

pub extends-returns-in-Some-Reached : goal.extends-returns-in-Some-Reached
extends-returns-in-Some-Reached t c =
    λ th T y mem.
    let (m, fact) = c.recall.ensures.0.told th c.args.p.foresight.0 (c.args.slot + c.args.p.stride) (omega (arith, c.requires.2)) y.slotted mem in
    told_reached (known y c.goal_key-key.ensures fact) (λ q l. c.recall.ensures.0.only.low q (omega (arith, l, c.requires.2))) c.recall.ensures.0.only.high m (marked_as c.in-Some-Reached.is c.in-Some-Reached.field-0-is c.known_of.ensures)

pub extends-returns : goal.extends-returns
extends-returns t c =
    let some : 0 < c.args.quest.left = omega (arith, c.if-quest-eq0.false) in
    λ th T y mem.
    let s = meaning c.args.p.characters T in
    let told = c.extends_by-found.ensures th T (slot_same c.args.slot y (λ q l. c.recall.ensures.0.only.low q (omega (arith, l, c.requires.2))) c.recall.auto.work) (c.recall.ensures.0.told th c.args.p.foresight.0 (c.args.slot + c.args.p.stride) (omega (arith, c.requires.2)) y.slotted mem).0 in
    let here : c.args.quest.goal.base < utility_to th c.args.quest.who (s 0) → ⊥ = (λ b. omega (arith, stage_utility y c.args.quest.who 0 c.requires.1 (utility_in c.args.pack.now (get_or c.args.places.now (321 + c.args.quest.who) 0) c.args.work.now 0 c.utility-worth.result c.table_in-t.ensures c.utility-worth.ensures), c.if-goal-worth.false, b)) in
    let whole = extended th c.args.p.foresight.0 c.args.quest.goal.nesting.0 c.args.quest.who c.args.quest.goal.base c.args.quest.left s some here told in
    let z' = slot_same c.args.slot (slot_same {now = c.recall.new.work} c.args.slot y (λ q l. c.recall.ensures.0.only.low q (omega (arith, l, c.requires.2))) c.recall.auto.work) told.low c.extends_by-found.auto.work in
    record {
      sound = whole.sound;
      complete = whole.complete;
      low = λ q l. c.remember_worth.ensures.0.only.low q (omega (arith, l, c.requires.2)) ∙ told.low q l ∙ c.recall.ensures.0.only.low q (omega (arith, l, c.requires.2));
      high = λ q l. c.remember_worth.ensures.0.only.high q l ∙ told.high q l ∙ c.recall.ensures.0.only.high q l;
      memory = c.remember_worth.ensures.0.memory th c.args.p.foresight.0 (c.args.slot + c.args.p.stride) (omega (arith, c.requires.2)) z'.slotted told.memory (note z' c.goal_key-key.ensures (rw c.mark_of.ensures (noted th c.args.p.foresight.0 c.args.quest.goal.nesting.0 c.args.quest.who c.args.quest.goal.base c.args.quest.left s some here told)));
    }

pub extends_by-returns-then-via : goal.extends_by-returns-then-via
extends_by-returns-then-via t c =
    let (long, low, high, rest) = c.loop-x.invariant in
    λ th T y mem.
    let told = c.via.ensures th T (slot_same c.args.slot y low long) (rest th T y mem).0 in
    told_yes (λ q l. told.low q l ∙ low q l) (λ q l. told.high q l ∙ high q l) told.memory (c.loop-x.x, told.sound c.if-via.true)

pub extends_by-loop-x-preserved-then-not-promising : goal.extends_by-loop-x-preserved-then-not-promising
extends_by-loop-x-preserved-then-not-promising t c =
    let (long, low, high, rest) = c.loop-x.invariant in (
      long,
      low,
      high,
      λ th T y mem.
          let z = slot_same c.args.slot y low long in
          let is = still_in c.args.p c.args.slot c.args.work.now c.loop-x.work c.table_in-t.ensures (low c.args.slot (omega (arith, y.laid.some))) in (
            (rest th T y mem).0,
            below_more (λ x. AboveBy th c.args.p.foresight.0 c.args.quest.goal.nesting.0 c.args.quest.who c.args.quest.goal.base (suc c.args.quest.left) x (meaning c.args.p.characters T 0) → ⊥) c.loop-x.x (rest th T y mem).1 (by_hopeless th c.args.p.foresight.0 c.args.quest.goal.nesting.0 c.args.quest.who c.args.quest.goal.base c.args.quest.left c.loop-x.x (meaning c.args.p.characters T 0) (tried_not c.args.slot (c.args.quest.who + 1) z (omega (arith, c.requires.2)) is c.loop-x-test.true (c.promising.ensures c.if-not-promising.true))),
          ),
    )

pub extends_by-loop-x-preserved : goal.extends_by-loop-x-preserved
extends_by-loop-x-preserved t c =
    let (long, low, high, rest) = c.loop-x.invariant in
    let (th, (T, (y, mem))) = c.requires.0 in
    let told = c.via.ensures th T (slot_same c.args.slot y low long) (rest th T y mem).0 in (
      c.via.auto.work ∙ long,
      λ q l. told.low q l ∙ low q l,
      λ q l. told.high q l ∙ high q l,
      λ th T y mem.
          let told = c.via.ensures th T (slot_same c.args.slot y low long) (rest th T y mem).0 in (
            told.memory,
            below_more (λ x. AboveBy th c.args.p.foresight.0 c.args.quest.goal.nesting.0 c.args.quest.who c.args.quest.goal.base (suc c.args.quest.left) x (meaning c.args.p.characters T 0) → ⊥) c.loop-x.x (rest th T y mem).1 (told.complete c.if-via.false),
          ),
    )

pub extends_by-returns : goal.extends_by-returns
extends_by-returns t c =
    let (long, low, high, rest) = c.loop-x.invariant in
    λ th T y mem. told_no low high (rest th T y mem).0 (λ z. (rest th T y mem).1 z.0 (omega (arith, z.1.1.there, y.theorized.found.actions, c.loop-x-test.false)) z.1)

pub fine-returns-then-c-d : goal.fine-returns-then-c-d
fine-returns-then-c-d t c =
    λ th T y mem. told_is (eq-eqb _ _ c.if-c-d.true) (told_yes (λ q l. refl) (λ q l. refl) mem (λ o. absurd (o c.if-c-d.true)))

pub fine-returns-else-c-d : goal.fine-returns-else-c-d
fine-returns-else-c-d t c =
    λ th T y mem. told_by (omega arith) (λ m. m) (λ q l. refl) (λ q l. refl) (c.explained.ensures th T y mem) (λ z o. z) (λ f. f c.if-c-d.false)

pub judged-returns-in-Some-Explained : goal.judged-returns-in-Some-Explained
judged-returns-in-Some-Explained t c =
    λ th T y mem.
    let (m, fact) = c.recall.ensures.0.told th c.args.p.foresight.0 (c.args.slot + c.args.p.stride) (within c.args.p c.args.slot c.requires.6.some c.requires.4 c.requires.3) y.slotted mem in
    let most = within c.args.p c.args.slot c.requires.6.some c.requires.4 c.requires.3 in
    told_verdict (known y c.deed_key-key.ensures fact) (λ q l. c.recall.ensures.0.only.low q (omega (arith, l, most))) c.recall.ensures.0.only.high m (marked_as c.in-Some-Explained.is c.in-Some-Explained.field-0-is c.known_of.ensures)

pub judged-returns : goal.judged-returns
judged-returns t c =
    λ th T y mem.
    let told = c.explains-verdict.ensures th T (slot_same {now = c.recall.new.work} c.args.slot y (λ q l. c.recall.ensures.0.only.low q (omega (arith, l, within c.args.p c.args.slot c.requires.6.some c.requires.4 c.requires.3))) c.recall.auto.work) (c.recall.ensures.0.told th c.args.p.foresight.0 (c.args.slot + c.args.p.stride) (within c.args.p c.args.slot c.requires.6.some c.requires.4 c.requires.3) y.slotted mem).0 in
    let z = slot_same c.args.slot (slot_same {now = c.recall.new.work} c.args.slot y (λ q l. c.recall.ensures.0.only.low q (omega (arith, l, within c.args.p c.args.slot c.requires.6.some c.requires.4 c.requires.3))) c.recall.auto.work) told.low c.explains-verdict.auto.work in
    let most = within c.args.p c.args.slot c.requires.6.some c.requires.4 c.requires.3 in
    record {
      sound = told.sound;
      complete = told.complete;
      low = λ q l. c.remember_worth.ensures.0.only.low q (omega (arith, l, most)) ∙ told.low q l ∙ c.recall.ensures.0.only.low q (omega (arith, l, most));
      high = λ q l. c.remember_worth.ensures.0.only.high q l ∙ told.high q l ∙ c.recall.ensures.0.only.high q l;
      memory = c.remember_worth.ensures.0.memory th c.args.p.foresight.0 (c.args.slot + c.args.p.stride) most z.slotted told.memory (note z c.deed_key-key.ensures (rw c.mark_of.ensures (verdict th c.args.p.foresight.0 (deed_key c.args.d c.args.q) (meaning c.args.p.characters T) told.sound told.complete)));
    }

pub via-returns-then-not-allowed : goal.via-returns-then-not-allowed
via-returns-then-not-allowed t c =
    λ th T y mem.
    let told = c.allowed.ensures th T y mem in
    told_no told.low told.high told.memory (λ z. told.complete c.if-not-allowed.true z.2)

pub via-returns-else-known_step : goal.via-returns-else-known_step
via-returns-else-known_step t c =
    λ th T y mem.
    let told = c.allowed.ensures th T y mem in
    let played = c.known_step.ensures.0 th T (slot_same c.args.slot y told.low c.allowed.auto.work) told.memory in
    told_is c.if-known_step.false (told_no (λ q l. played.low q l ∙ told.low q l) (λ q l. played.high q l ∙ told.high q l) played.memory (λ g. played.none c.if-known_step.false g.0 g.1))

pub via-returns-then-known_step : goal.via-returns-then-known_step
via-returns-then-known_step t c =
    let zero : c.known_step.result ≡ true = c.if-known_step.true in
    let f : Free c.args.p (c.args.slot + c.args.p.stride) 1 = omega (arith, c.requires.3) in
    λ th T y mem.
    let told = c.allowed.ensures th T y mem in
    let z' = slot_same c.args.slot y told.low c.allowed.auto.work in
    let played = c.known_step.ensures.0 th T z' told.memory in
    let plays = next_plays z' 0 played f c.known_step.auto.work zero in
    told_by (omega arith) (memory_fewer c.args.p (omega arith)) (λ q l. played.low q l ∙ told.low q l) (λ q l. played.high q l ∙ told.high q l) (c.extends.ensures th (next_table z' 0 played f c.known_step.auto.work zero) (next_stage z' 0 played f c.known_step.auto.work zero) (played.further zero))
    (λ g. by_from th c.args.p.foresight.0 c.args.quest.goal.nesting.0 c.args.quest.who c.args.quest.goal.base (suc c.args.quest.left) c.args.x (meaning c.args.p.characters T 0) _ plays (told.sound c.if-not-allowed.false) g)
    (λ g. by_to th c.args.p.foresight.0 c.args.quest.goal.nesting.0 c.args.quest.who c.args.quest.goal.base (suc c.args.quest.left) c.args.x (meaning c.args.p.characters T 0) _ plays g)

pub allowed-consenters-count-requires : goal.allowed-consenters-count-requires
allowed-consenters-count-requires t c =
    let (th, (T, (y, mem))) = c.requires.0 in
    consent_readable y _ c.requires.1

pub allowed-consenter-c-requires : goal.allowed-consenter-c-requires
allowed-consenter-c-requires t c =
    let (th, (T, (y, mem))) = c.requires.0 in
    (consent_readable y _ c.requires.1, omega (arith, c.loop-i-test.true, consent_count y _ c.requires.1 c.consenters-count.ensures))

pub allowed-fine-requires : goal.allowed-fine-requires
allowed-fine-requires t c =
    let (th, (T, (y, mem))) = c.requires.0 in
    let (long, low, high, rest) = c.loop-i.invariant in
    let count = consent_count y _ c.requires.1 c.consenters-count.ensures in
    let d = consent_each y _ c.requires.1 {i = c.loop-i.i} (omega (arith, count, c.loop-i-test.true)) c.consenter-c.ensures in
    (omega (arith, c.decreases), ((th, (T, (slot_same c.args.slot y low long, (rest th T y mem).0))), d.1, c.requires.1, c.requires.2, c.requires.3))

pub explained-judged-requires : goal.explained-judged-requires
explained-judged-requires t c =
    let (th, (T, (y, mem))) = c.requires.0 in
    let b = c.place_belief-b.ensures c.args.pack.now c.args.places.now th T y mem in
    (omega (arith, c.decreases), ((th, (b.rows, (b.stage, b.memory))), c.requires.1, c.requires.2, free_held c.args.p c.args.slot _ b.to c.requires.3, omega (arith, c.if-d-eq0.false), b.inside, c.requires.4))

pub explains-extends-requires : goal.explains-extends-requires
explains-extends-requires t c =
    let (th, (T, (y, mem))) = c.requires.0 in
    let f = held_step c.args.p c.args.slot c.requires.6.some c.requires.4 c.requires.3 in
    let played = c.known_step.ensures.0 th T y mem in
    let zero : c.known_step.result ≡ true = c.if-not-known_step.false in
    (omega (arith, c.decreases, c.requires.6.few, c.requires.4), ((th, (next_table y _ played f c.known_step.auto.work zero, (next_stage y _ played f c.known_step.auto.work zero, played.further zero))), c.requires.1, held_rest c.args.p c.args.slot c.requires.6.some c.requires.4 c.requires.3, c.requires.6))

pub extends-utility-worth-requires : goal.extends-utility-worth-requires
extends-utility-worth-requires t c =
    let (th, (T, (y, mem))) = c.requires.0 in
    rules_in _ _ _ 0 c.table_in-t.ensures (stage_rules y _ 0 c.requires.1 y.tabled.some).0

pub extends-within_reach-requires : goal.extends-within_reach-requires
extends-within_reach-requires t c =
    let (th, (T, (y, mem))) = c.requires.0 in
    let wanted = 1 + c.args.quest.left + (1 + c.args.p.foresight.0) * c.args.quest.goal.nesting.0 in
    let few = free_few c.args.p c.args.slot wanted y.laid c.requires.2 in
    (((th, (T, y)), free_fewer c.args.p c.args.slot wanted 1 (omega arith) c.requires.2, omega (arith, c.requires.1)), omega (arith, few))

pub extends-extends_by-found-requires : goal.extends-extends_by-found-requires
extends-extends_by-found-requires t c =
    let (th, (T, (y, mem))) = c.requires.0 in
    (omega (arith, c.decreases, c.if-quest-eq0.false), ((th, (T, (slot_same c.args.slot y (λ q l. c.recall.ensures.0.only.low q (omega (arith, l, c.requires.2))) c.recall.auto.work, (c.recall.ensures.0.told th c.args.p.foresight.0 (c.args.slot + c.args.p.stride) (omega (arith, c.requires.2)) y.slotted mem).0))), c.requires.1, free_fewer c.args.p c.args.slot (1 + c.args.quest.left + (1 + c.args.p.foresight.0) * c.args.quest.goal.nesting.0) (2 + (c.args.quest.left - 1) + (1 + c.args.p.foresight.0) * c.args.quest.goal.nesting.0) (omega (arith, c.if-quest-eq0.false)) c.requires.2, c.requires.3))

pub extends-remember_worth-requires : goal.extends-remember_worth-requires
extends-remember_worth-requires t c =
    let (th, (T, (y, mem))) = c.requires.0 in
    let told = c.extends_by-found.ensures th T (slot_same c.args.slot y (λ q l. c.recall.ensures.0.only.low q (omega (arith, l, c.requires.2))) c.recall.auto.work) (c.recall.ensures.0.told th c.args.p.foresight.0 (c.args.slot + c.args.p.stride) (omega (arith, c.requires.2)) y.slotted mem).0 in
    (stage_before (slot_same c.args.slot (slot_same {now = c.recall.new.work} c.args.slot y (λ q l. c.recall.ensures.0.only.low q (omega (arith, l, c.requires.2))) c.recall.auto.work) told.low c.extends_by-found.auto.work) (omega (arith, c.requires.2)), c.steps_made-since.ensures)

pub extends_by-promising-requires : goal.extends_by-promising-requires
extends_by-promising-requires t c =
    let (th, (T, (y, mem))) = c.requires.0 in
    let (long, low, high, rest) = c.loop-x.invariant in
    tried c.args.slot (c.args.quest.who + 1) (slot_same c.args.slot y low long) (omega (arith, c.requires.2)) (still_in c.args.p c.args.slot c.args.work.now c.loop-x.work c.table_in-t.ensures (low c.args.slot (omega (arith, y.laid.some)))) c.loop-x-test.true (omega (arith, c.requires.1))

pub extends_by-via-requires : goal.extends_by-via-requires
extends_by-via-requires t c =
    let (th, (T, (y, mem))) = c.requires.0 in
    let (long, low, high, rest) = c.loop-x.invariant in
    (omega (arith, c.decreases), ((th, (T, (slot_same c.args.slot y low long, (rest th T y mem).0))), c.requires.1, c.loop-x-test.true, omega (arith, c.requires.2), c.requires.3))

pub judged-explains-verdict-requires : goal.judged-explains-verdict-requires
judged-explains-verdict-requires t c =
    let (th, (T, (y, mem))) = c.requires.0 in
    (omega (arith, c.decreases), ((th, (T, (slot_same {now = c.recall.new.work} c.args.slot y (λ q l. c.recall.ensures.0.only.low q (omega (arith, l, within c.args.p c.args.slot c.requires.6.some c.requires.4 c.requires.3))) c.recall.auto.work, (c.recall.ensures.0.told th c.args.p.foresight.0 (c.args.slot + c.args.p.stride) (within c.args.p c.args.slot c.requires.6.some c.requires.4 c.requires.3) y.slotted mem).0))), c.requires.1, c.requires.2, c.requires.3, c.requires.4, omega (arith, c.requires.5, c.recall.ensures.0.only.low c.args.slot (omega (arith, within c.args.p c.args.slot c.requires.6.some c.requires.4 c.requires.3, y.laid.some))), c.requires.6))

pub judged-remember_worth-requires : goal.judged-remember_worth-requires
judged-remember_worth-requires t c =
    let (th, (T, (y, mem))) = c.requires.0 in
    let told = c.explains-verdict.ensures th T (slot_same {now = c.recall.new.work} c.args.slot y (λ q l. c.recall.ensures.0.only.low q (omega (arith, l, within c.args.p c.args.slot c.requires.6.some c.requires.4 c.requires.3))) c.recall.auto.work) (c.recall.ensures.0.told th c.args.p.foresight.0 (c.args.slot + c.args.p.stride) (within c.args.p c.args.slot c.requires.6.some c.requires.4 c.requires.3) y.slotted mem).0 in
    let z = slot_same c.args.slot (slot_same {now = c.recall.new.work} c.args.slot y (λ q l. c.recall.ensures.0.only.low q (omega (arith, l, within c.args.p c.args.slot c.requires.6.some c.requires.4 c.requires.3))) c.recall.auto.work) told.low c.explains-verdict.auto.work in
    (stage_before z (within c.args.p c.args.slot c.requires.6.some c.requires.4 c.requires.3), c.steps_made-since.ensures)

pub via-known_step-requires : goal.via-known_step-requires
via-known_step-requires t c =
    let (th, (T, (y, mem))) = c.requires.0 in
    let told = c.allowed.ensures th T y mem in
    let z = slot_same c.args.slot y told.low c.allowed.auto.work in
    (((th, (T, (z, told.memory))), c.requires.2, z.tabled.some, omega (arith, c.requires.3)))

pub via-extends-requires : goal.via-extends-requires
via-extends-requires t c =
    let (th, (T, (y, mem))) = c.requires.0 in
    let told = c.allowed.ensures th T y mem in
    let z' = slot_same c.args.slot y told.low c.allowed.auto.work in
    let f : Free c.args.p (c.args.slot + c.args.p.stride) 1 = omega (arith, c.requires.3) in
    let played = c.known_step.ensures.0 th T z' told.memory in
    let zero : c.known_step.result ≡ true = c.if-known_step.true in
    (omega (arith, c.decreases), ((th, (next_table z' 0 played f c.known_step.auto.work zero, (next_stage z' 0 played f c.known_step.auto.work zero, played.further zero))), c.requires.1, omega (arith, c.requires.3), c.requires.4))

pub explained-place_belief-b-requires : goal.explained-place_belief-b-requires
explained-place_belief-b-requires t c =
    ((c.args.pack.now, (c.args.places.now, c.requires.0)), c.requires.1, free_two c.args.p c.args.slot c.requires.4.some (omega (arith, c.if-d-eq0.false)) c.requires.3)

pub explains-known_step-requires : goal.explains-known_step-requires
explains-known_step-requires t c =
    let (th, (T, (y, mem))) = c.requires.0 in
    (((th, (T, (y, mem))), c.requires.2, c.requires.5, held_step c.args.p c.args.slot c.requires.6.some c.requires.4 c.requires.3))

pub judged-recall-requires : goal.judged-recall-requires
judged-recall-requires t c =
    let (th, (T, (y, mem))) = c.requires.0 in
    stage_before y (within c.args.p c.args.slot c.requires.6.some c.requires.4 c.requires.3)
