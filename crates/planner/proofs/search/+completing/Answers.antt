-- The author's lists over states in slots. Assumes nothing.
use Prim.Native.Nat.{ℕ, suc, ◌+◌, ◌*◌, ◌-◌}
use mathlib.Core.Path.{◌≡◌, refl, sym, ap, ◌∙◌, subst}
use mathlib.Core.Bool.{true, not}
use Rattle.std.specs.Prelude.{None}
use mathlib.Core.List.{List}
use native.Mathlib.Omega.{arith}
use lib.ListN.{length}
use lib.Seq.{get_or-set_same, get_or-set_other}
use borrow.Author.Count.{below_more}
use Rattle.pack.specs.State.{meaning}
use Rattle.planner.specs.Inner.Lists.{Ends, EndsBy}
use Rattle.planner.specs.Inner.Memory.{Memory}
use Rattle.planner.specs.Inner.Explain.{Free}
use Rattle.planner.specs.Inner.Search.{Best, Trail}
use Rattle.planner.proofs.TrueMemory.{memory_fewer}
use Rattle.planner.proofs.Pruning.{still_in, tried, tried_not}
use Rattle.planner.proofs.Reckoning.{free_few, ends_beyond}
use Rattle.planner.proofs.Explanations.{marked_as, next_table, next_written, next_plays, next_stage, stage_extent, slot_same, stage_before, stage_state, known, note, free_fewer, free_next}
use Rattle.planner.proofs.EarliestList.{best_is, is_none, not_none, best_none, best_from, best_noted, best_same, fact_of_none, trail_step, trail_same, trail_repeats, on_path, best_end, best_first, best_no, best_hopeless, best_by, best_by_none, agreed_from, agreed_to}
use Rattle.planner.proofs.search.+completing.Goals as goal

pub completes-returns-then-ahead-eq0 : goal.completes-returns-then-ahead-eq0
completes-returns-then-ahead-eq0 t c =
    let none : 0 ≡ c.args.ahead.left = omega (arith, c.if-ahead-eq0.true) in
    λ th T y mem trail.
    let e = c.ends.ensures th T y in
    best_same none (best_end th c.args.p.foresight.0 c.args.ahead.goal.nesting.0 c.args.ahead.goal.base (meaning c.args.p.characters T 0) c.args.list.now c.args.work.now mem e.0 e.1)

pub completes-returns-then-repeats : goal.completes-returns-then-repeats
completes-returns-then-repeats t c =
    let again = c.repeats.ensures.0 c.if-repeats.true in
    λ th T y mem trail. best_none _ (λ q l. refl) (λ q l. refl) mem (trail_repeats th c.args.p.foresight.0 c.args.ahead.goal.nesting.0 c.args.ahead.goal.base (meaning c.args.p.characters T 0) (c.args.ahead.done * c.args.p.stride) trail (stage_state y 0) again)

pub completes-returns-then-not-within_reach : goal.completes-returns-then-not-within_reach
completes-returns-then-not-within_reach t c =
    λ th T y mem trail. best_none _ (λ q l. refl) (λ q l. refl) mem (ends_beyond th c.args.p.foresight.0 c.args.ahead.goal.nesting.0 c.args.ahead.goal.base c.args.ahead.left (meaning c.args.p.characters T 0) (c.within_reach.ensures c.if-not-within_reach.true th T y))

pub completes-returns-in-Some-NoEnding : goal.completes-returns-in-Some-NoEnding
completes-returns-in-Some-NoEnding t c =
    λ th T y mem trail.
    let (m, fact) = c.recall.ensures.0.told th c.args.p.foresight.0 (c.args.ahead.done * c.args.p.stride + c.args.p.stride) (omega (arith, c.requires.1)) y.slotted mem in
    best_none _ (λ q l. c.recall.ensures.0.only.low q (omega (arith, l, c.requires.1))) c.recall.ensures.0.only.high m ((known y c.goal_key-key.ensures fact).none (sym (marked_as c.in-Some-NoEnding.is c.in-Some-NoEnding.field-0-is c.known_of.ensures)))

pub completes-returns-then-is_none : goal.completes-returns-then-is_none
completes-returns-then-is_none t c =
    let zero : c.completes_after-after.result ≡ None = is_none (c.is_none.ensures ∙ ap not c.if-is_none.true) in
    let up : c.args.ahead.left ≡ suc (c.args.ahead.left - 1) = omega (arith, c.if-ahead-eq0.false) in
    λ th T y mem trail.
    let b = best_from (λ q l. c.recall.ensures.0.only.low q (omega (arith, l, c.requires.1))) c.recall.ensures.0.only.high (best_same (sym up) (c.completes_after-after.ensures th T (slot_same (c.args.ahead.done * c.args.p.stride) y (λ q l. c.recall.ensures.0.only.low q (omega (arith, l, c.requires.1))) c.recall.auto.work) (c.recall.ensures.0.told th c.args.p.foresight.0 (c.args.ahead.done * c.args.p.stride + c.args.p.stride) (omega (arith, c.requires.1)) y.slotted mem).0 (trail_same th c.args.p.foresight.0 c.args.ahead.goal.nesting.0 c.args.ahead.goal.base (meaning c.args.p.characters T 0) (λ q l. c.recall.ensures.0.only.low q (omega (arith, l, c.requires.1))) (subst (λ (n : ℕ). Trail th c.args.p.foresight.0 c.args.ahead.goal.nesting.0 c.args.ahead.goal.base c.args.p c.args.work.now c.args.ahead.done n (meaning c.args.p.characters T 0)) up trail)))) in
    let z' = slot_same (c.args.ahead.done * c.args.p.stride) (slot_same {now = c.recall.new.work} (c.args.ahead.done * c.args.p.stride) y (λ q l. c.recall.ensures.0.only.low q (omega (arith, l, c.requires.1))) c.recall.auto.work) (c.completes_after-after.ensures th T (slot_same (c.args.ahead.done * c.args.p.stride) y (λ q l. c.recall.ensures.0.only.low q (omega (arith, l, c.requires.1))) c.recall.auto.work) (c.recall.ensures.0.told th c.args.p.foresight.0 (c.args.ahead.done * c.args.p.stride + c.args.p.stride) (omega (arith, c.requires.1)) y.slotted mem).0 (trail_same th c.args.p.foresight.0 c.args.ahead.goal.nesting.0 c.args.ahead.goal.base (meaning c.args.p.characters T 0) (λ q l. c.recall.ensures.0.only.low q (omega (arith, l, c.requires.1))) (subst (λ (n : ℕ). Trail th c.args.p.foresight.0 c.args.ahead.goal.nesting.0 c.args.ahead.goal.base c.args.p c.args.work.now c.args.ahead.done n (meaning c.args.p.characters T 0)) up trail))).low c.completes_after-after.auto.work in
    best_noted b (omega (arith, c.requires.1)) c.remember_worth.ensures.0.only.low c.remember_worth.ensures.0.only.high (c.remember_worth.ensures.0.memory th c.args.p.foresight.0 (c.args.ahead.done * c.args.p.stride + c.args.p.stride) (omega (arith, c.requires.1)) z'.slotted b.memory (note z' c.goal_key-key.ensures (rw c.mark_of.ensures (fact_of_none th c.args.p.foresight.0 c.args.ahead.goal.nesting.0 c.args.ahead.goal.base (meaning c.args.p.characters T) (b.none zero).1))))

pub completes-returns-else-is_none : goal.completes-returns-else-is_none
completes-returns-else-is_none t c =
    let up : c.args.ahead.left ≡ suc (c.args.ahead.left - 1) = omega (arith, c.if-ahead-eq0.false) in
    λ th T y mem trail.
    best_from (λ q l. c.recall.ensures.0.only.low q (omega (arith, l, c.requires.1))) c.recall.ensures.0.only.high (best_same (sym up) (c.completes_after-after.ensures th T (slot_same (c.args.ahead.done * c.args.p.stride) y (λ q l. c.recall.ensures.0.only.low q (omega (arith, l, c.requires.1))) c.recall.auto.work) (c.recall.ensures.0.told th c.args.p.foresight.0 (c.args.ahead.done * c.args.p.stride + c.args.p.stride) (omega (arith, c.requires.1)) y.slotted mem).0 (trail_same th c.args.p.foresight.0 c.args.ahead.goal.nesting.0 c.args.ahead.goal.base (meaning c.args.p.characters T 0) (λ q l. c.recall.ensures.0.only.low q (omega (arith, l, c.requires.1))) (subst (λ (n : ℕ). Trail th c.args.p.foresight.0 c.args.ahead.goal.nesting.0 c.args.ahead.goal.base c.args.p c.args.work.now c.args.ahead.done n (meaning c.args.p.characters T 0)) up trail))))

pub completes_after-completes_by-after-requires : goal.completes_after-completes_by-after-requires
completes_after-completes_by-after-requires t c =
    let (th, (T, (y, mem, trail))) = c.requires.0 in
    let (long, same, low, high, rest) = c.loop-x.invariant in
    (omega (arith, c.decreases), ((th, (T, (slot_same (c.args.ahead.done * c.args.p.stride) y low long, (rest th T y mem trail).0, trail_same th c.args.p.foresight.0 c.args.ahead.goal.nesting.0 c.args.ahead.goal.base (meaning c.args.p.characters T 0) (λ q l. low q (omega (arith, l))) trail))), c.loop-x-test.true, omega (arith, c.requires.1), omega (arith, c.requires.2, ap length same), c.requires.3))

pub completes_after-returns-then-is_some : goal.completes_after-returns-then-is_some
completes_after-returns-then-is_some t c =
    let (long, same, low, high, rest) = c.loop-x.invariant in
    λ th T y mem trail.
    let s = meaning c.args.p.characters T 0 in
    let b = best_first th c.args.p.foresight.0 c.args.ahead.goal.nesting.0 c.args.ahead.goal.base s low high (rest th T y mem trail).1 (not_none (sym c.is_some.ensures ∙ c.if-is_some.true)).1 (c.completes_by-after.ensures th T (slot_same (c.args.ahead.done * c.args.p.stride) y low long) (rest th T y mem trail).0 (trail_same th c.args.p.foresight.0 c.args.ahead.goal.nesting.0 c.args.ahead.goal.base s (λ q l. low q (omega (arith, l))) trail)) in
    subst (λ (was : List ℕ). Best (Memory th c.args.p.foresight.0 c.args.p (c.args.ahead.done * c.args.p.stride + c.args.p.stride)) (Ends th c.args.p.foresight.0 c.args.ahead.goal.nesting.0 c.args.ahead.goal.base s) (suc c.args.ahead.left) was c.completes_by-after.new.list c.args.ahead.done (c.args.ahead.done * c.args.p.stride + c.args.p.stride) c.args.work.now c.completes_by-after.new.work c.completes_by-after.result) same b

pub completes_after-loop-x-preserved-then-not-promising : goal.completes_after-loop-x-preserved-then-not-promising
completes_after-loop-x-preserved-then-not-promising t c =
    let (long, same, low, high, rest) = c.loop-x.invariant in
    let slot = c.args.ahead.done * c.args.p.stride in (
      long,
      same,
      low,
      high,
      λ th T y mem trail.
          let z = slot_same slot y low long in
          let is = still_in c.args.p slot c.args.work.now c.loop-x.work c.table_in-t.ensures (low slot (omega (arith, y.laid.some))) in (
            (rest th T y mem trail).0,
            below_more (λ x. (l : List ℕ) (w : ℕ) → length l ≡ suc c.args.ahead.left → ¬ EndsBy th c.args.p.foresight.0 c.args.ahead.goal.nesting.0 c.args.ahead.goal.base x (meaning c.args.p.characters T 0) l w) c.loop-x.x (rest th T y mem trail).1 (best_hopeless th c.args.p.foresight.0 c.args.ahead.goal.nesting.0 c.args.ahead.goal.base (meaning c.args.p.characters T 0) c.loop-x.x (tried_not slot 0 z (omega (arith, c.requires.1)) is c.loop-x-test.true (c.promising.ensures c.if-not-promising.true))),
          ),
    )

pub completes_after-loop-x-preserved : goal.completes_after-loop-x-preserved
completes_after-loop-x-preserved t c =
    let (long, same, low, high, rest) = c.loop-x.invariant in
    let none : c.completes_by-after.result ≡ None = is_none (sym c.is_some.ensures ∙ c.if-is_some.false) in
    let (th, (T, (y, mem, trail))) = c.requires.0 in
    let b = c.completes_by-after.ensures th T (slot_same (c.args.ahead.done * c.args.p.stride) y low long) (rest th T y mem trail).0 (trail_same th c.args.p.foresight.0 c.args.ahead.goal.nesting.0 c.args.ahead.goal.base (meaning c.args.p.characters T 0) (λ q l. low q (omega (arith, l))) trail) in (
      c.completes_by-after.auto.work ∙ long,
      (b.none none).0 ∙ same,
      λ q l. b.low q l ∙ low q l,
      λ q l. b.high q l ∙ high q l,
      λ th T y mem trail.
          let b = c.completes_by-after.ensures th T (slot_same (c.args.ahead.done * c.args.p.stride) y low long) (rest th T y mem trail).0 (trail_same th c.args.p.foresight.0 c.args.ahead.goal.nesting.0 c.args.ahead.goal.base (meaning c.args.p.characters T 0) (λ q l. low q (omega (arith, l))) trail) in (
            b.memory,
            below_more (λ x. (l : List ℕ) (w : ℕ) → length l ≡ suc c.args.ahead.left → ¬ EndsBy th c.args.p.foresight.0 c.args.ahead.goal.nesting.0 c.args.ahead.goal.base x (meaning c.args.p.characters T 0) l w) c.loop-x.x (rest th T y mem trail).1 (b.none none).1,
          ),
    )

pub completes_after-returns : goal.completes_after-returns
completes_after-returns t c =
    let (long, same, low, high, rest) = c.loop-x.invariant in
    λ th T y mem trail.
    let s = meaning c.args.p.characters T 0 in
    subst (λ (now : List ℕ). Best (Memory th c.args.p.foresight.0 c.args.p (c.args.ahead.done * c.args.p.stride + c.args.p.stride)) (Ends th c.args.p.foresight.0 c.args.ahead.goal.nesting.0 c.args.ahead.goal.base s) (suc c.args.ahead.left) c.args.list.now now c.args.ahead.done (c.args.ahead.done * c.args.p.stride + c.args.p.stride) c.args.work.now c.loop-x.work None) (sym same)
    (best_none c.args.list.now low high (rest th T y mem trail).0 (best_no th c.args.p.foresight.0 c.args.ahead.goal.nesting.0 c.args.ahead.goal.base s (λ x g. (rest th T y mem trail).1 x (omega (arith, g, y.theorized.found.actions, c.loop-x-test.false)))))

pub completes_by-returns-then-not-allowed : goal.completes_by-returns-then-not-allowed
completes_by-returns-then-not-allowed t c =
    λ th T y mem trail.
    let told = c.allowed.ensures th T y mem in
    best_none _ told.low told.high told.memory (λ l v q g. told.complete c.if-not-allowed.true (agreed_to y c.args.p.foresight.0 c.args.ahead.goal.nesting.0 c.args.x c.requires.1 (meaning c.args.p.characters T 0) g.2.2))

pub completes_by-returns-then-not-known_step : goal.completes_by-returns-then-not-known_step
completes_by-returns-then-not-known_step t c =
    λ th T y mem trail.
    let told = c.allowed.ensures th T y mem in
    let played = c.known_step.ensures.0 th T (slot_same (c.args.ahead.done * c.args.p.stride) y told.low c.allowed.auto.work) told.memory in
    best_none _ (λ q l. played.low q l ∙ told.low q l) (λ q l. played.high q l ∙ told.high q l) played.memory (λ l v q g. played.none c.if-not-known_step.true g.2.0 g.2.1)

pub completes_by-returns : goal.completes_by-returns
completes_by-returns t c =
    λ th T y mem trail.
    let told = c.allowed.ensures th T y mem in
    let z' = slot_same (c.args.ahead.done * c.args.p.stride) y told.low c.allowed.auto.work in
    let f : Free c.args.p (c.args.ahead.done * c.args.p.stride + c.args.p.stride) 1 = omega (arith, c.requires.2) in
    let played = c.known_step.ensures.0 th T z' told.memory in
    let zero : c.known_step.result ≡ true = c.if-not-known_step.false in
    let plays = next_plays z' 0 played f c.known_step.auto.work zero in
    let agreed = agreed_from y c.args.p.foresight.0 c.args.ahead.goal.nesting.0 c.args.x c.requires.1 (meaning c.args.p.characters T 0) (told.sound c.if-not-allowed.false) in
    let next = trail_step (c.args.ahead.done * c.args.p.stride) y c.args.p.foresight.0 c.args.ahead.goal.nesting.0 c.args.ahead.goal.base trail refl c.known_step.new.work (λ q l. played.low q l ∙ told.low q l) (c.known_step.auto.work ∙ c.allowed.auto.work) (next_written z' 0 played f c.known_step.auto.work zero) (stage_extent (c.args.ahead.done * c.args.p.stride + c.args.p.stride) (next_stage z' 0 played f c.known_step.auto.work zero)) plays agreed in
    let here = on_path c.args.ahead.done (next_stage z' 0 played f c.known_step.auto.work zero) (played.further zero) in
    best_by th c.args.p.foresight.0 c.args.ahead.goal.nesting.0 c.args.ahead.goal.base (meaning c.args.p.characters T 0) c.args.x plays agreed (omega arith) (memory_fewer c.args.p (omega arith)) (λ q l. played.low q l ∙ told.low q l) (λ q l. played.high q l ∙ told.high q l) (c.completes.ensures th (next_table z' 0 played f c.known_step.auto.work zero) here.0 here.1 next) c.in_ok-after.was
    (get_or-set_same {A = ℕ} c.completes.new.list c.args.ahead.done c.args.x 0 (omega (arith, c.requires.3, c.completes.auto.list))) (λ q n. get_or-set_other {A = ℕ} c.completes.new.list c.args.ahead.done q c.args.x 0 n)

pub completes_by-returns-in_err-after : goal.completes_by-returns-in_err-after
completes_by-returns-in_err-after t c =
    λ th T y mem trail.
    let told = c.allowed.ensures th T y mem in
    let z' = slot_same (c.args.ahead.done * c.args.p.stride) y told.low c.allowed.auto.work in
    let f : Free c.args.p (c.args.ahead.done * c.args.p.stride + c.args.p.stride) 1 = omega (arith, c.requires.2) in
    let played = c.known_step.ensures.0 th T z' told.memory in
    let zero : c.known_step.result ≡ true = c.if-not-known_step.false in
    let plays = next_plays z' 0 played f c.known_step.auto.work zero in
    let agreed = agreed_from y c.args.p.foresight.0 c.args.ahead.goal.nesting.0 c.args.x c.requires.1 (meaning c.args.p.characters T 0) (told.sound c.if-not-allowed.false) in
    let next = trail_step (c.args.ahead.done * c.args.p.stride) y c.args.p.foresight.0 c.args.ahead.goal.nesting.0 c.args.ahead.goal.base trail refl c.known_step.new.work (λ q l. played.low q l ∙ told.low q l) (c.known_step.auto.work ∙ c.allowed.auto.work) (next_written z' 0 played f c.known_step.auto.work zero) (stage_extent (c.args.ahead.done * c.args.p.stride + c.args.p.stride) (next_stage z' 0 played f c.known_step.auto.work zero)) plays agreed in
    let here = on_path c.args.ahead.done (next_stage z' 0 played f c.known_step.auto.work zero) (played.further zero) in
    best_is c.from_residual.ensures (best_by_none th c.args.p.foresight.0 c.args.ahead.goal.nesting.0 c.args.ahead.goal.base (meaning c.args.p.characters T 0) c.args.x plays agreed (omega arith) (memory_fewer c.args.p (omega arith)) (λ q l. played.low q l ∙ told.low q l) (λ q l. played.high q l ∙ told.high q l) (c.completes.ensures th (next_table z' 0 played f c.known_step.auto.work zero) here.0 here.1 next) c.in_err-after.was)

pub completes-completes_after-after-requires : goal.completes-completes_after-after-requires
completes-completes_after-after-requires t c =
    let (th, (T, (y, mem, trail))) = c.requires.0 in
    let up : c.args.ahead.left ≡ suc (c.args.ahead.left - 1) = omega (arith, c.if-ahead-eq0.false) in
    (omega (arith, c.decreases, c.if-ahead-eq0.false), ((th, (T, ((slot_same (c.args.ahead.done * c.args.p.stride) y (λ q l. c.recall.ensures.0.only.low q (omega (arith, l, c.requires.1))) c.recall.auto.work), (c.recall.ensures.0.told th c.args.p.foresight.0 (c.args.ahead.done * c.args.p.stride + c.args.p.stride) (omega (arith, c.requires.1)) y.slotted mem).0, (trail_same th c.args.p.foresight.0 c.args.ahead.goal.nesting.0 c.args.ahead.goal.base (meaning c.args.p.characters T 0) (λ q l. c.recall.ensures.0.only.low q (omega (arith, l, c.requires.1))) (subst (λ (n : ℕ). Trail th c.args.p.foresight.0 c.args.ahead.goal.nesting.0 c.args.ahead.goal.base c.args.p c.args.work.now c.args.ahead.done n (meaning c.args.p.characters T 0)) up trail))))), free_fewer c.args.p (c.args.ahead.done * c.args.p.stride) (1 + c.args.ahead.left + (1 + c.args.p.foresight.0) * c.args.ahead.goal.nesting.0) (2 + (c.args.ahead.left - 1) + (1 + c.args.p.foresight.0) * c.args.ahead.goal.nesting.0) (omega (arith, c.if-ahead-eq0.false)) c.requires.1, omega (arith, c.requires.2, c.if-ahead-eq0.false), c.requires.3))

pub completes-remember_worth-requires : goal.completes-remember_worth-requires
completes-remember_worth-requires t c =
    let (th, (T, (y, mem, trail))) = c.requires.0 in
    let up : c.args.ahead.left ≡ suc (c.args.ahead.left - 1) = omega (arith, c.if-ahead-eq0.false) in
    let b = c.completes_after-after.ensures th T (slot_same (c.args.ahead.done * c.args.p.stride) y (λ q l. c.recall.ensures.0.only.low q (omega (arith, l, c.requires.1))) c.recall.auto.work) (c.recall.ensures.0.told th c.args.p.foresight.0 (c.args.ahead.done * c.args.p.stride + c.args.p.stride) (omega (arith, c.requires.1)) y.slotted mem).0 (trail_same th c.args.p.foresight.0 c.args.ahead.goal.nesting.0 c.args.ahead.goal.base (meaning c.args.p.characters T 0) (λ q l. c.recall.ensures.0.only.low q (omega (arith, l, c.requires.1))) (subst (λ (n : ℕ). Trail th c.args.p.foresight.0 c.args.ahead.goal.nesting.0 c.args.ahead.goal.base c.args.p c.args.work.now c.args.ahead.done n (meaning c.args.p.characters T 0)) up trail)) in
    (stage_before (slot_same (c.args.ahead.done * c.args.p.stride) (slot_same {now = c.recall.new.work} (c.args.ahead.done * c.args.p.stride) y (λ q l. c.recall.ensures.0.only.low q (omega (arith, l, c.requires.1))) c.recall.auto.work) b.low c.completes_after-after.auto.work) (omega (arith, c.requires.1)), c.steps_made-since.ensures)

pub completes_after-promising-requires : goal.completes_after-promising-requires
completes_after-promising-requires t c =
    let (th, (T, (y, mem, trail))) = c.requires.0 in
    let (long, same, low, high, rest) = c.loop-x.invariant in
    let slot = c.args.ahead.done * c.args.p.stride in
    tried slot 0 (slot_same slot y low long) (omega (arith, c.requires.1)) (still_in c.args.p slot c.args.work.now c.loop-x.work c.table_in-t.ensures (low slot (omega (arith, y.laid.some)))) c.loop-x-test.true (omega arith)

pub completes_by-known_step-requires : goal.completes_by-known_step-requires
completes_by-known_step-requires t c =
    let (th, (T, (y, mem, trail))) = c.requires.0 in
    let told = c.allowed.ensures th T y mem in
    let z = slot_same (c.args.ahead.done * c.args.p.stride) y told.low c.allowed.auto.work in
    ((th, (T, (z, told.memory))), c.requires.1, z.tabled.some, omega (arith, c.requires.2))

pub completes_by-completes-requires : goal.completes_by-completes-requires
completes_by-completes-requires t c =
    let (th, (T, (y, mem, trail))) = c.requires.0 in
    let told = c.allowed.ensures th T y mem in
    let z' = slot_same (c.args.ahead.done * c.args.p.stride) y told.low c.allowed.auto.work in
    let f : Free c.args.p (c.args.ahead.done * c.args.p.stride + c.args.p.stride) 1 = omega (arith, c.requires.2) in
    let played = c.known_step.ensures.0 th T z' told.memory in
    let zero : c.known_step.result ≡ true = c.if-not-known_step.false in
    let plays = next_plays z' 0 played f c.known_step.auto.work zero in
    let agreed = agreed_from y c.args.p.foresight.0 c.args.ahead.goal.nesting.0 c.args.x c.requires.1 (meaning c.args.p.characters T 0) (told.sound c.if-not-allowed.false) in
    let next = trail_step (c.args.ahead.done * c.args.p.stride) y c.args.p.foresight.0 c.args.ahead.goal.nesting.0 c.args.ahead.goal.base trail refl c.known_step.new.work (λ q l. played.low q l ∙ told.low q l) (c.known_step.auto.work ∙ c.allowed.auto.work) (next_written z' 0 played f c.known_step.auto.work zero) (stage_extent (c.args.ahead.done * c.args.p.stride + c.args.p.stride) (next_stage z' 0 played f c.known_step.auto.work zero)) plays agreed in
    let here = on_path c.args.ahead.done (next_stage z' 0 played f c.known_step.auto.work zero) (played.further zero) in
    (omega (arith, c.decreases), ((th, (next_table z' 0 played f c.known_step.auto.work zero, (here.0, here.1, next))), free_next c.args.p c.args.ahead.done c.args.ahead.left ((1 + c.args.p.foresight.0) * c.args.ahead.goal.nesting.0) c.requires.2, omega (arith, c.requires.3), c.requires.4))

pub completes-within_reach-requires : goal.completes-within_reach-requires
completes-within_reach-requires t c =
    let (th, (T, (y, mem, trail))) = c.requires.0 in
    let wanted = 1 + c.args.ahead.left + (1 + c.args.p.foresight.0) * c.args.ahead.goal.nesting.0 in
    let few = free_few c.args.p (c.args.ahead.done * c.args.p.stride) wanted y.laid c.requires.1 in
    (((th, (T, y)), free_fewer c.args.p (c.args.ahead.done * c.args.p.stride) wanted 1 (omega arith) c.requires.1, omega arith), omega (arith, few))
