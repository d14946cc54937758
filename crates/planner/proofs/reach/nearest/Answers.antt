-- Every list within reach passes a state within the ranges of the level. Assumes nothing.
use Prim.Native.Nat.{ℕ, suc, ◌+◌}
use mathlib.Core.Path.{◌≡◌, ◌∙◌, subst}
use Rattle.pack.specs.Grammar.{rules_at}
use Rattle.pack.specs.Duties.Judge.{Tells}
use Rattle.planner.specs.Inner.Who.{rules_of}
use native.Mathlib.Omega.{arith}
use lib.ListN.{get_or}
use borrow.Author.Count.{below_more}
use Rattle.planner.specs.Inner.Range.{could_exceed, could_pass, idle, all_wider}
use Rattle.planner.specs.Inner.Levels.{OutOfReach}
use Rattle.planner.proofs.Reckoning.{bounded_start, bounded_more, bounded_end}
use Rattle.planner.proofs.reach.nearest.Goals as goal

pub returns-else-could_exceed-2 : goal.returns-else-could_exceed-2
returns-else-could_exceed-2 c =
    let here : OutOfReach c.args.pack.now c.args.places.now c.args.p c.args.work.now c.args.slot (rules_of c.args.h.whose) c.loop-i.i c.args.h.base = λ th T x. bounded_end x (omega arith) c.requires.0.2 (λ list u short played. (c.loop-i.invariant.2 th T x).1 0 list u (omega (arith, short)) played) (subst (λ (k : ℕ). Tells rules_at (could_exceed (could_pass c.loop-i.lows c.loop-i.highs) c.args.h.base) c.args.pack.now (get_or c.args.places.now (320 + k) 0) c.could_exceed-2.result) c.rules_of.ensures c.could_exceed-2.ensures) c.if-could_exceed-2.false in
    let last : c.loop-i.i ≡ c.args.h.left = omega (arith, c.loop-i-test.false) in
    record { within = omega arith; beyond = λ k l. below_more (λ (k : ℕ). OutOfReach c.args.pack.now c.args.places.now c.args.p c.args.work.now c.args.slot (rules_of c.args.h.whose) k c.args.h.base) c.loop-i.i c.loop-i.invariant.3 here k (omega (arith, l, last)) }

pub loop-i-preserved : goal.loop-i-preserved
loop-i-preserved c =
    let (long, tall, old, beyond) = c.loop-i.invariant in
    let here : OutOfReach c.args.pack.now c.args.places.now c.args.p c.args.work.now c.args.slot (rules_of c.args.h.whose) c.loop-i.i c.args.h.base = λ th T x. bounded_end x (omega arith) c.requires.0.2 (λ list u short played. (old th T x).1 0 list u (omega (arith, short)) played) (subst (λ (k : ℕ). Tells rules_at (could_exceed (could_pass c.loop-i.lows c.loop-i.highs) c.args.h.base) c.args.pack.now (get_or c.args.places.now (320 + k) 0) c.could_exceed.result) c.rules_of.ensures c.could_exceed.ensures) c.if-could_exceed.false in (
      c.widen_level.auto.lows ∙ long,
      c.widen_level.auto.highs ∙ tall,
      λ th T x. (
        λ j h. all_wider c.widen_level.ensures.wider (get_or th.triggers j idle).effects ((old th T x).0 j h),
        λ m list u short played. bounded_more x (old th T x).0 c.widen_level.ensures ((old th T x).1 (suc m)) list u (omega (arith, short)) played,
      ),
      below_more (λ (k : ℕ). OutOfReach c.args.pack.now c.args.places.now c.args.p c.args.work.now c.args.slot (rules_of c.args.h.whose) k c.args.h.base) c.loop-i.i beyond here,
    )

pub loop-i-init : goal.loop-i-init
loop-i-init c = (
  c.widen_by_triggers.auto.lows ∙ c.copy_bytes.auto.buffer,
  c.widen_by_triggers.auto.highs ∙ c.copy_bytes.auto.buffer,
  λ th T x. (c.widen_by_triggers.ensures.covers th c.args.p.actions x.theorized, λ m list u short played. bounded_start x {left = m} c.copy_bytes.ensures c.widen_by_triggers.ensures list u (omega (arith, short)) played),
  λ k l. absurd (omega (arith, l)),
)

pub returns-then-could_exceed-2 : goal.returns-then-could_exceed-2
returns-then-could_exceed-2 c =
    record { within = omega arith; beyond = λ k l. c.loop-i.invariant.3 k (omega (arith, l, c.loop-i-test.false)) }
