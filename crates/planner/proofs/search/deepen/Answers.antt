-- Length after length, the shortest first. Assumes nothing.
use Prim.Native.Nat.{ℕ, ◌+◌, ◌*◌, ◌<◌}
use mathlib.Core.Path.{◌≡◌, refl, sym, ap, ◌∙◌, subst}
use mathlib.Core.List.{List}
use native.Mathlib.Omega.{arith}
use Rattle.std.specs.Prelude.{Some, None}
use lib.ListN.{length}
use Rattle.pack.specs.State.{meaning}
use Rattle.planner.specs.Inner.Lists.{Ends}
use Rattle.planner.specs.Inner.Search.{Shortest}
use Rattle.planner.specs.Inner.Bound.{no_end}
use Rattle.planner.proofs.Explanations.{free_fewer, slot_same}
use Rattle.planner.proofs.Reckoning.{ends_beyond}
use Rattle.planner.proofs.Bounds.{author-exceeds}
use Rattle.planner.proofs.EarliestList.{trail_outset, at_outset, best_outset, free_outset}
use Rattle.planner.proofs.SearchCall.{shorter, shortest_found, shortest_none}
use Rattle.planner.proofs.search.deepen.Goals as goal

-- none of the author's rules is above
pub returns-then-not-can_exceed : goal.returns-then-not-can_exceed
returns-then-not-can_exceed c =
    λ th T y mem wr le.
    let low = sym (author-exceeds y c.args.g.base c.can_exceed.ensures) ∙ c.if-not-can_exceed.true in
    let more : c.args.most < c.args.most + 1 = omega arith in
    shortest_none (λ q l. refl) (λ q l. refl) more refl (λ l v some few. no_end th c.args.p.foresight.0 c.args.g.nesting.0 c.args.g.base (meaning c.args.p.characters T 0) l v low)

pub returns-in-Some : goal.returns-in-Some
returns-in-Some c =
    let (some, long, same, low, high, rest) = c.loop-n.invariant in
    λ th T y mem wr le.
    let here = at_outset (slot_same 0 y low long) (rest th T y mem wr le).0 in
    subst (λ (was : List ℕ). Shortest c.args.p (Ends th c.args.p.foresight.0 c.args.g.nesting.0 c.args.g.base (meaning c.args.p.characters T 0)) c.args.most was c.completes.new.list c.args.work.now c.completes.new.work (Some (record { count = c.loop-n.n; after = c.in-Some.after }))) same
    (shortest_found low high some (omega (arith, c.loop-n-test.true)) (rest th T y mem wr le).1 c.in-Some.is (best_outset (c.completes.ensures th T here.0 here.1 (trail_outset c.args.p.foresight.0 c.args.g.nesting.0 c.args.g.base y low long wr le (rest th T y mem wr le).1))))

pub loop-n-preserved : goal.loop-n-preserved
loop-n-preserved c =
    let (some, long, same, low, high, rest) = c.loop-n.invariant in
    let (th, (T, (y, mem, wr, le))) = c.requires.0 in
    let zero : c.completes.result ≡ None = c.in_default.is in
    let here = at_outset (slot_same 0 y low long) (rest th T y mem wr le).0 in
    let b = best_outset (c.completes.ensures th T here.0 here.1 (trail_outset c.args.p.foresight.0 c.args.g.nesting.0 c.args.g.base y low long wr le (rest th T y mem wr le).1)) in (
      omega arith,
      c.completes.auto.work ∙ long,
      (b.none zero).0 ∙ same,
      λ q l. b.low q l ∙ low q l,
      λ q l. b.high q l ∙ high q l,
      λ th T y mem wr le. let here = at_outset (slot_same 0 y low long) (rest th T y mem wr le).0 in let b = best_outset (c.completes.ensures th T here.0 here.1 (trail_outset c.args.p.foresight.0 c.args.g.nesting.0 c.args.g.base y low long wr le (rest th T y mem wr le).1)) in (b.memory, shorter (rest th T y mem wr le).1 (b.none zero).1),
    )

pub returns-in_default : goal.returns-in_default
returns-in_default c =
    let (some, long, same, low, high, rest) = c.loop-n.invariant in
    λ th T y mem wr le.
    let here = at_outset (slot_same 0 y low long) (rest th T y mem wr le).0 in
    let b = best_outset (c.completes.ensures th T here.0 here.1 (trail_outset c.args.p.foresight.0 c.args.g.nesting.0 c.args.g.base y low long wr le (rest th T y mem wr le).1)) in
    let last : c.args.most < c.loop-n.n + 1 = omega arith in
    shortest_none (λ q l. b.low q l ∙ low q l) (λ q l. b.high q l ∙ high q l) last ((b.none c.in_default.is).0 ∙ same) (shorter (rest th T y mem wr le).1 (b.none c.in_default.is).1)

-- shorter lists are out of reach
pub loop-n-init : goal.loop-n-init
loop-n-init c =
    let (some, beyond) = c.first_length-first.ensures in (
      some,
      refl,
      refl,
      λ q l. refl,
      λ q l. refl,
      λ th T y mem wr le. (mem, λ l v long k. ends_beyond th c.args.p.foresight.0 c.args.g.nesting.0 c.args.g.base (length l) (meaning c.args.p.characters T 0) (beyond (length l) long k th T y) l v refl),
    )

pub completes-requires : goal.completes-requires
completes-requires c =
    let (th, (T, (y, mem, wr, le))) = c.requires.0 in
    let (some, long, same, low, high, rest) = c.loop-n.invariant in
    let here = at_outset (slot_same 0 y low long) (rest th T y mem wr le).0 in
    let count = 1 + c.loop-n.n + (1 + c.args.p.foresight.0) * c.args.g.nesting.0 in
    ((th, (T, (here.0, here.1, trail_outset c.args.p.foresight.0 c.args.g.nesting.0 c.args.g.base y low long wr le (rest th T y mem wr le).1))), free_outset c.args.p count (free_fewer c.args.p 0 (1 + c.args.most + (1 + c.args.p.foresight.0) * c.args.g.nesting.0) count (omega (arith, c.loop-n-test.true)) c.requires.3), omega (arith, c.loop-n-test.true, c.requires.1, c.requires.2, ap length same), c.requires.4)

pub returns-else-not-can_exceed : goal.returns-else-not-can_exceed
returns-else-not-can_exceed c =
    let (some, long, same, low, high, rest) = c.loop-n.invariant in
    λ th T y mem wr le. shortest_none low high (omega (arith, c.loop-n-test.false)) same (rest th T y mem wr le).1
