-- The tests made on a slot tell what it stands for. Assumes nothing.
use mathlib.Core.Path.{◌≡◌, sym}
use mathlib.Core.Bool.{true≢false}
use Prim.Native.Nat.{◌/◌, ◌%◌, ◌<◌}
use native.Mathlib.Omega.{arith}
use Rattle.pack.specs.State.{target}
use Rattle.transition.specs.Laws.ChangedRows.{watched, belief_told, believed_row, believed_keeps, member_first, member_old, member_acted, member_edge, member_there}
use Rattle.transition.proofs.change.made_of.Goals as goal
use Rattle.transition.proofs.change.made_of.Goals.{Else-kind-h-2}

-- the slot of what a character believes is one of a row's, and that character is there
inside : (c : Else-kind-h-2) →
    (c.args.slot / 7 < c.args.h.table.nodes) × (c.args.slot % 7 < c.args.h.table.characters)
inside c =
    (omega (arith, c.requires.1, c.if-m-t.false), member_there _ _ _ _ c.if-m-t.false c.if-kind-h.false c.if-kind-h-2.false c.requires.2)

pub belief-row-requires : goal.belief-row-requires
belief-row-requires c = (c.requires.0.1.1.tabled.fits, (inside c).0, (inside c).1)

pub takes-took-requires : goal.takes-took-requires
takes-took-requires c =
    watched c.requires.0.1.1 _ _ (inside (goal.at.takes-took-requires c).Else-kind-h-2).0 (inside (goal.at.takes-took-requires c).Else-kind-h-2).1

pub returns-then-m-t : goal.returns-then-m-t
returns-then-m-t c =
    λ s effects x. record { inside = x.root; keeps = λ e. absurd (true≢false e); plain = λ e. member_first _ _ _ c.if-m-t.true; told = λ e. absurd (true≢false (sym e)) }

pub returns-then-kind-h : goal.returns-then-kind-h
returns-then-kind-h c =
    λ s effects x. record { inside = omega (arith, c.requires.1, c.if-m-t.false); keeps = λ e. omega (arith, c.if-kind-h.true); plain = λ e. member_old _ _ _ c.if-m-t.false c.if-kind-h.true; told = λ e. absurd (true≢false (sym e)) }

pub returns-then-kind-h-2 : goal.returns-then-kind-h-2
returns-then-kind-h-2 c =
    λ s effects x. record { inside = omega (arith, c.requires.1, c.if-m-t.false); keeps = λ e. absurd (true≢false e); plain = λ e. member_acted _ _ _ c.if-m-t.false c.if-kind-h.false c.if-kind-h-2.true; told = λ e. absurd (true≢false (sym e)) }

pub returns-else-kind-h-2 : goal.returns-else-kind-h-2
returns-else-kind-h-2 c =
    let here = inside (goal.at.returns-else-kind-h-2 c).Else-kind-h-2 in
    λ s effects x.
    let byte : c.belief-row.result ≡ target s.table (c.args.slot / 7) (c.args.slot % 7) = belief_told x.tabled _ _ _ c.belief-row.ensures.0 in
    record {
      inside = c.belief-row.ensures.1;
      keeps = believed_keeps x _ _ 0 here.0 c.takes-took.ensures byte here.1;
      plain = λ e. absurd (true≢false e);
      told = λ e. (here.0, here.1, member_edge _ _ _ c.if-m-t.false c.if-kind-h.false c.if-kind-h-2.false, believed_row x _ _ 0 here.0 c.takes-took.ensures byte);
    }
