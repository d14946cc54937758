-- A row of the table that it is believed in, or the next slot. Assumes nothing.
use mathlib.Core.Path.{sym, ap, ◌∙◌, subst}
use Prim.Native.Nat.{ℕ, ◌+◌}
use native.Mathlib.Omega.{arith}
use lib.ListN.{get_or}
use Rattle.pack.specs.State.{State}
use Rattle.planner.specs.Inner.Explain.{BeliefAt}
use Rattle.planner.proofs.Beliefs.{belief_here}
use Rattle.planner.proofs.Explanations.{stage_believed}
use Rattle.planner.proofs.belief.place_belief.Goals as goal

pub returns-then-has_overflowed : goal.returns-then-has_overflowed
returns-then-has_overflowed c =
    λ pack places th T x m.
    let row = stage_believed x 0 c.args.c x.tabled.some c.requires.1 (ap (λ (q : ℕ). get_or c.args.work.now q 0) (omega arith) ∙ sym c.from-row.ensures) in
    subst (λ (b : State). BeliefAt th c.args.p.foresight.0 c.args.p pack places b c.args.work.now c.lay_belief.new.work c.args.slot (c.args.slot + c.args.p.stride) 0) (sym row.0) (c.lay_belief.ensures pack places th T x m)

pub lay_belief-requires : goal.lay_belief-requires
lay_belief-requires c =
    let (pack, (places, (th, (T, (x, m))))) = c.requires.0 in
    let row = stage_believed x 0 c.args.c x.tabled.some c.requires.1 (ap (λ (q : ℕ). get_or c.args.work.now q 0) (omega arith) ∙ sym c.from-row.ensures) in
    (c.requires.0, row.1, c.requires.2)

pub returns : goal.returns
returns c =
    λ pack places th T x m.
    let row = stage_believed x 0 c.args.c x.tabled.some c.requires.1 (ap (λ (q : ℕ). get_or c.args.work.now q 0) (omega arith) ∙ sym c.from-row.ensures) in
    belief_here c.args.slot x c.requires.2 row.1 (sym row.0) m
