-- Where nobody is told anything, the rows change in place and are merged; else it is a stage. Assumes nothing.
use Rattle.transition.proofs.SilentRounds.{row_telling, round_caused, round_slot, round_staged}
use Rattle.transition.proofs.round.round.Goals as goal

pub all_silent-requires : goal.all_silent-requires
all_silent-requires c =
    let ((s, x), p, e, y) = c.requires in
    (x.tabled.few, x.long, row_telling (round_caused x))

pub rewrite-requires : goal.rewrite-requires
rewrite-requires c =
    let ((s, x), p, e, y) = c.requires in
    (s, round_caused x)

pub merge_slot-requires : goal.merge_slot-requires
merge_slot-requires c =
    let ((s, x), p, e, y) = c.requires in
    round_slot x p y (c.rewrite.ensures s (round_caused x)) c.rewrite.auto.work

pub returns : goal.returns
returns c =
    let (_, p, e, y) = c.requires in
    λ s x. round_staged x p y (c.rewrite.ensures s (round_caused x)) e
    (λ m h. c.all_silent.ensures (c.if-not-all_silent.false) m h s.dimensions x.tabled.over.small _ (x.effects_stand m h)) c.merge_slot.ensures
