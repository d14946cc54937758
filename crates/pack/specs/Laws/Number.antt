-- Laws of numbers that were read. Assumes nothing.
use Rattle.std.specs.Prelude.{ℕ, ◌<◌, ◌≤◌, ◌≡◌, List, ltb}
use Rattle.std.proofs.Common.{arith, ltb-true, ltb-false}
use Rattle.pack.specs.Reading.{done, refused, pick}
use Rattle.pack.specs.Number.{number_at, between}
use Rattle.pack.specs.Laws.Reading.{both, passed, failed, same_value}

-- a number that is read between limits is within them
pub between_within : (low limit number : ℕ) (s : List ℕ) (at v n : ℕ) → between low limit number s at ≡ done v n
    → (low ≤ v) × (v < limit)
unfolding between
between_within low limit number s at v n e =
    let b = both (number_at s at)
    (λ v n. pick (ltb v low) (refused number at) (pick (ltb v limit) (done v n) (refused number at))) v n e in
    let (under, rest) = failed (ltb b.value low) number at
    (pick (ltb b.value limit) (done b.value b.place) (refused number at)) v n b.right in
    let (below, given) = passed (ltb b.value limit) number at (done b.value b.place) v n rest in
    let same = same_value given in
    (omega (arith, ltb-false b.value low under), omega (arith, ltb-true b.value limit below))
