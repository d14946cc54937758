-- The sizes that are stored and those that are left are what the whole reads. Assumes nothing.
use Rattle.std.proofs.Common.{◌≡◌, ◌++◌, ◌-◌, length, take}
use Rattle.pack.specs.Reading.{mapped, many}
use Rattle.pack.specs.Number.{between}
use Rattle.pack.proofs.head.read_domains.Given as goal

abbrev pub invariant-loop-i : goal.invariant-loop-i
invariant-loop-i l =
    (many (between 1 129 3) l.fluents l.s l.at ≡ mapped (λ rest. take l.i l.sizes ++ rest) (many (between 1 129 3) (l.fluents - l.i) l.s l.n)) × (length l.sizes ≡ 24)
