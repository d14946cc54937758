-- What is left, from n on, tells what the whole tells. Assumes nothing.
use Rattle.std.proofs.Common.{ℕ, ◌≡◌, List, Result, ◌-◌}
use Rattle.pack.specs.Reading.{Reader, many, mapped}
use Rattle.pack.specs.Duties.Said.{shown, forget}
use Rattle.pack.specs.declared.refusal.Flaw.{Flaw}
use Rattle.pack.proofs.part.check_many.Given as goal

abbrev pub invariant-loop : goal.invariant-loop
invariant-loop g l =
    (part : Reader (Unit {0})) (s : List ℕ) → ((n : ℕ) (r : Result ℕ Flaw) → goal.F-post g l.check n r → part s n ≡ shown r)
    → mapped forget (many part l.count s l.at) ≡ mapped forget (many part (l.count - l.counter) s l.n)
