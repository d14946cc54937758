-- How the memory marks what is known, in a byte. Assumes nothing.
use Rattle.std.specs.Prelude.{ℕ, ◌≡◌, ◌≢◌, Option, MatchOption}
use Rattle.pack.specs.Reading.{pick}
use Rattle.planner.specs.declared.known.Known.{Known}
use Rattle.planner.specs.declared.known.Known.TheVariants as known

-- the mark of what is known, as `Fact` reads it
abbrev pub mark_of : Known → ℕ
mark_of (known.Reached found) = pick found 2 1
mark_of known.NoEnding = 3
mark_of (known.Explained verdict) = pick verdict 5 4

-- r is what a mark says, or none where it is the mark of nothing
abbrev pub Marks : (mark : ℕ) → Option Known → Type 0
Marks mark r = MatchOption r ((k : Known) → mark_of k ≢ mark) (λ k. mark_of k ≡ mark)
