-- Whose utility is asked about. Assumes nothing.
use Rattle.std.specs.Prelude.{ℕ, ◌+◌}
use Rattle.planner.specs.declared.who.Who.{Who}
use Rattle.planner.specs.declared.who.Who.TheVariants as who

-- which of a pack's utilities it is: the author's is the first, then each character's
abbrev pub rules_of : Who → ℕ
rules_of who.Author = 0
rules_of (who.Character c) = c + 1

-- its number in a key, 7 for the author, which no character is
abbrev pub key_of : Who → ℕ
key_of who.Author = 7
key_of (who.Character c) = c
