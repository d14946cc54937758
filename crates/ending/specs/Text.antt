-- What the program prints. Document 01: "prints each step's place in the list (from 1) and action, then `author`, the
-- worth before and after; or the one line `refused`, number, `at`, place. Fields are one space apart, and each line
-- ends with a line feed." Text is a list of ASCII codes.
use Rattle.std.specs.Prelude.{ℕ, zero, suc, ◌+◌, ◌/◌, ◌%◌, List, [], ◌∷◌, ◌++◌, ltb}
use Rattle.pack.specs.Reading.{Reply, gives, refuses, with, pick}
use Rattle.pack.specs.Grammar.{pack_of}
use Rattle.planner.specs.Answers.{search_table}
use Rattle.planner.specs.Replies.{Plan, answer_reply}

-- a number's decimal digits, the last `most` of them where it has more, with no zero in front
unfoldable pub digits : (most n : ℕ) → List ℕ
digits zero n = []
digits (suc most) n = pick (ltb n 10) [] (digits most (n / 10)) ++ ((48 + n % 10) ∷ [])

-- a number in decimal: those of 64 bits have at most 20 digits (`Laws.Decimal` reads them back)
abbrev pub decimal : ℕ → List ℕ
decimal n = digits 20 n

-- "Fields are one space apart, and each line ends with a line feed"
unfoldable pub line : (field : List ℕ) (more : List (List ℕ)) → List ℕ
line field [] = field ++ (10 ∷ [])
line field (next ∷ more) = field ++ (32 ∷ line next more)

-- "each step's place in the list (from 1) and action", from a place on
unfoldable pub steps : (place : ℕ) (list : List ℕ) → List ℕ
steps place [] = []
steps place (action ∷ list) = line (decimal place) (decimal action ∷ []) ++ steps (suc place) list

-- `author`, `refused` and `at`
abbrev pub author : List ℕ
author = 97 ∷ 117 ∷ 116 ∷ 104 ∷ 111 ∷ 114 ∷ []

abbrev pub refused : List ℕ
refused = 114 ∷ 101 ∷ 102 ∷ 117 ∷ 115 ∷ 101 ∷ 100 ∷ []

abbrev pub at : List ℕ
at = 97 ∷ 116 ∷ []

-- "then `author`, the worth before and after"
abbrev pub worths : (before after : ℕ) → List ℕ
worths before after = line author (decimal before ∷ decimal after ∷ [])

-- "or the one line `refused`, number, `at`, place"
abbrev pub refusal : (number place : ℕ) → List ℕ
refusal number place = line refused (decimal number ∷ at ∷ decimal place ∷ [])

-- what is printed for a reply of Search
abbrev pub printed : Reply Plan → List ℕ
printed (gives plan) = steps 1 plan.list ++ worths plan.before plan.after
printed (refuses number place) = refusal number place

-- "reads a pack .., takes T 4, K 3, E 2": what Search replies to a pack where enough is lent (`Laws.Lent`)
unfoldable pub ending_reply : (pack : List ℕ) → Reply Plan
ending_reply pack = with (pack_of pack) (λ p. answer_reply (search_table p.theory 4 3 2 p.nodes))
