-- What the code's answers say, as readings.
use Rattle.std.specs.Prelude.{ℕ, Result, Ok, Err}
use Rattle.pack.specs.Reading.{Reading, done, refused}
use Rattle.pack.specs.Refusals.{number_of}
use Rattle.pack.specs.declared.refusal.Flaw.{Flaw}

-- a value and the place after it, or a refusal
abbrev pub said : {A : Type 0} → Result (A × ℕ) Flaw → Reading A
said (Ok (a, n)) = done a n
said (Err flaw) = refused (number_of flaw.fault) flaw.at

-- an answer, with the place where the reader then is
abbrev pub placed : {A : Type 0} → Result A Flaw → ℕ → Result (A × ℕ) Flaw
placed (Ok a) n = Ok (a, n)
placed (Err flaw) n = Err flaw

-- of a part that passed, the place where the reader then is
abbrev pub passed_to : Result (Unit {0}) Flaw → ℕ → Result ℕ Flaw
passed_to (Ok u) n = Ok n
passed_to (Err flaw) n = Err flaw

-- the place after a part, or a refusal
abbrev pub shown : Result ℕ Flaw → Reading (Unit {0})
shown (Ok n) = done tt n
shown (Err flaw) = refused (number_of flaw.fault) flaw.at

-- a check says nothing of what it read
abbrev pub forget : {A : Type 0} → A → Unit {0}
forget a = tt
