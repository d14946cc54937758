-- What the functions that make the text promise each other.
use Rattle.std.specs.Prelude.{ℕ, ◌+◌, ◌≤◌, ◌≡◌, List, ◌++◌, length, take, Result, Ok, Err}
use Rattle.std.proofs.lemmas.List.Edits.{sets}
use Rattle.pack.specs.Refusals.{refusal_number, place_of}
use Rattle.pack.specs.declared.refusal.Refusal.{Refusal}
use Rattle.planner.specs.declared.Ending.{Ending}
use Rattle.ending.specs.Text.{steps, worths, refusal, printed, ending_reply}

-- A piece was put into the text from a place on and ends at r; nothing else of the text changed.
pub record Put (piece text : List ℕ) (place : ℕ) (text' : List ℕ) (r : ℕ) : Type 0 where
  pub ends : r ≡ place + length piece
  pub written : text' ≡ sets text place piece

-- the text of what Search handed back, with the buffer that it wrote its list into
abbrev pub answer_text : Result Ending Refusal → (list : List ℕ) → List ℕ
answer_text (Ok e) list = steps 1 (take e.length list) ++ worths e.before e.after
answer_text (Err why) list = refusal (refusal_number why) (place_of why)

-- the list is in its buffer, and no longer than 8
abbrev pub Listed : Result Ending Refusal → (list : List ℕ) → Type 0
Listed (Ok e) list = (e.length ≤ length list) × (e.length ≤ 8)
Listed (Err why) list = Unit {0}

-- the text's first r bytes are what is printed of a pack
pub record Printed (pack text' : List ℕ) (r : ℕ) : Type 0 where
  pub within : r ≤ length text'
  pub shown : take r text' ≡ printed (ending_reply pack)
