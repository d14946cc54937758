-- What Explained and Search promise of every call: the answer, and every lent buffer at its end, as equations with the
-- reply. A buffer's name with ' is what it holds at exit.
use Rattle.std.specs.Prelude.{ℕ, ◌≡◌, Bool, List, length, Result, Ok, Err}
use Rattle.pack.specs.Reading.{Reply, gives, refuses, told}
use Rattle.pack.specs.Refusals.{refusal_number, place_of}
use Rattle.pack.specs.Refusals.{replied}
use Rattle.pack.specs.declared.refusal.Refusal.{Refusal}
use Rattle.chart.specs.Call.{result_after, work_after}
use Rattle.planner.specs.declared.Ending as found
use Rattle.planner.specs.Replies.{explained_reply, search_reply, Plan}

-- what is said of a plan: "the length, .. and both worths"
pub record Summary : Type 0 where
  pub count : ℕ
  pub before : ℕ
  pub after : ℕ

-- of each plan
abbrev pub summary : Plan → Summary
summary p = record { count = length p.list; before = p.before; after = p.after }

-- Search: "the length, .. and both worths", or a refusal, 13 among them
abbrev pub search_said : Result found.Ending Refusal → Reply Summary
search_said (Ok e) = gives (record { count = e.length; before = e.before; after = e.after })
search_said (Err why) = refuses (refusal_number why) (place_of why)

-- Explained(pack, chart, character, action, K, e, work)
pub record Judgement (pack chart : List ℕ) (character action foresight nesting : ℕ) (work work' : List ℕ)
    (r : Result Bool Refusal) : Type 0 where
  pub answer : replied r ≡ explained_reply pack chart character action foresight nesting work
  pub scratch : work' ≡ work_after (explained_reply pack chart character action foresight nesting work) work

-- Search(pack, T, K, E, list out, work)
pub record Searching (pack : List ℕ) (story foresight nesting : ℕ) (list work list' work' : List ℕ)
    (r : Result found.Ending Refusal) : Type 0 where
  pub answer : search_said r ≡ told summary (search_reply pack story foresight nesting list work)
  pub result : list' ≡ result_after (told (λ p. p.list) (search_reply pack story foresight nesting list work)) list
  pub scratch : work' ≡ work_after (search_reply pack story foresight nesting list work) work
