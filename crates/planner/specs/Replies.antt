-- What Explained and Search reply to the bytes, numbers and buffers that they are lent.
use Rattle.std.specs.Prelude.{ℕ, Bool, ◌&&◌, List, [], ◌∷◌, length, ltb, leb}
use Rattle.pack.specs.Reading.{Reply, gives, refuses}
use Rattle.chart.specs.Call.{list_room, work_room, fits, call}
use Rattle.chart.specs.Replies.{first_of}
use Rattle.planner.specs.Search.{Answer, ending, none}
use Rattle.planner.specs.Answers.{explained_table, search_table}

-- "the story limit T (1 to 8 actions), the foresight limit K (1 to 6 actions) and the nesting limit E (0 to 3)"
abbrev pub story_limit : ℕ → Bool
story_limit T = leb 1 T && leb T 8

-- "the foresight limit K (1 to 6 actions)"
abbrev pub foresight_limit : ℕ → Bool
foresight_limit K = leb 1 K && leb K 6

-- "the nesting limit E (0 to 3)"
abbrev pub nesting_limit : ℕ → Bool
nesting_limit E = leb E 3

-- "9 | action, character, fluent or limit out of range"
unfoldable pub explained_reply : (pack chart : List ℕ) (character action foresight nesting : ℕ) (work : List ℕ)
    → Reply Bool
explained_reply pack chart character action foresight nesting work =
    call pack (chart ∷ []) (fits work_room work)
    (λ p. ltb character p.characters
    && (ltb action (length p.actions) && (foresight_limit foresight && nesting_limit nesting))) (λ p tables.
    gives (explained_table p.theory foresight nesting character action (first_of tables)))

-- a list, and the author's utility at the start and at its end
pub record Plan : Type 0 where
  pub list : List ℕ
  pub before : ℕ
  pub after : ℕ

-- "13 | no ending"
abbrev pub answer_reply : Answer → Reply Plan
answer_reply (ending list before after) = gives (record { list = list; before = before; after = after })
answer_reply none = refuses 13 0

-- "The start is the state that node 0 of the pack means"
unfoldable pub search_reply : (pack : List ℕ) (story foresight nesting : ℕ) (list work : List ℕ) → Reply Plan
search_reply pack story foresight nesting list work =
    call pack [] (fits list_room list && fits work_room work)
    (λ p. story_limit story && (foresight_limit foresight && nesting_limit nesting)) (λ p tables.
    answer_reply (search_table p.theory story foresight nesting p.nodes))
