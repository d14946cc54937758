-- The author's list search: what is put down, and what it means. Assumes nothing.
use Rattle.std.specs.Prelude.{ℕ, ◌+◌, ◌*◌, ◌-◌, ◌<◌, ◌≤◌, ◌≡◌, List, length, get_or, Option, Some, None, Result}
use Rattle.pack.specs.Syntax.{Node, Theory}
use Rattle.pack.specs.State.{State, meaning}
use Rattle.pack.specs.Reading.{told}
use Rattle.pack.specs.Duties.Table.{table_of, state_of, Below, Above}
use Rattle.chart.specs.Call.{list_room, work_room, cleared, result_after}
use Rattle.chart.specs.Chart.{Written, Starts}
use Rattle.chart.specs.Earliest.{Before}
use Rattle.chart.specs.Duties.Look.{NodesFrom}
use Rattle.transition.specs.Duties.Play.{Theorized}
use Rattle.pack.specs.declared.refusal.Refusal.{Refusal}
use Rattle.planner.specs.declared.Ending as found
use Rattle.planner.specs.declared.limits.Context.{Context}
use Rattle.planner.specs.declared.search.Ended.{Ended}
use Rattle.planner.specs.Search.{Answer, Searched}
use Rattle.planner.specs.Replies.{answer_reply}
use Rattle.planner.specs.Promises.{search_said, summary}
use Rattle.planner.specs.Inner.Lists.{slot_table, Ends}
use Rattle.planner.specs.Inner.Memory.{Laid, tables_at, Memory}
use Rattle.planner.specs.Inner.Explain.{Stage, Free}
use Rattle.planner.specs.Ending.{author_utility}

-- a list put down from `done` on
pub record Put (was now : List ℕ) (done : ℕ) (list : List ℕ) : Type 0 where
  pub put : (i : ℕ) → i < length list → get_or now (done + i) 0 ≡ get_or list i 0
  pub low : Below was now done
  pub high : Above was now (done + length list)

-- the earliest of the good lists of n actions
pub record Chosen (Good : List ℕ → ℕ → Type 0) (n : ℕ) (list : List ℕ) (r : ℕ) : Type 0 where
  pub long : length list ≡ n
  pub good : Good list r
  pub earliest : (other : List ℕ) (v : ℕ) → length other ≡ n → Good other v → ¬ Before other list

-- the earliest of the good lists of n actions is put down, and r is the utility at its end; or r is none, there is no
-- such list, and nothing is put down. Bytes of the work buffer before the free slots, and behind the memory, are as
-- they were, and of what is in the memory M holds
pub record Best (M : List ℕ → Type 0) (Good : List ℕ → ℕ → Type 0) (n : ℕ) (was now : List ℕ) (done : ℕ) (slot : ℕ)
    (work work' : List ℕ) (r : Option ℕ) : Type 0 where
  pub none : r ≡ None → (now ≡ was) × ((list : List ℕ) (v : ℕ) → length list ≡ n → ¬ Good list v)
  pub some : (v : ℕ) → r ≡ Some v → (list : List ℕ) × Chosen Good n list v × Put was now done list
  pub low : Below work work' slot
  pub high : Above work work' work_room
  pub memory : M work'

-- no list of fewer than n actions is good
abbrev pub Dry : (Good : List ℕ → ℕ → Type 0) (n : ℕ) → Type 0
Dry Good n = (list : List ℕ) (v : ℕ) → length list < n → ¬ Good list v

-- in the slots of the path, n before the last, stand written charts
abbrev pub OnPath : (h : Context) (work : List ℕ) (n : ℕ) → Type 0
OnPath h work n = (i : ℕ) → i ≤ n → Written h.characters (table_of (slot_table h work (i * h.stride)) work)

-- the author's path: n states in the slots before s; from each of them, and from s, no list of fewer actions than are
-- left to it is good; in each slot stands the written chart of its state, so that two are one exactly where no chain
-- tells them apart
pub record Trail (p : Theory) (foresight nesting base : ℕ) (h : Context) (work : List ℕ) (n left : ℕ)
    (s : State) : Type 0 where
  pub before : (i : ℕ) → i < n
      → Dry (Ends p foresight nesting base (state_of (slot_table h work (i * h.stride)) work 0)) (left + (n - i))
  pub here : Dry (Ends p foresight nesting base s) left
  pub written : OnPath h work n
  pub small : (i : ℕ) → i ≤ n → 1 + get_or work (i * h.stride) 0 * (h.fluents + h.characters) ≤ h.stride

-- a stage, a memory and a path
abbrev pub Underway : (nesting base : ℕ) (pack places : List ℕ) (h : Context) (work : List ℕ) (n left : ℕ)
    → Type 0
Underway e base pack places h work n left =
    (p : Theory) × ((T : List Node)
    × (Stage p T pack places h work (slot_table h work (n * h.stride)) (n * h.stride + h.stride)
    × Memory p h.foresight.0 h (n * h.stride + h.stride) work
    × Trail p h.foresight.0 e base h work n left (meaning h.characters T 0)))

-- asked of the last state of the path, behind n others, where what is known is true: r is the utility at the end of the
-- earliest good list of `left` actions, which is put down
abbrev pub Finds : (nesting base : ℕ) (pack places : List ℕ) (h : Context) (n left : ℕ)
    (was now work work' : List ℕ) (r : Option ℕ) (Good : Theory → State → List ℕ → ℕ → Type 0)
    → Type 0
Finds e base pack places h n left was now work work' r Good =
    (th : Theory) (T : List Node)
    → Stage th T pack places h work (slot_table h work (n * h.stride)) (n * h.stride + h.stride)
    → Memory th h.foresight.0 h (n * h.stride + h.stride) work
    → Trail th h.foresight.0 e base h work n left (meaning h.characters T 0)
    → Best (Memory th h.foresight.0 h (n * h.stride + h.stride)) (Good th (meaning h.characters T 0)) left
    was now n (n * h.stride + h.stride) work work' r

-- the author's utility in the state in a slot where it is above base
abbrev pub EndsHere : (base : ℕ) (pack places : List ℕ) (h : Context) (slot : ℕ) (work : List ℕ) (r : Option ℕ)
    → Type 0
EndsHere base pack places h slot work r =
    (th : Theory) (T : List Node) → Stage th T pack places h work (slot_table h work slot) (slot + h.stride)
    → (base < author_utility th (meaning h.characters T 0) → r ≡ Some (author_utility th (meaning h.characters T 0)))
    × (author_utility th (meaning h.characters T 0) ≤ base → r ≡ None)

-- a stage with a written chart and a memory, and the author's utility there is at most base
abbrev pub Outset : (base : ℕ) (pack places : List ℕ) (h : Context) (work : List ℕ) → Type 0
Outset base pack places h work =
    (p : Theory) × ((T : List Node)
    × (Stage p T pack places h work (slot_table h work 0) (0 + h.stride)
    × Memory p h.foresight.0 h (0 + h.stride) work
    × Written h.characters T × (author_utility p (meaning h.characters T 0) ≤ base)))

-- the state in a slot is one of those before it
abbrev pub Repeated : (h : Context) (work : List ℕ) (slot n : ℕ) → Type 0
Repeated h work slot n =
    (i : ℕ) × (i < n) × (state_of (slot_table h work (i * h.stride)) work 0 ≡ state_of (slot_table h work slot) work 0)

-- the shortest of the good lists of 1 to T actions, and of those the earliest, is put down; or r is none, there is no
-- such list, and nothing is put down
pub record Shortest (h : Context) (Good : List ℕ → ℕ → Type 0) (story : ℕ) (was now work work' : List ℕ)
    (r : Option Ended) : Type 0 where
  pub none : r ≡ None
      → (now ≡ was) × ((list : List ℕ) (v : ℕ) → 0 < length list → length list ≤ story → ¬ Good list v)
  pub some : (e : Ended) → r ≡ Some e → (list : List ℕ) × Chosen Good e.count list e.after × Put was now 0 list
  pub within : (e : Ended) → r ≡ Some e → (0 < e.count) × (e.count ≤ story)
  pub shortest : (e : Ended) → r ≡ Some e
      → (other : List ℕ) (v : ℕ) → 0 < length other → length other < e.count → ¬ Good other v
  pub low : Below work work' (0 + h.stride)
  pub high : Above work work' work_room

-- of the state in the first slot
abbrev pub ShortestFrom : (story nesting base : ℕ) (pack places : List ℕ) (h : Context)
    (was now work work' : List ℕ) (r : Option Ended)
    → Type 0
ShortestFrom T e base pack places h was now work work' r =
    (th : Theory) (table : List Node) → Stage th table pack places h work (slot_table h work 0) (0 + h.stride)
    → Memory th h.foresight.0 h (0 + h.stride) work → Written h.characters table
    → author_utility th (meaning h.characters table 0) ≤ base
    → Shortest h (Ends th h.foresight.0 e base (meaning h.characters table 0)) T was now work work' r

-- the nodes that are read from a place on, and room for them in the first slot
pub record Laying (T : List Node) (pack : List ℕ) (first nodes : ℕ) (h : Context) (work : List ℕ) : Type 0 where
  pub end : ℕ
  pub read : NodesFrom pack first end nodes h.fluents h.characters T
  pub laid : Laid h
  pub slot : h.stride ≤ h.memory
  pub room : work_room ≤ length work

abbrev pub Layable : (pack : List ℕ) (first nodes : ℕ) (h : Context) (work : List ℕ) → Type 0
Layable pack first nodes h work = (T : List Node) × Laying T pack first nodes h work

-- in the first slot stands the written chart of what node 0 means, and nothing is known yet
pub record LaidStart (T : List Node) (h : Context) (was now : List ℕ) : Type 0 where
  pub few : get_or now 0 0 ≤ 32
  pub starts : Starts h.characters (meaning h.characters T 0) (table_of (slot_table h now 0) now)
  pub empty : (q : ℕ) → h.memory ≤ q → q < tables_at h → get_or now q 0 ≡ 0
  pub high : Above was now work_room

-- what the search from a pack's nodes is lent: a theory, found in the pack, its nodes, and room, with a slot for each
-- state of the author's list and of each explanation within it
pub record Seeking (th : Theory) (T : List Node) (pack places : List ℕ) (h : Context)
    (first nodes story foresight nesting : ℕ) (list work : List ℕ) : Type 0 where
  pub theorized : Theorized th pack places h.actions h.triggers
  pub end : ℕ
  pub read : NodesFrom pack first end nodes h.fluents h.characters T
  pub same_characters : th.characters ≡ h.characters
  pub same_fluents : length th.domains ≡ h.fluents
  pub storied : story ≤ 8
  pub foreseen : (0 < foresight) × (foresight ≤ 6)
  pub laid : Laid h
  pub slots : Free h 0 (1 + story + (1 + foresight) * nesting)
  pub has_list_room : list_room ≤ length list
  pub room : work_room ≤ length work

abbrev pub Seekable : (pack places : List ℕ) (h : Context) (first nodes story foresight nesting : ℕ)
    (list work : List ℕ)
    → Type 0
Seekable pack places h first nodes story foresight nesting list work =
    (th : Theory) × ((T : List Node) × Seeking th T pack places h first nodes story foresight nesting list work)

-- the answer that is true of the state is given, its list put down, and the work buffer cleared
pub record SearchPut (th : Theory) (story foresight nesting : ℕ) (s : State) (list list' work work' : List ℕ)
    (r : Result found.Ending Refusal) : Type 0 where
  pub answer : Answer
  pub is_so : Searched th story foresight nesting s answer
  pub said : search_said r ≡ told summary (answer_reply answer)
  pub result : list' ≡ result_after (told (λ p. p.list) (answer_reply answer)) list
  pub scratch : work' ≡ cleared work

-- the same, from what node 0 means of the nodes that are read from a place on
abbrev pub SearchPutFrom : (pack places : List ℕ) (h : Context) (first nodes story foresight nesting : ℕ)
    (list list' work work' : List ℕ) (r : Result found.Ending Refusal)
    → Type 0
SearchPutFrom pack places h first nodes story foresight nesting list list' work work' r =
    (th : Theory) (T : List Node) → Seeking th T pack places h first nodes story foresight nesting list work
    → SearchPut th story foresight nesting (meaning h.characters T 0) list list' work work' r
