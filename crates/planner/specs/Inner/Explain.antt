-- Where the state stands that is asked about, and what is told of it. Assumes nothing.
use Rattle.std.specs.Prelude.{◌≡◌, Bool, true, false, List, ℕ, ◌+◌, ◌*◌, ◌<◌, ◌≤◌, length, get_or}
use Rattle.pack.specs.Syntax.{Node, Theory}
use Rattle.pack.specs.State.{State, meaning, belief}
use Rattle.pack.specs.Duties.Answer.{dims}
use Rattle.pack.specs.Duties.Table as table
use Rattle.pack.specs.declared.table.Table.{Table}
use Rattle.chart.specs.Call.{work_room, cleared}
use Rattle.chart.specs.Duties.Look.{NodesRead}
use Rattle.transition.specs.Duties.Cause.{Tabled}
use Rattle.transition.specs.Happening.{Plays}
use Rattle.transition.specs.Duties.Play.{Theorized, Left}
use Rattle.planner.specs.declared.limits.Context.{Context}
use Rattle.planner.specs.Ending.{Explained}
use Rattle.planner.specs.Inner.Lists.{slot_table}
use Rattle.planner.specs.Inner.Memory.{Laid, InSlot, Memory}

-- a theory, found in the pack, and a table before the first free slot
pub record Stage (p : Theory) (T : List Node) (pack places : List ℕ) (h : Context) (work : List ℕ) (t : Table)
    (slot : ℕ) : Type 0 where
  pub theorized : Theorized p pack places h.actions h.triggers
  pub tabled : Tabled (dims p.characters p.domains) T work t
  pub same_fluents : h.fluents ≡ t.fluents
  pub same_characters : h.characters ≡ t.characters
  pub behind : t.rows + t.nodes * t.width ≤ slot
  pub room : work_room ≤ length work
  pub laid : Laid h
  pub slotted : InSlot h work t slot
  pub free : slot ≡ h.stride * slotted.number + h.stride

abbrev pub Staged : (pack places : List ℕ) (h : Context) (work : List ℕ) (t : Table) (slot : ℕ) → Type 0
Staged pack places h work t slot = (p : Theory) × ((T : List Node) × Stage p T pack places h work t slot)

-- and a memory in which all is true
abbrev pub Prepared : (pack places : List ℕ) (h : Context) (work : List ℕ) (t : Table) (slot : ℕ) → Type 0
Prepared pack places h work t slot =
    (p : Theory) × ((T : List Node) × (Stage p T pack places h work t slot × Memory p h.foresight.0 h slot work))

-- the context's foresight limit is one, 1 to 6
pub record Foreseeing (h : Context) : Type 0 where
  pub some : 0 < h.foresight.0
  pub few : h.foresight.0 ≤ 6

-- n slots from `slot` on lie before the memory
abbrev pub Free : (h : Context) (slot n : ℕ) → Type 0
Free h slot n = slot + n * h.stride ≤ h.memory

-- the flag r says whether P holds; bytes before the free slots, and behind the memory, are as they were, and of what is
-- in the memory M holds
pub record Told (M : List ℕ → Type 0) (slot : ℕ) (was now : List ℕ) (r : Bool) (P : Type 0) : Type 0 where
  pub sound : r ≡ true → P
  pub complete : r ≡ false → P → ⊥
  pub low : table.Below was now slot
  pub high : table.Above was now work_room
  pub memory : M now

-- asked about what a row of the table in a slot means, where what is known is true: the flag r says whether P holds of
-- it
abbrev pub AnswersOf : (row : ℕ) (pack places : List ℕ) (h : Context) (slot : ℕ) (work work' : List ℕ) (r : Bool)
    (P : Theory → State → Type 0)
    → Type 0
AnswersOf row pack places h slot work work' r P =
    (th : Theory) (T : List Node) → Stage th T pack places h work (slot_table h work slot) (slot + h.stride)
    → Memory th h.foresight.0 h (slot + h.stride) work
    → Told (Memory th h.foresight.0 h (slot + h.stride)) (slot + h.stride) work work' r
    (P th (meaning h.characters T row))

-- about the state in it
abbrev pub Answers : (pack places : List ℕ) (h : Context) (slot : ℕ) (work work' : List ℕ) (r : Bool)
    (P : Theory → State → Type 0)
    → Type 0
Answers = AnswersOf 0

-- an action and a row of the table
abbrev pub Steppable : (pack places : List ℕ) (h : Context) (a : ℕ) (work : List ℕ) (t : Table) (root slot : ℕ) → Type 0
Steppable pack places h a work t root slot =
    Prepared pack places h work t slot × (a < h.actions) × (root < t.nodes) × Free h slot 1

-- a step into the first free slot, and the flag r that it plays: what it leaves stands there, or it does not play
pub record Advanced (p : Theory) (foresight : ℕ) (h : Context) (z : State) (a : ℕ) (t : Table) (was now : List ℕ)
    (slot : ℕ) (r : Bool) : Type 0 where
  pub plays : r ≡ true → (s : State) × Plays p z a s × Left s t now slot
  pub none : r ≡ false → (s : State) → Plays p z a s → ⊥
  pub low : table.Below was now slot
  pub high : table.Above was now work_room
  pub memory : Memory p foresight h slot now
  pub further : r ≡ true → Memory p foresight h (slot + h.stride) now

-- a step of what row `root` of the table in a slot means, into the slot behind it
abbrev pub Advances : (pack places : List ℕ) (h : Context) (a slot root : ℕ) (work work' : List ℕ) (r : Bool) → Type 0
Advances pack places h a slot root work work' r =
    (th : Theory) (T : List Node) → Stage th T pack places h work (slot_table h work slot) (slot + h.stride)
    → Memory th h.foresight.0 h (slot + h.stride) work
    → Advanced th h.foresight.0 h (meaning h.characters T root) a (slot_table h work slot) work work'
    (slot + h.stride) r

-- a state in a slot, whatever the pack is
abbrev pub Held : (h : Context) (work : List ℕ) (slot : ℕ) → Type 0
Held h work slot =
    (pack : List ℕ) × ((places : List ℕ) × Prepared pack places h work (slot_table h work slot) (slot + h.stride))

-- what is believed is what a row means of the table in a slot, the one that the believer stands in or the next
pub record BeliefAt (p : Theory) (foresight : ℕ) (h : Context) (pack places : List ℕ) (b : State) (was now : List ℕ)
    (slot at row : ℕ) : Type 0 where
  pub rows : List Node
  pub stage : Stage p rows pack places h now (slot_table h now at) (at + h.stride)
  pub inside : row < get_or now at 0
  pub means : meaning h.characters rows row ≡ b
  pub from : slot ≤ at
  pub to : at ≤ slot + h.stride
  pub low : table.Below was now (slot + h.stride)
  pub high : table.Above was now work_room
  pub memory : Memory p foresight h (at + h.stride) now

-- what a row of the table in a slot means is laid out in the next
abbrev pub LaysBelief : (h : Context) (slot row : ℕ) (work work' : List ℕ) → Type 0
LaysBelief h slot row work work' =
    (pack places : List ℕ) (th : Theory) (T : List Node)
    → Stage th T pack places h work (slot_table h work slot) (slot + h.stride)
    → Memory th h.foresight.0 h (slot + h.stride) work
    → BeliefAt th h.foresight.0 h pack places (meaning h.characters T row) work work' slot (slot + h.stride) 0

-- what c believes in the state in a slot stands there
abbrev pub PlacesBelief : (h : Context) (slot c : ℕ) (work work' : List ℕ) (at row : ℕ) → Type 0
PlacesBelief h slot c work work' at row =
    (pack places : List ℕ) (th : Theory) (T : List Node)
    → Stage th T pack places h work (slot_table h work slot) (slot + h.stride)
    → Memory th h.foresight.0 h (slot + h.stride) work
    → BeliefAt th h.foresight.0 h pack places (belief (meaning h.characters T 0) c) work work' slot at row

-- an accepted pack and chart, numbers of something there, and a slot for each state of an explanation
pub record Judging (th : Theory) (T : List Node) (pack places : List ℕ) (h : Context) (chart : List ℕ)
    (nodes character action foresight nesting : ℕ) (work : List ℕ) : Type 0 where
  pub theorized : Theorized th pack places h.actions h.triggers
  pub read : NodesRead chart nodes h.fluents h.characters T
  pub same_characters : th.characters ≡ h.characters
  pub same_fluents : length th.domains ≡ h.fluents
  pub who : character < h.characters
  pub what : action < h.actions
  pub foreseen : (0 < foresight) × (foresight ≤ 6)
  pub laid : Laid h
  pub slots : Free h 0 (1 + (1 + foresight) * nesting)
  pub room : work_room ≤ length work

abbrev pub Judgeable : (pack places : List ℕ) (h : Context) (chart : List ℕ)
    (nodes character action foresight nesting : ℕ) (work : List ℕ)
    → Type 0
Judgeable pack places h chart nodes character action foresight nesting work =
    (th : Theory) × ((T : List Node) × Judging th T pack places h chart nodes character action foresight nesting work)

-- the verdict, and the work buffer cleared
pub record Verdict (P : Type 0) (work work' : List ℕ) (r : Bool) : Type 0 where
  pub sound : r ≡ true → P
  pub complete : r ≡ false → P → ⊥
  pub scratch : work' ≡ cleared work

-- whether the action is explained to the character in what the chart means
abbrev pub VerdictOf : (pack places : List ℕ) (h : Context) (chart : List ℕ)
    (nodes character action foresight nesting : ℕ) (work work' : List ℕ) (r : Bool)
    → Type 0
VerdictOf pack places h chart nodes character action foresight nesting work work' r =
    (th : Theory) (T : List Node) → Judging th T pack places h chart nodes character action foresight nesting work
    → Verdict (Explained th foresight nesting character action (meaning h.characters T 0)) work work' r
