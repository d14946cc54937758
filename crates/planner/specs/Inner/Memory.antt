-- What is known of states, behind the slots: tables that are kept, each under a number that is its id, and
-- what is known of steps and lists by these ids; once there was no room, cells that hold both. Every entry and every
-- cell is true, whatever it is replaced by. Assumes nothing.
use Rattle.std.specs.Prelude.{Bool, true, false, Option, Some, None, IfSome, ◌⊎◌}
use Rattle.std.specs.Prelude.{◌≡◌, ◌≢◌, List, ℕ, zero, suc, ◌+◌, ◌*◌, ◌-◌, ◌/◌, ◌%◌, ◌<◌, ◌≤◌, length, get_or}
use Rattle.pack.specs.Syntax.{Theory}
use Rattle.pack.specs.State.{State}
use Rattle.pack.specs.Duties.Table as table
use Rattle.pack.specs.declared.table.Table.{Table}
use Rattle.chart.specs.Call.{work_room}
use Rattle.chart.specs.Chart.{Starts}
use Rattle.chart.specs.Laws.Sums.{sum_of}
use Rattle.transition.specs.Happening.{Plays}
use Rattle.planner.specs.declared.limits.Context.{Context}
use Rattle.planner.specs.declared.who.Who.{Who}
use Rattle.planner.specs.Inner.Who.{key_of}
use Rattle.planner.specs.declared.entry.Goal.{Goal}
use Rattle.planner.specs.declared.entry.Deed.{Deed}
use Rattle.planner.specs.declared.entry.Key.{Key}
use Rattle.planner.specs.Inner.Lists.{slot_table, Above, ExplainedBy, Ends}
use Rattle.transition.specs.Duties.Stage.{slot_room, scratch_at}

-- how many entries there may be for what is known of lists
abbrev pub Sized : ℕ → Type 0
Sized n = (n ≡ 256) ⊎ ((n ≡ 512) ⊎ (n ≡ 1024))

-- slots of `stride` bytes from the buffer's start on, at most 30, each with room for a count and 32 rows; the memory
-- behind them, with entries for what is known and 255 blocks for tables, and a step's scratch behind that
pub record Laid (h : Context) : Type 0 where
  pub narrow : h.fluents + h.characters ≤ 30
  pub wide : slot_room (h.fluents + h.characters) ≡ h.stride
  pub some : 1 < h.stride
  pub few : h.memory ≤ 30 * h.stride
  pub blocks : 4 ≤ h.block
  pub entries : Sized h.lists
  pub tabled : h.tables ≡ h.memory + 436 + 9 * h.lists
  pub room : h.memory + 436 + 9 * h.lists + 255 * h.block ≤ scratch_at

-- it begins with the id of the table in each slot, found by where its rows begin: slot after slot the remainder is one
-- more; then how many blocks are taken; whether all has been forgotten once; how many steps were made since then, of
-- which nothing is asked; then the heads and the links of chains, steps, half as many as lists, lists, and tables
abbrev pub id_at : Context → (rows : ℕ) → ℕ
id_at h rows = h.memory + rows % 32

abbrev pub taken_at : Context → ℕ
taken_at h = h.memory + 48

-- nothing has been forgotten yet
abbrev pub Roomy : Context → List ℕ → Type 0
Roomy h work = get_or work (h.memory + 49) 0 ≡ 0

abbrev pub heads_at : Context → ℕ
heads_at h = h.memory + 53

abbrev pub links_at : Context → ℕ
links_at h = h.memory + 180

abbrev pub steps_at : Context → ℕ
steps_at h = h.memory + 436

abbrev pub facts_at : Context → ℕ
facts_at h = h.memory + 436 + 2 * h.lists

abbrev pub tables_at : Context → ℕ
tables_at h = h.memory + 436 + 9 * h.lists

-- the number that a byte keeps an id as, 0 for none
abbrev pub id_byte : Option ℕ → ℕ
id_byte None = 0
id_byte (Some n) = n

-- an id, from 1 on, or none, and what is said of the number that it is kept as
abbrev pub Names : Option ℕ → (ℕ → Type 0) → Type 0
Names id P = IfSome id (λ n. 0 < n) × P (id_byte id)

-- the table of an id begins with a block, that of 1 with the first
abbrev pub kept_at : Context → ℕ → ℕ
kept_at h n = h.memory + 436 + 9 * h.lists - h.block + h.block * n

abbrev pub kept_table : Context → List ℕ → ℕ → Table
kept_table h work n = slot_table h work (kept_at h n)

-- a table lies at the block n, within the blocks that are taken
pub record Inside (h : Context) (work : List ℕ) (n : ℕ) : Type 0 where
  pub some : 0 < n
  pub few : get_or work (kept_at h n) 0 ≤ 32
  pub inside : kept_at h n + 1 + get_or work (kept_at h n) 0 * (h.fluents + h.characters)
      ≤ tables_at h + h.block * get_or work (taken_at h) 0

-- the head of the chain on which a table of n bytes from a on is looked for
abbrev pub head_at : Context → List ℕ → (a n : ℕ) → ℕ
head_at h work a n = heads_at h + sum_of 5 work a n % 127

-- n is met k links behind m; each link leads to a lower id
unfoldable pub Behind : Context → List ℕ → (n k m : ℕ) → Type 0
Behind h work n zero m = m ≡ n
Behind h work n (suc k) m = (get_or work (links_at h + m) 0 < m) × Behind h work n k (get_or work (links_at h + m) 0)

-- n stands on the chain that begins at a place
pub record OnChain (h : Context) (work : List ℕ) (at n : ℕ) : Type 0 where
  pub some : 0 < n
  pub low : get_or work at 0 < 256
  pub links : ℕ
  pub behind : Behind h work n links (get_or work at 0)

-- n is the id of a table that is kept: it stands on the chain of its table
pub record Kept (h : Context) (work : List ℕ) (n : ℕ) : Type 0 where
  pub inside : Inside h work n
  pub listed : OnChain h work
      (head_at h work (kept_at h n + 1) (get_or work (kept_at h n) 0 * (h.fluents + h.characters))) n

-- a table is the one at the block n
pub record Alike (h : Context) (work : List ℕ) (t : Table) (n : ℕ) : Type 0 where
  pub inside : Inside h work n
  pub count : get_or work (kept_at h n) 0 ≡ t.nodes
  pub same : table.table_of (kept_table h work n) work ≡ table.table_of t work

-- n is the id of a table
pub record HasId (h : Context) (work : List ℕ) (t : Table) (n : ℕ) : Type 0 where
  pub kept : Kept h work n
  pub count : get_or work (kept_at h n) 0 ≡ t.nodes
  pub same : table.table_of (kept_table h work n) work ≡ table.table_of t work

-- chains are in order: each begins within the blocks that are taken; on it stand ids of tables of its hash, and no
-- table twice
pub record Chained (h : Context) (work : List ℕ) : Type 0 where
  pub heads : (b : ℕ) → b < 127 → get_or work (heads_at h + b) 0 ≤ get_or work (taken_at h) 0
  pub tables : (b n : ℕ) → b < 127 → OnChain h work (heads_at h + b) n
      → Inside h work n
      × (sum_of 5 work (kept_at h n + 1) (get_or work (kept_at h n) 0 * (h.fluents + h.characters)) % 127 ≡ b)
  pub once : (b m n : ℕ) → b < 127 → OnChain h work (heads_at h + b) m → OnChain h work (heads_at h + b) n
      → table.table_of (kept_table h work m) work ≡ table.table_of (kept_table h work n) work → m ≡ n

-- what an action leaves of a row of the table of an id: nothing, or what the table of another id starts with
pub record StepFact (p : Theory) (h : Context) (work : List ℕ) (n root a next : ℕ) : Type 0 where
  pub kept : Kept h work n
  pub none : next ≡ 0 → (s : State) → Plays p (table.state_of (kept_table h work n) work root) a s → ⊥
  pub left : 0 < next
      → Kept h work next
      × ((s : State) × Plays p (table.state_of (kept_table h work n) work root) a s
      × Starts h.characters s (table.table_of (kept_table h work next) work))

-- what is known of the lists of so many actions to a goal, and of a deed by the belief that a row means, is found by
-- these
abbrev pub goal_key : Who → Goal → ℕ → Key
goal_key whose g left = record { who = key_of whose; nesting = g.nesting.0; number = left; base = g.base }

abbrev pub deed_key : Deed → (row : ℕ) → Key
deed_key d row = record { who = d.who; nesting = d.nesting.0; number = d.action; base = row }

-- what a mark says of the states that a table's rows mean: of a character's lists from the first 1 that there is none
-- and 2 that there is one, of the author's 3 that there is none of exactly so many actions; and of an action, whether
-- it is explained to the character by the belief that a row means, 4 no and 5 yes
pub record Fact (p : Theory) (foresight mark : ℕ) (k : Key) (s : ℕ → State) : Type 0 where
  pub no : mark ≡ 1 → Above p foresight k.nesting k.who k.base (suc k.number) (s 0) → ⊥
  pub yes : mark ≡ 2 → Above p foresight k.nesting k.who k.base (suc k.number) (s 0)
  pub none : mark ≡ 3 → (list : List ℕ) (v : ℕ) → length list ≡ k.number
      → Ends p foresight k.nesting k.base (s 0) list v → ⊥
  pub unexplained : mark ≡ 4 → ExplainedBy p foresight k.nesting k.who k.number (s k.base) → ⊥
  pub explained : mark ≡ 5 → ExplainedBy p foresight k.nesting k.who k.number (s k.base)

-- a byte for the mark and five for the key
abbrev pub key_at : List ℕ → ℕ → Key
key_at work a =
    record {
      who = get_or work (a + 1) 0;
      nesting = get_or work (a + 2) 0;
      number = get_or work (a + 3) 0;
      base = get_or work (a + 4) 0 + 256 * get_or work (a + 5) 0;
    }

-- entries, each empty or true: the id of the table in slot i, a step at a, a fact at a with its id behind it
abbrev pub SlotEntry : (h : Context) (work : List ℕ) (i : ℕ) → Type 0
SlotEntry h work i =
    0 < get_or work (id_at h (h.stride * i + 1)) 0
    → HasId h work (slot_table h work (h.stride * i)) (get_or work (id_at h (h.stride * i + 1)) 0)

abbrev pub StepEntry : (p : Theory) (h : Context) (work : List ℕ) (a : ℕ) → Type 0
StepEntry p h work a =
    0 < get_or work a 0
    → StepFact p h work (get_or work a 0) (get_or work (a + 1) 0) (get_or work (a + 2) 0) (get_or work (a + 3) 0)

abbrev pub FactEntry : (p : Theory) (foresight : ℕ) (h : Context) (work : List ℕ) (a : ℕ) → Type 0
FactEntry p foresight h work a =
    0 < get_or work (a + 6) 0
    → Kept h work (get_or work (a + 6) 0)
    × Fact p foresight (get_or work a 0) (key_at work a)
    (table.state_of (kept_table h work (get_or work (a + 6) 0)) work)

-- there was once no room, so that all has been forgotten, and no table is kept since
pub record Spent (h : Context) (work : List ℕ) : Type 0 where
  pub once : 0 < get_or work (h.memory + 49) 0
  pub none : get_or work (taken_at h) 0 ≡ 0

-- then cells of one size stand in the place of steps, lists and tables, each with a mark and its key, a byte of which
-- nothing is asked, and a table of at most 6 rows behind its count
abbrev pub cell_size : Context → ℕ
cell_size h = 8 + 6 * (h.fluents + h.characters)

abbrev pub cell_at : Context → ℕ → ℕ
cell_at h i = steps_at h + cell_size h * i

-- a cell is empty, or what it says of its table is true
pub record CellFact (p : Theory) (foresight : ℕ) (h : Context) (work : List ℕ) (a : ℕ) : Type 0 where
  pub few : get_or work (a + 7) 0 ≤ 6
  pub fact : Fact p foresight (get_or work a 0) (key_at work a) (table.state_of (slot_table h work (a + 7)) work)

abbrev pub Cells : (p : Theory) (foresight : ℕ) (h : Context) (work : List ℕ) → Type 0
Cells p foresight h work =
    Spent h work → (i : ℕ) → cell_at h i + cell_size h ≤ scratch_at → 0 < get_or work (cell_at h i) 0
    → CellFact p foresight h work (cell_at h i)

-- all are true; of slots, those before a place
pub record Memory (p : Theory) (foresight : ℕ) (h : Context) (limit : ℕ) (work : List ℕ) : Type 0 where
  pub laid : Laid h
  pub within : tables_at h + h.block * get_or work (taken_at h) 0 ≤ scratch_at
  pub chains : Chained h work
  pub slots : (i : ℕ) → h.stride * i + h.stride ≤ limit → SlotEntry h work i
  pub steps : ¬ Spent h work → (i : ℕ) → i < h.lists / 2 → StepEntry p h work (steps_at h + 4 * i)
  pub facts : ¬ Spent h work → (i : ℕ) → i < h.lists → FactEntry p foresight h work (facts_at h + 7 * i)
  pub cells : Cells p foresight h work

-- the id of the table in a slot, or 0 where it has none
abbrev pub slot_id : Context → List ℕ → Table → ℕ
slot_id h work t = get_or work (id_at h t.rows) 0

-- where a fact stands by an id and a key, and a step by the id of a table, a row and an action
abbrev pub entry_at : Context → (id : ℕ) → Key → ℕ
entry_at h id k = facts_at h + 7 * ((id * 11 + k.who % 8 * 37 + k.number % 32 * 5 + k.nesting % 4) % h.lists)

abbrev pub step_at : Context → (id root action : ℕ) → ℕ
step_at h id root a = steps_at h + 4 * ((id * 11 + root * 5 + a) % (h.lists / 2))

-- where an entry begins, of so many of a size
pub record Place (count first size a : ℕ) : Type 0 where
  pub number : ℕ
  pub few : number < count
  pub is : a ≡ first + size * number

-- a table before the memory
pub record Before (h : Context) (work : List ℕ) (t : Table) : Type 0 where
  pub laid : Laid h
  pub fluents : h.fluents ≡ t.fluents
  pub characters : h.characters ≡ t.characters
  pub wide : t.fluents + t.characters ≡ t.width
  pub narrow : t.width ≤ 30
  pub few : t.nodes ≤ 32
  pub before : t.rows + t.nodes * t.width ≤ h.memory
  pub room : work_room ≤ length work

-- which is that of a slot before a place
pub record InSlot (h : Context) (work : List ℕ) (t : Table) (limit : ℕ) : Type 0 where
  pub number : ℕ
  pub rows : t.rows ≡ h.stride * number + 1
  pub counted : get_or work (h.stride * number) 0 ≡ t.nodes
  pub before : h.stride * number + h.stride ≤ limit

-- it takes no more blocks than there are
abbrev pub Fits : Context → Table → Type 0
Fits h t = t.nodes * t.width / h.block < 255

-- only the memory changes
pub record Only (h : Context) (was now : List ℕ) : Type 0 where
  pub low : table.Below was now h.memory
  pub high : table.Above was now work_room

-- only what nothing is asked of changes
pub record Unasked (h : Context) (was now : List ℕ) : Type 0 where
  pub low : table.Below was now (h.memory + 50)
  pub high : table.Above was now (heads_at h)

-- r is the id on a chain under which the table is kept, or 0 where it is kept under none of those
pub record FoundOn (h : Context) (work : List ℕ) (t : Table) (at r : ℕ) : Type 0 where
  pub small : r < 256
  pub alike : 0 < r → Alike h work t r
  pub listed : 0 < r → OnChain h work at r
  pub none : r ≡ 0 → (n : ℕ) → OnChain h work at n → ¬ Alike h work t n

-- an id is put in front of a chain
pub record Linked (h : Context) (at id : ℕ) (was now : List ℕ) : Type 0 where
  pub head : get_or now at 0 ≡ id
  pub link : get_or now (links_at h + id) 0 ≡ get_or was at 0
  pub others : (q : ℕ) → q ≢ at → q ≢ links_at h + id → get_or now q 0 ≡ get_or was q 0

-- a table is put behind those that are kept, at the block r, or r is 0; what is known stays true. It stands on no chain
-- yet, all chains begin before it, and none has got longer
pub record Placed (h : Context) (t : Table) (was now : List ℕ) (r : ℕ) : Type 0 where
  pub small : r < 256
  pub alike : 0 < r → Alike h now t r
  pub only : Only h was now
  pub memory : (p : Theory) (foresight limit : ℕ) → limit ≤ h.memory → Memory p foresight h limit was
      → Memory p foresight h limit now
  pub before : 0 < r → Chained h was → (b : ℕ) → b < 127 → get_or now (heads_at h + b) 0 < r
  pub older : Chained h was → (b n : ℕ) → b < 127 → OnChain h now (heads_at h + b) n
      → OnChain h was (heads_at h + b) n
      × (get_or now (kept_at h n) 0 ≡ get_or was (kept_at h n) 0)
      × (table.table_of (kept_table h now n) now ≡ table.table_of (kept_table h was n) was)

-- r is the id of the table, or 0, and what is known stays true; where the table is kept under an id, it is that one
pub record Stored (h : Context) (t : Table) (was now : List ℕ) (r : ℕ) : Type 0 where
  pub small : r < 256
  pub named : 0 < r → HasId h now t r
  pub exact : Chained h was → (n : ℕ) → HasId h was t n → r ≡ n
  pub only : Only h was now
  pub memory : (p : Theory) (foresight limit : ℕ) → limit ≤ h.memory → Memory p foresight h limit was
      → Memory p foresight h limit now

-- the same of a table in a slot, where what is known is true; r is the slot's id from then on, one where it fits and
-- nothing has been forgotten, and the one under which the table is kept already
pub record Interning (h : Context) (t : Table) (was now : List ℕ) (r : ℕ) : Type 0 where
  pub small : r < 256
  pub stands : slot_id h now t ≡ r
  pub kept : Roomy h now → Fits h t → 0 < r
  pub only : Only h was now
  pub told : (p : Theory) (foresight limit : ℕ) → limit ≤ h.memory → InSlot h was t limit
      → Memory p foresight h limit was
      → Memory p foresight h limit now × (0 < r → HasId h now t r)
  pub exact : (p : Theory) (foresight limit : ℕ) → InSlot h was t limit → Memory p foresight h limit was
      → (n : ℕ) → HasId h was t n → r ≡ n

-- and where the slot has an id, it is that one
pub record Identified (h : Context) (t : Table) (was now : List ℕ) (r : ℕ) : Type 0 where
  pub interning : Interning h t was now r
  pub known : 0 < slot_id h was t → now ≡ was

-- an id is one, and each number of the key fits a byte or two
pub record Storable (id : ℕ) (k : Key) : Type 0 where
  pub some : 0 < id
  pub who : k.who < 256
  pub nesting : k.nesting < 256
  pub number : k.number < 256
  pub base : k.base < 65536

-- a mark and a key are put down
pub record KeyPut (was now : List ℕ) (a mark : ℕ) (k : Key) : Type 0 where
  pub marked : get_or now a 0 ≡ mark
  pub key : key_at now a ≡ k
  pub low : table.Below was now a
  pub high : table.Above was now (a + 6)

-- an entry of a fact
pub record FactRead (work : List ℕ) (a id : ℕ) (k : Key) (mark : ℕ) : Type 0 where
  pub some : 0 < id
  pub marked : get_or work a 0 ≡ mark
  pub key : key_at work a ≡ k
  pub read : get_or work (a + 6) 0 ≡ id

-- of the table in a slot, at its place
abbrev pub FactKnown : (h : Context) (work : List ℕ) (t : Table) (k : Key) (mark : ℕ) → Type 0
FactKnown h work t k mark = FactRead work (entry_at h (slot_id h work t) k) (slot_id h work t) k mark

-- r is the mark that stands there, or 0 where none does; where the slot has an id, nothing changes
pub record Recalls (h : Context) (t : Table) (k : Key) (was now : List ℕ) (r : ℕ) : Type 0 where
  pub found : (mark : ℕ) → FactKnown h now t k mark → r ≡ mark
  pub none : ((mark : ℕ) → ¬ FactKnown h now t k mark) → r ≡ 0
  pub same : 0 < slot_id h was t → now ≡ was

-- a mark stands there, where the table has an id and the key fits; it has one where it fits and nothing has been
-- forgotten; where the slot had an id, it has it still
pub record Notes (h : Context) (t : Table) (mark : ℕ) (k : Key) (was now : List ℕ) : Type 0 where
  pub kept : Roomy h now → Fits h t → 0 < slot_id h now t
  pub stands : Storable (slot_id h now t) k → FactKnown h now t k mark
  pub same : 0 < slot_id h was t → slot_id h now t ≡ slot_id h was t

-- what the mark r says of the state is true where what is known is
pub record Recalled (h : Context) (t : Table) (k : Key) (was now : List ℕ) (r : ℕ) : Type 0 where
  pub only : Only h was now
  pub told : (p : Theory) (foresight limit : ℕ) → limit ≤ h.memory → InSlot h was t limit
      → Memory p foresight h limit was
      → Memory p foresight h limit now × Fact p foresight r k (table.state_of t was)

-- what is put down is true where what it says is
pub record Remembered (h : Context) (t : Table) (mark : ℕ) (k : Key) (was now : List ℕ) : Type 0 where
  pub only : Only h was now
  pub memory : (p : Theory) (foresight limit : ℕ) → limit ≤ h.memory → InSlot h was t limit
      → Memory p foresight h limit was → Fact p foresight mark k (table.state_of t was)
      → Memory p foresight h limit now

-- an entry of a step
pub record StepRead (work : List ℕ) (a id root action : ℕ) : Type 0 where
  pub some : 0 < id
  pub read : get_or work a 0 ≡ id
  pub row : get_or work (a + 1) 0 ≡ root
  pub acted : get_or work (a + 2) 0 ≡ action

-- of a row of the table in a slot, at its place; with the id of what the action leaves, or 0 where it does not play
pub record StepKnown (h : Context) (work : List ℕ) (t : Table) (root action next : ℕ) : Type 0 where
  pub entry : StepRead work (step_at h (slot_id h work t) root action) (slot_id h work t) root action
  pub leaves : get_or work (step_at h (slot_id h work t) root action + 3) 0 ≡ next

-- an entry is put down
pub record StepPut (was now : List ℕ) (a id root action next : ℕ) : Type 0 where
  pub read : get_or now a 0 ≡ id
  pub row : get_or now (a + 1) 0 ≡ root
  pub acted : get_or now (a + 2) 0 ≡ action
  pub leaves : get_or now (a + 3) 0 ≡ next
  pub low : table.Below was now a
  pub high : table.Above was now (a + 4)

-- true where what it says is, of every id of the table; it stands at its place where the slot has an id
pub record Noted (h : Context) (t : Table) (root action next : ℕ) (was now : List ℕ) : Type 0 where
  pub stands : 0 < slot_id h now t → StepKnown h now t root action next
  pub ids : table.Below was now (steps_at h)
  pub only : Only h was now
  pub memory : (p : Theory) (foresight limit : ℕ) → limit ≤ h.memory → InSlot h was t limit
      → Memory p foresight h limit was → ((n : ℕ) → HasId h was t n → StepFact p h was n root action next)
      → Memory p foresight h limit now

-- a slot, before the memory
pub record Slot (h : Context) (work : List ℕ) (slot : ℕ) : Type 0 where
  pub laid : Laid h
  pub before : slot + h.stride ≤ h.memory
  pub number : ℕ
  pub is : slot ≡ h.stride * number
  pub room : work_room ≤ length work

-- the table of an id stands in it, as after a step that plays, and the flag r says so; from the memory on only the
-- slot's id is written, so no step is made
pub record Again (h : Context) (next slot : ℕ) (was now : List ℕ) (r : Bool) : Type 0 where
  pub refused : r ≡ false → next ≡ 0
  pub named : r ≡ true → slot_id h now (slot_table h now slot) ≡ next
  pub others : (q : ℕ) → h.memory ≤ q → q ≢ id_at h (slot + 1) → get_or now q 0 ≡ get_or was q 0
  pub played : r ≡ true
      → (0 < next) × (table.table_of (slot_table h now slot) now ≡ table.table_of (kept_table h was next) was)
      × (get_or now slot 0 ≤ 32)
  pub low : table.Below was now slot
  pub high : table.Above was now work_room
  pub memory : (p : Theory) (foresight : ℕ) → Memory p foresight h slot was
      → Memory p foresight h slot now × (r ≡ true → Memory p foresight h (slot + h.stride) now)

-- what a step has left in it is known, and the step where both tables have ids
pub record LeftNoted (h : Context) (t : Table) (root a slot : ℕ) (was now : List ℕ) : Type 0 where
  pub stands : 0 < slot_id h now t → 0 < slot_id h now (slot_table h now slot)
      → StepKnown h now t root a (slot_id h now (slot_table h now slot))
  pub kept : Roomy h now → Fits h (slot_table h now slot) → 0 < slot_id h now (slot_table h now slot)
  pub only : Only h was now
  pub memory : (p : Theory) (foresight : ℕ) → InSlot h was t slot → Memory p foresight h slot was
      → ((s : State) × Plays p (table.state_of t was root) a s
      × Starts h.characters s (table.table_of (slot_table h was slot) was))
      → Memory p foresight h (slot + h.stride) now

-- a step from a row of a table into a slot, where the flag r says that it plays: one that is known is repeated, and any
-- is known afterwards where the tables before and after it have ids
pub record StepOnce (h : Context) (t : Table) (root a slot : ℕ) (was now : List ℕ) (r : Bool) : Type 0 where
  pub again : (next : ℕ) → StepKnown h was t root a next → Again h next slot was now r
  pub kept : r ≡ true → Roomy h now → Fits h (slot_table h now slot) → 0 < slot_id h now (slot_table h now slot)
  pub refused : r ≡ false → 0 < slot_id h now t → StepKnown h now t root a 0
  pub played : r ≡ true → 0 < slot_id h now t → 0 < slot_id h now (slot_table h now slot)
      → StepKnown h now t root a (slot_id h now (slot_table h now slot))

-- a bucket: four cells, one behind the other
pub record Bucket (h : Context) (a : ℕ) : Type 0 where
  pub number : ℕ
  pub is : a ≡ cell_at h (4 * number)
  pub room : a + 4 * cell_size h ≤ scratch_at

-- one of them
pub record CellIn (h : Context) (a r : ℕ) : Type 0 where
  pub number : ℕ
  pub few : number < 4
  pub is : r ≡ a + number * cell_size h

-- the bucket of the table in a slot and a key, by the sum of the table's bytes
abbrev pub table_sum : Context → List ℕ → (slot : ℕ) → ℕ
table_sum h work slot = sum_of 5 work slot (1 + get_or work slot 0 * (h.fluents + h.characters))

abbrev pub bucket_at : Context → List ℕ → (slot : ℕ) → Key → ℕ
bucket_at h work slot k =
    steps_at h
    + 4 * cell_size h
    * ((table_sum h work slot + k.who % 8 * 37 + k.number % 32 * 5 + k.nesting % 4)
    % ((scratch_at - steps_at h) / (4 * cell_size h)))

-- a cell holds something of the table in a slot by a key
pub record Holds (h : Context) (work : List ℕ) (slot a : ℕ) (k : Key) : Type 0 where
  pub some : 0 < get_or work a 0
  pub key : key_at work a ≡ k
  pub same : table.table_of (slot_table h work (a + 7)) work ≡ table.table_of (slot_table h work slot) work

-- r is the mark in a cell of the bucket that does, or 0 where none does
pub record FoundIn (h : Context) (work : List ℕ) (slot : ℕ) (k : Key) (r : ℕ) : Type 0 where
  pub found : 0 < r → (i : ℕ) × (i < 4) × Holds h work slot (bucket_at h work slot k + i * cell_size h) k
      × (get_or work (bucket_at h work slot k + i * cell_size h) 0 ≡ r)
  pub none : r ≡ 0 → (i : ℕ) → i < 4 → ¬ Holds h work slot (bucket_at h work slot k + i * cell_size h) k

-- what decides which cell of a bucket is filled
abbrev pub rank_at : List ℕ → ℕ → ℕ
rank_at work a = get_or work (a + 6) 0

-- where a cell of the bucket is empty, what is known of a table of few rows stands in one of them afterwards
pub record CellKept (h : Context) (slot mark : ℕ) (k : Key) (was now : List ℕ) : Type 0 where
  pub stands : get_or was slot 0 ≤ 6 → Storable 1 k → 0 < mark → (i : ℕ) → i < 4
      → rank_at was (bucket_at h was slot k + i * cell_size h) ≡ 0
      → (j : ℕ) × (j < 4) × Holds h now slot (bucket_at h was slot k + j * cell_size h) k
      × (get_or now (bucket_at h was slot k + j * cell_size h) 0 ≡ mark)

-- what is known of the table in a slot is put into a cell
pub record CellPut (h : Context) (slot a mark : ℕ) (k : Key) (was now : List ℕ) : Type 0 where
  pub marked : get_or now a 0 ≡ mark
  pub key : key_at now a ≡ k
  pub part : (i : ℕ) → i < 1 + get_or was slot 0 * (h.fluents + h.characters)
      → get_or now (a + 7 + i) 0 ≡ get_or was (slot + i) 0
  pub low : table.Below was now a
  pub high : table.Above was now (a + cell_size h)
