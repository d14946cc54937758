-- The readings of P that document 01 marks *, over the bytes themselves, as one table. `Laws.Starred` proves it.
use Rattle.std.specs.Prelude.{ℕ, ◌≤◌, ◌≡◌, Bool, true, false, List, [], ◌∷◌, length}
use Rattle.pack.specs.Reading.{Reply, gives, refuses}
use Rattle.chart.specs.Compare.{Verdict, same, differ}
use Rattle.chart.specs.Call.{chart_room, chain_room, list_room, work_room}
use Rattle.chart.specs.Replies.{start_reply, query_reply, compare_reply}
use Rattle.transition.specs.Replies.{step_reply}
use Rattle.planner.specs.Replies.{explained_reply, Plan, search_reply}

-- "P is `01 02 01 03 01 00 01 01 01 ..` (42 bytes)"; byte 6 is left open, for "P, byte 6 `00`"
abbrev pub P-with : ℕ → List ℕ
P-with byte6 =
    0x01 ∷ 0x02 ∷ 0x01 ∷ 0x03 ∷ 0x01 ∷ 0x00 ∷ byte6 ∷ 0x01 ∷ 0x01 ∷ 0x01 ∷ 0x01 ∷ 0x00 ∷ 0x00 ∷ 0x00 ∷ 0x00 ∷ 0x01
    ∷ 0x00 ∷ 0x00 ∷ 0x01 ∷ 0x01 ∷ 0x00
    ∷ 0x01 ∷ 0x00 ∷ 0x00 ∷ 0x00 ∷ 0x01 ∷ 0x01 ∷ 0x01 ∷ 0x00 ∷ 0x00 ∷ 0x00 ∷ 0x01 ∷ 0x05 ∷ 0x01 ∷ 0x01 ∷ 0x01 ∷ 0x00
    ∷ 0x00 ∷ 0x00 ∷ 0x01 ∷ 0x05 ∷ 0x00 ∷ []

-- P itself
abbrev pub P : List ℕ
P = P-with 0x01

-- `01 00 01 01`, `02 01 01 02 00 02 02`, `01 01 01 01`, `02 00 02 02 00 01 01`
abbrev pub started : List ℕ
started = 0x01 ∷ 0x00 ∷ 0x01 ∷ 0x01 ∷ []

abbrev pub stepped : List ℕ
stepped = 0x02 ∷ 0x01 ∷ 0x01 ∷ 0x02 ∷ 0x00 ∷ 0x02 ∷ 0x02 ∷ []

abbrev pub ones : List ℕ
ones = 0x01 ∷ 0x01 ∷ 0x01 ∷ 0x01 ∷ []

abbrev pub doubled : List ℕ
doubled = 0x02 ∷ 0x00 ∷ 0x02 ∷ 0x02 ∷ 0x00 ∷ 0x01 ∷ 0x01 ∷ []

-- a row of the table: a call on P and what it replies, or bytes that are no pack and what every call replies to them
pub data Reading : Type 0 where
  start : Reply (List ℕ) → Reading
  step : (chart : List ℕ) (action : ℕ) → Reply (List ℕ) → Reading
  compare : (first second : List ℕ) → Reply Verdict → Reading
  explained : (character action foresight nesting : ℕ) → Reply Bool → Reading
  search : (story foresight nesting : ℕ) → Reply Plan → Reading
  refusal : (pack : List ℕ) (number place : ℕ) → Reading

-- the call replies so, whatever buffers it is lent that are long enough
abbrev pub Says : Reading → Type 0
Says (start r) = (out work : List ℕ) → chart_room ≤ length out → work_room ≤ length work → start_reply P out work ≡ r
Says (step chart action r) =
    (out work : List ℕ) → chart_room ≤ length out → work_room ≤ length work → step_reply P chart action out work ≡ r
Says (compare first second r) =
    (chain work : List ℕ) → chain_room ≤ length chain → work_room ≤ length work
    → compare_reply P first second chain work ≡ r
Says (explained c a K e r) = (work : List ℕ) → work_room ≤ length work → explained_reply P started c a K e work ≡ r
Says (search T K E r) =
    (list work : List ℕ) → list_room ≤ length list → work_room ≤ length work → search_reply P T K E list work ≡ r
Says (refusal pack number place) =
    ((out work : List ℕ) → start_reply pack out work ≡ refuses number place)
    × ((chart chain : List ℕ) (fluent : ℕ) (work : List ℕ)
    → query_reply pack chart chain fluent work ≡ refuses number place)
    × ((first second chain work : List ℕ) → compare_reply pack first second chain work ≡ refuses number place)
    × ((chart : List ℕ) (action : ℕ) (out work : List ℕ) → step_reply pack chart action out work ≡ refuses number place)
    × ((chart : List ℕ) (c a K e : ℕ) (work : List ℕ) → explained_reply pack chart c a K e work ≡ refuses number place)
    × ((T K E : ℕ) (list work : List ℕ) → search_reply pack T K E list work ≡ refuses number place)

-- "The readings of P marked * are shown to follow from the definitions, as one theorem over a small table"; "The rows
-- of 1 and 5."
abbrev pub starred : List Reading
starred =
    start (gives started)
    ∷ step started 0 (gives stepped)
    ∷ step ones 0 (refuses 10 0)
    ∷ compare stepped ones (gives (differ (1 ∷ []) 0))
    ∷ compare started doubled (gives same)
    ∷ explained 0 0 1 1 (gives true)
    ∷ explained 1 0 1 1 (gives false)
    ∷ explained 0 0 1 0 (gives false)
    ∷ search 1 1 1 (gives (record { list = 0 ∷ []; before = 0; after = 5 }))
    ∷ search 1 1 0 (refuses 13 0)
    ∷ refusal [] 1 0
    ∷ refusal (P-with 0x00) 5 6
    ∷ []
