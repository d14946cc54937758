-- What all six public calls share: the order of checks, and what lent buffers hold afterwards. Document 01, "Numbers
-- handed back", its last paragraph.
use Rattle.std.specs.Prelude.{ℕ, Bool, ◌||◌, List, [], ◌∷◌, ◌++◌, length, drop, replicate, leb, ltb}
use Rattle.pack.specs.Syntax.{Theory, Node, Pack}
use Rattle.pack.specs.Reading.{Reply, gives, refuses, with, pick}
use Rattle.pack.specs.Grammar.{pack_of, chart_of}

-- "Needed: 961 for a chart"
abbrev pub chart_room : ℕ
chart_room = 961

-- "62 for Compare's chain"
abbrev pub chain_room : ℕ
chain_room = 62

-- "8 for Search's list"
abbrev pub list_room : ℕ
list_room = 8

-- "49,152 for work"
abbrev pub work_room : ℕ
work_room = 49152

-- a lent buffer is long enough
abbrev pub fits : ℕ → List ℕ → Bool
fits room buffer = leb room (length buffer)

-- the charts, one after the other; the first refusal stays
unfoldable pub charts_of : Theory → List (List ℕ) → Reply (List (List Node))
charts_of p [] = gives []
charts_of p (bytes ∷ rest) = with (chart_of p bytes) (λ t. with (charts_of p rest) (λ ts. gives (t ∷ ts)))

-- "Order: pack, first chart, second chart, 8, 9, the rest." `enough` says that the lent buffers are, `in_range` that
-- each number handed in is that of something there. "Place is .. for 8 to 19 .. 0."
unfoldable pub call : {A : Type 0}
    → (pack : List ℕ) (charts : List (List ℕ)) (enough : Bool) (in_range : Theory → Bool)
    (rest : Pack → List (List Node) → Reply A)
    → Reply A
call pack charts enough in_range rest =
    with (pack_of pack) (λ p.
    with (charts_of p.theory charts) (λ tables.
    pick enough (pick (in_range p.theory) (rest p tables) (refuses 9 0)) (refuses 8 0)))

-- "A refusal keeps result buffers unchanged; an answer changes only the bytes it fills."
unfoldable pub result_after : Reply (List ℕ) → List ℕ → List ℕ
result_after (gives bytes) before = bytes ++ drop (length bytes) before
result_after (refuses number place) before = before

-- a refusal from the checks: 1 to 9 and 21 to 27
abbrev pub by_checks : ℕ → Bool
by_checks number = ltb number 10 || leb 21 number

-- "After 1 to 9 and 21 to 27 the work buffer is unchanged, after all else its first 49,152 bytes are 0."
abbrev pub cleared : List ℕ → List ℕ
cleared before = replicate work_room 0 ++ drop work_room before

-- "After 1 to 9 and 21 to 27 the work buffer is unchanged, after all else its first 49,152 bytes are 0."
unfoldable pub work_after : {A : Type 0} → Reply A → List ℕ → List ℕ
work_after (gives a) before = cleared before
work_after (refuses number place) before = pick (by_checks number) before (cleared before)
