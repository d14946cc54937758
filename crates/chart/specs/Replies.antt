-- What Start, Query and Compare reply to the bytes, numbers and buffers that they are lent.
use Rattle.std.specs.Prelude.{ℕ, Bool, true, ◌&&◌, List, [], ◌∷◌, get_or, ltb}
use Rattle.pack.specs.Syntax.{Node, fluents}
use Rattle.pack.specs.State.{meaning}
use Rattle.pack.specs.Reading.{Reply, gives}
use Rattle.pack.specs.Layout.{chart_bytes}
use Rattle.chart.specs.Compare.{Verdict, same, differ}
use Rattle.chart.specs.Answers.{start_table, compare_table}
use Rattle.chart.specs.Call.{chart_room, chain_room, work_room, fits, call}

-- the first and the second chart handed in
abbrev pub first_of : List (List Node) → List Node
first_of tables = get_or tables 0 []

-- the second: "Order: pack, first chart, second chart"
abbrev pub second_of : List (List Node) → List Node
second_of tables = get_or tables 1 []

-- "Start writes the chart of node 0, as the pack has it." The reply is the chart's bytes
unfoldable pub start_reply : (pack chart work : List ℕ) → Reply (List ℕ)
start_reply pack chart work =
    call pack [] (fits chart_room chart && fits work_room work) (λ p. true) (λ p tables.
    gives (chart_bytes (start_table p.theory.characters p.nodes)))

-- each byte of the chain is a character
unfoldable pub all_below : ℕ → List ℕ → Bool
all_below C [] = true
all_below C (c ∷ chain) = ltb c C && all_below C chain

-- "Query takes a chart, a lent chain of any length, one byte a character, and a fluent, and gives its value where the
-- chain leads."
unfoldable pub query_reply : (pack chart chain : List ℕ) (fluent : ℕ) (work : List ℕ) → Reply ℕ
query_reply pack chart chain fluent work =
    call pack (chart ∷ []) (fits work_room work) (λ p. all_below p.characters chain && ltb fluent (fluents p))
    (λ p tables.
    gives (get_or (meaning p.theory.characters (first_of tables) 0 chain) fluent 0))

-- "Compare takes two charts: same, or the shortest chain that leads to a difference .."
unfoldable pub compare_reply : (pack first second chain work : List ℕ) → Reply Verdict
compare_reply pack first second chain work =
    call pack (first ∷ second ∷ []) (fits chain_room chain && fits work_room work) (λ p. true) (λ p tables.
    gives (compare_table p.theory.characters (fluents p.theory) (first_of tables) (second_of tables)))

-- the bytes that Compare fills: "same" fills none
abbrev pub chain_of : Verdict → List ℕ
chain_of same = []
chain_of (differ chain fluent) = chain
