-- The starred readings of P follow from the definitions. Assumes nothing.
use Rattle.std.specs.Prelude.{ℕ, zero, suc, ◌≡◌, refl, Bool, true, false, ◌&&◌, List, [], ◌∷◌, ltb}
use Rattle.std.proofs.Common.{sym, true≢false, arith, ltb-true}
use Rattle.pack.specs.Syntax.{Node, Theory, Pack}
use Rattle.pack.specs.Reading.{Reply, gives, refuses, runs}
use Rattle.pack.specs.Number.{number_at, between, belief_at, rising_at}
use Rattle.pack.specs.Grammar.{pack_of, chart_of, pack_at, head_at, nodes_at, node_at, theory_at, action_at, trigger_at}
use Rattle.pack.specs.Grammar.{rules_at, rule_at, condition_at, test_at, effects_at, effect_at, consenters_at}
use Rattle.pack.specs.Condition.{compares, passes, all_pass, holds, utility}
use Rattle.pack.specs.State.{meaning}
use Rattle.pack.specs.Layout.{number_bytes, list_bytes, Each}
use Rattle.pack.specs.Laws.Exact.{Bytes}
use Rattle.chart.specs.Compare.{same, differ}
use Rattle.chart.specs.Call.{call}
use Rattle.chart.specs.Replies.{all_below, start_reply, query_reply, compare_reply}
use Rattle.chart.specs.Laws.Replies.{Given, Chart, start_says, compare_says}
use Rattle.transition.specs.Happening.{Refuses}
use Rattle.transition.specs.Step.{leaves, refused, Steps}
use Rattle.transition.specs.Replies.{step_reply}
use Rattle.transition.specs.Laws.Replies.{step_says}
use Rattle.planner.specs.Ending.{Explained}
use Rattle.planner.specs.Search.{ending, none}
use Rattle.planner.specs.Replies.{explained_reply, search_reply}
use Rattle.planner.specs.Readings as row
use Rattle.planner.specs.Readings.{starred, Says}
use Rattle.planner.specs.Laws.Replies.{explained_says, explained_denies, search_says}
use Rattle.planner.specs.Laws.Readings.{P, first, second, ones, twice, written_first, written_second}
use Rattle.planner.specs.Laws.Readings.{plays, parts, agree, explained, sought, misses_all}

-- a list is of bytes where a test that is computed says so
and_left : (a b : Bool) → (a && b) ≡ true → a ≡ true
and_left true b e = refl
and_left false b e = e

and_right : (a b : Bool) → (a && b) ≡ true → b ≡ true
and_right true b e = e
and_right false b e = absurd (true≢false (sym e))

bytes : (l : List ℕ) → all_below 256 l ≡ true → Bytes l
unfolding all_below
bytes [] e i = omega arith
bytes (b ∷ l) e zero = ltb-true b 256 (and_left (ltb b 256) (all_below 256 l) e)
bytes (b ∷ l) e (suc i) = bytes l (and_right (ltb b 256) (all_below 256 l) e) i

abbrev pack : Pack
pack = record { theory = P; nodes = first }

given : Given row.P pack
unfolding all_below pack_of pack_at head_at nodes_at node_at theory_at action_at trigger_at rules_at rule_at
    condition_at test_at
    effects_at effect_at consenters_at number_at between belief_at rising_at runs
given = record { bytewise = bytes row.P refl; accepted = refl }

module _ (l : List ℕ) (t : List Node) (b : all_below 256 l ≡ true) (e : chart_of P l ≡ gives t) where
  chart : Chart P l t
  chart = record { bytewise = bytes l b; accepted = e }

started : Chart P row.started first
unfolding all_below chart_of nodes_at node_at number_at between belief_at runs
started = chart row.started first refl refl

stepped : Chart P row.stepped second
unfolding all_below chart_of nodes_at node_at number_at between belief_at runs
stepped = chart row.stepped second refl refl

alike : Chart P row.ones ones
unfolding all_below chart_of nodes_at node_at number_at between belief_at runs
alike = chart row.ones ones refl refl

doubled : Chart P row.doubled twice
unfolding all_below chart_of nodes_at node_at number_at between belief_at runs
doubled = chart row.doubled twice refl refl

start_row : Says (row.start (gives row.started))
unfolding number_bytes list_bytes meaning
start_row out work h g = start_says given out work h g first (written_first, refl)

step_row : Says (row.step row.started 0 (gives row.stepped))
unfolding number_bytes list_bytes
step_row out work h g =
    step_says given row.started first started 0 (omega arith) out work h g (leaves second)
    (Steps.left written_second plays)

forbidden_row : Says (row.step row.ones 0 (refuses 10 0))
unfolding holds all_pass passes compares meaning
forbidden_row out work h g =
    step_says given row.ones ones alike 0 (omega arith) out work h g (refused 10)
    (Steps.failed (omega arith) (Refuses.forbidden refl))

differ_row : Says (row.compare row.stepped row.ones (gives (differ (1 ∷ []) 0)))
differ_row chain work h g =
    (compare_says given row.stepped row.ones chain work second ones stepped alike h g (differ (1 ∷ []) 0)).0 parts

same_row : Says (row.compare row.started row.doubled (gives same))
same_row chain work h g =
    (compare_says given row.started row.doubled chain work first twice started doubled h g same).0 agree

explained_row : Says (row.explained 0 0 1 1 (gives true))
explained_row work g =
    (explained_says given row.started first started 0 0 1 1 (omega arith) (omega arith) (omega arith) (omega arith)
    (omega arith) work g).1 explained

other_row : Says (row.explained 1 0 1 1 (gives false))
unfolding Explained utility holds all_pass passes compares meaning
other_row work g =
    (explained_denies given row.started first started 1 0 1 1 (omega arith) (omega arith) (omega arith) (omega arith)
    (omega arith) work g).1 (λ x. omega (arith, x.6))

zero_row : Says (row.explained 0 0 1 0 (gives false))
unfolding Explained
zero_row work g =
    (explained_denies given row.started first started 0 0 1 0 (omega arith) (omega arith) (omega arith) (omega arith)
    (omega arith) work g).1 (λ x. x)

ending_row : Says (row.search 1 1 1 (gives (record { list = 0 ∷ []; before = 0; after = 5 })))
ending_row list work h g =
    (search_says given 1 1 1 (omega arith) (omega arith) (omega arith) (omega arith) (omega arith) list work h g
    (ending (0 ∷ []) 0 5)).1 sought

none_row : Says (row.search 1 1 0 (refuses 13 0))
none_row list work h g =
    (search_says given 1 1 0 (omega arith) (omega arith) (omega arith) (omega arith) (omega arith) list work h g none).1
    (misses_all 1 1)

-- the first refusal stays
refused-call : {A : Type 0} (bytes : List ℕ) (charts : List (List ℕ)) (enough : Bool) (in_range : Theory → Bool)
    (rest : Pack → List (List Node) → Reply A) {n q : ℕ}
    → pack_of bytes ≡ refuses n q → call bytes charts enough in_range rest ≡ refuses n q
unfolding call
refused-call bytes charts enough in_range rest e = rw e

-- what is no pack is refused by every call, whatever else it is lent
refusing : (bytes : List ℕ) {n q : ℕ} → pack_of bytes ≡ refuses n q → Says (row.refusal bytes n q)
unfolding start_reply query_reply compare_reply step_reply explained_reply search_reply
refusing bytes e = (
  λ out work. refused-call bytes _ _ _ _ e,
  λ chart chain fluent work. refused-call bytes _ _ _ _ e,
  λ first second chain work. refused-call bytes _ _ _ _ e,
  λ chart action out work. refused-call bytes _ _ _ _ e,
  λ chart c a K e' work. refused-call bytes _ _ _ _ e,
  λ T K E list work. refused-call bytes _ _ _ _ e,
)

empty_row : Says (row.refusal [] 1 0)
unfolding pack_of pack_at head_at number_at between
empty_row = refusing [] refl

blank-row : Says (row.refusal (row.P-with 0x00) 5 6)
unfolding pack_of pack_at head_at nodes_at node_at number_at between belief_at runs
blank-row = refusing (row.P-with 0x00) refl

pub readings : Each Says starred
unfolding Each
readings = (
  start_row,
  (
    step_row,
    (
      forbidden_row,
      (
        differ_row,
        (same_row, (explained_row, (other_row, (zero_row, (ending_row, (none_row, (empty_row, (blank-row, tt)))))))),
      ),
    ),
  ),
)
