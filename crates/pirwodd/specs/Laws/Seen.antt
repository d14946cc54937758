-- A report that is too short counts among the lent buffers: the calls' replies with it in their test of room. Assumes
-- nothing.
use Rattle.std.specs.Prelude.{ℕ, ◌≡◌, refl, Bool, true, false, ◌&&◌, List, [], ◌∷◌, get_or, length, ltb}
use Rattle.std.proofs.Common.{ap}
use Rattle.pack.specs.Syntax.{Pack, Node, fluents}
use Rattle.pack.specs.State.{meaning}
use Rattle.pack.specs.Reading.{gives, pick}
use Rattle.pack.specs.Layout.{chart_bytes}
use Rattle.chart.specs.Answers.{start_table, compare_table}
use Rattle.chart.specs.Call.{chart_room, chain_room, list_room, work_room, fits, call}
use Rattle.chart.specs.Replies.{first_of, second_of, all_below, start_reply, query_reply, compare_reply}
use Rattle.transition.specs.Answers.{step_table}
use Rattle.transition.specs.Replies.{outcome_reply, step_reply}
use Rattle.planner.specs.Answers.{explained_table, search_table}
use Rattle.planner.specs.Replies.{story_limit, foresight_limit, nesting_limit, explained_reply, answer_reply}
use Rattle.planner.specs.Replies.{search_reply}
use Rattle.pirwodd.specs.Report.{report_room, seen}

-- the work buffer that is seen is long enough exactly where both it and the report are
pub seen-fits : (report work : List ℕ)
    → fits work_room (seen report work) ≡ (fits report_room report && fits work_room work)
seen-fits report work = at (fits report_room report)
  where
    at : (b : Bool) → fits work_room (pick b work []) ≡ (b && fits work_room work)
    at true = refl
    at false = refl

pub start_seen : (pack chart work report : List ℕ) → start_reply pack chart (seen report work)
    ≡ call pack [] (fits chart_room chart && (fits report_room report && fits work_room work)) (λ p. true)
    (λ p tables. gives (chart_bytes (start_table p.theory.characters p.nodes)))
unfolding start_reply
start_seen pack chart work report =
    ap (λ (b : Bool). call pack [] (fits chart_room chart && b) (λ p. true)
    (λ (p : Pack) (tables : List (List Node)). gives (chart_bytes (start_table p.theory.characters p.nodes))))
    (seen-fits report work)

pub query_seen : (pack chart chain : List ℕ) (fluent : ℕ) (work report : List ℕ)
    → query_reply pack chart chain fluent (seen report work)
    ≡ call pack (chart ∷ []) (fits report_room report && fits work_room work)
    (λ p. all_below p.characters chain && ltb fluent (fluents p))
    (λ p tables. gives (get_or (meaning p.theory.characters (first_of tables) 0 chain) fluent 0))
unfolding query_reply
query_seen pack chart chain fluent work report =
    ap (λ (b : Bool). call pack (chart ∷ []) b (λ p. all_below p.characters chain && ltb fluent (fluents p))
    (λ (p : Pack) (tables : List (List Node)).
    gives (get_or (meaning p.theory.characters (first_of tables) 0 chain) fluent 0)))
    (seen-fits report work)

pub compare_seen : (pack first second chain work report : List ℕ)
    → compare_reply pack first second chain (seen report work)
    ≡ call pack (first ∷ second ∷ []) (fits chain_room chain && (fits report_room report && fits work_room work))
    (λ p. true)
    (λ p tables. gives (compare_table p.theory.characters (fluents p.theory) (first_of tables) (second_of tables)))
unfolding compare_reply
compare_seen pack first second chain work report =
    ap (λ (b : Bool). call pack (first ∷ second ∷ []) (fits chain_room chain && b) (λ p. true)
    (λ (p : Pack) (tables : List (List Node)).
    gives (compare_table p.theory.characters (fluents p.theory) (first_of tables) (second_of tables))))
    (seen-fits report work)

pub step_seen : (pack chart : List ℕ) (action : ℕ) (out work report : List ℕ)
    → step_reply pack chart action out (seen report work)
    ≡ call pack (chart ∷ []) (fits chart_room out && (fits report_room report && fits work_room work))
    (λ p. ltb action (length p.actions))
    (λ p tables. outcome_reply (step_table p.theory (first_of tables) action))
unfolding step_reply
step_seen pack chart action out work report =
    ap (λ (b : Bool). call pack (chart ∷ []) (fits chart_room out && b) (λ p. ltb action (length p.actions))
    (λ (p : Pack) (tables : List (List Node)). outcome_reply (step_table p.theory (first_of tables) action)))
    (seen-fits report work)

pub explained_seen : (pack chart : List ℕ) (character action foresight nesting : ℕ) (work report : List ℕ)
    → explained_reply pack chart character action foresight nesting (seen report work)
    ≡ call pack (chart ∷ []) (fits report_room report && fits work_room work)
    (λ p. ltb character p.characters
    && (ltb action (length p.actions) && (foresight_limit foresight && nesting_limit nesting)))
    (λ p tables. gives (explained_table p.theory foresight nesting character action (first_of tables)))
unfolding explained_reply
explained_seen pack chart character action foresight nesting work report =
    ap (λ (b : Bool). call pack (chart ∷ []) b
    (λ p. ltb character p.characters
    && (ltb action (length p.actions) && (foresight_limit foresight && nesting_limit nesting)))
    (λ (p : Pack) (tables : List (List Node)).
    gives (explained_table p.theory foresight nesting character action (first_of tables))))
    (seen-fits report work)

pub search_seen : (pack : List ℕ) (story foresight nesting : ℕ) (list work report : List ℕ)
    → search_reply pack story foresight nesting list (seen report work)
    ≡ call pack [] (fits list_room list && (fits report_room report && fits work_room work))
    (λ p. story_limit story && (foresight_limit foresight && nesting_limit nesting))
    (λ p tables. answer_reply (search_table p.theory story foresight nesting p.nodes))
unfolding search_reply
search_seen pack story foresight nesting list work report =
    ap (λ (b : Bool).
    call pack [] (fits list_room list && b)
    (λ p. story_limit story && (foresight_limit foresight && nesting_limit nesting))
    (λ (p : Pack) (tables : List (List Node)).
    answer_reply (search_table p.theory story foresight nesting p.nodes)))
    (seen-fits report work)
