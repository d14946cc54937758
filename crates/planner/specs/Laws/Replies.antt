-- What the replies of Explained and Search say where the checks are passed. Assumes nothing.
use Rattle.std.specs.Prelude.{ℕ, ◌<◌, ◌≤◌, ◌≡◌, refl, Bool, true, false, ◌&&◌, ◌↔◌, List, [], length, get_or, leb}
use Rattle.std.proofs.Common.{sym, ◌∙◌, ap, true≢false, lt-ltb, le-leb}
use Rattle.std.proofs.Math.Dec.{ltb}
use Rattle.pack.specs.Syntax.{Node, Pack}
use Rattle.pack.specs.State.{State, meaning}
use Rattle.pack.specs.Reading.{gives}
use Rattle.pack.specs.Laws.Reading.{same_gift, never_gives}
use Rattle.chart.specs.Call.{list_room, work_room, fits}
use Rattle.chart.specs.Laws.Answers.{fits_table}
use Rattle.chart.specs.Laws.Tables.{IsTable}
use Rattle.chart.specs.Laws.Replies.{Given, Chart, given_fits, chart_fits, both_true, long_enough, call_none, call-one}
use Rattle.planner.specs.Ending.{Explained}
use Rattle.planner.specs.Search.{Answer, ending, none, Searched}
use Rattle.planner.specs.Answers.{explained_table, search_table}
use Rattle.planner.specs.Replies.{story_limit, foresight_limit, nesting_limit}
use Rattle.planner.specs.Replies.{explained_reply, Plan, answer_reply, search_reply}
use Rattle.planner.specs.Laws.Answers.{explained_table_iff, search_table_iff}

between : (low high n : ℕ) → low ≤ n → n ≤ high → (leb low n && leb n high) ≡ true
between low high n h l = both_true (le-leb low n h) (le-leb n high l)

module _ {pack : List ℕ} {p : Pack} (g : Given pack p) where
  abbrev C : ℕ
  C = p.theory.characters

  module _ (chart : List ℕ) (t : List Node) (c : Chart p.theory chart t) (character action K E : ℕ)
      (hc : character < C) (ha : action < length p.theory.actions) (k1 : 1 ≤ K) (k6 : K ≤ 6) (e3 : E ≤ 3)
      (work : List ℕ) (hw : work_room ≤ length work) where
    pub explains : explained_reply pack chart character action K E work
        ≡ gives (explained_table p.theory K E character action t)
    unfolding explained_reply
    explains =
        call-one (fits work_room work) (λ p.
        ltb character p.characters && (ltb action (length p.actions) && (foresight_limit K && nesting_limit E)))
        (λ p tables. gives (explained_table p.theory K E character action (get_or tables 0 [])))
        (long_enough work_room work hw) g
        (both_true (lt-ltb character C hc) (both_true (lt-ltb action (length p.theory.actions) ha)
        (both_true (between 1 6 K k1 k6) (le-leb E 3 e3)))) c

    -- Explained's reply is yes exactly where the definition over chains says so, and no elsewhere
    pub explained_says : (explained_reply pack chart character action K E work ≡ gives true)
        ↔ Explained p.theory K E character action (meaning C t 0)
    explained_says =
        let x = explained_table_iff p.theory t
        (fits_table C p.theory.domains t (chart_fits g c)) K E character action in
        (λ e. x.0 (same_gift (sym explains ∙ e)), λ h. explains ∙ ap gives (x.1 h))

    pub explained_denies : (explained_reply pack chart character action K E work ≡ gives false)
        ↔ (¬ Explained p.theory K E character action (meaning C t 0))
    explained_denies =
        let x = explained_table_iff p.theory t
        (fits_table C p.theory.domains t (chart_fits g c)) K E character action in (
          λ e h. true≢false (sym (x.1 h) ∙ same_gift (sym explains ∙ e)),
          λ n. explains ∙ ap gives (other (explained_table p.theory K E character action t) (λ e. n (x.0 e))),
        )
      where
        other : (b : Bool) → ¬ (b ≡ true) → b ≡ false
        other true n = absurd (n refl)
        other false n = refl

  module _ (T K E : ℕ) (t1 : 1 ≤ T) (t8 : T ≤ 8) (k1 : 1 ≤ K) (k6 : K ≤ 6) (e3 : E ≤ 3) (list work : List ℕ)
      (hl : list_room ≤ length list) (hw : work_room ≤ length work) where
    abbrev start : State
    start = meaning C p.nodes 0

    table : IsTable C p.nodes
    table = fits_table C p.theory.domains p.nodes (given_fits g).nodes

    pub searches : search_reply pack T K E list work ≡ answer_reply (search_table p.theory T K E p.nodes)
    unfolding search_reply
    searches =
        call_none (fits list_room list && fits work_room work)
        (λ p. story_limit T && (foresight_limit K && nesting_limit E))
        (λ p tables. answer_reply (search_table p.theory T K E p.nodes))
        (both_true (long_enough list_room list hl) (long_enough work_room work hw)) g
        (both_true (between 1 8 T t1 t8) (both_true (between 1 6 K k1 k6) (le-leb E 3 e3)))

    answer_one : (a b : Answer) → answer_reply a ≡ answer_reply b → a ≡ b
    answer_one (ending l w v) (ending l' w' v') e =
        ap (λ (p : Plan). ending p.list p.before p.after) (same_gift e)
    answer_one (ending l w v) none e = never_gives (sym e)
    answer_one none (ending l w v) e = never_gives e
    answer_one none none e = refl

    -- Search's reply is a list exactly where that list is the shortest ending, then the earliest, with the author's
    -- utility before and after
    pub search_says : (r : Answer)
        → (search_reply pack T K E list work ≡ answer_reply r) ↔ Searched p.theory T K E start r
    search_says r =
        let x = search_table_iff p.theory p.nodes table T K E r in (
          λ e. x.1 (answer_one (search_table p.theory T K E p.nodes) r (sym searches ∙ e)),
          λ h. searches ∙ ap answer_reply (x.0 h),
        )
