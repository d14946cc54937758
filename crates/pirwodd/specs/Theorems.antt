-- The theorems that a buyer reads. Each statement stands alone; each proof is a line or two that cite its law. Document
-- 01's demands and "From the buyer: what I will send back". Of each call there are two: what its reply means over
-- chains, and, from the call's own promise, what it hands back and leaves in the buffers that it was lent. A name with
-- ' is a buffer at exit.
use Rattle.std.specs.Prelude.{ℕ, ◌<◌, ◌≤◌, ◌≡◌, Bool, true, false, ◌&&◌, ◌↔◌, ◌⊎◌, get_or, drop}
use Rattle.std.specs.Prelude.{Option, Some, None, Result, Ok, Err}
use Rattle.std.proofs.Math.Path.{refl, ap}
use Rattle.std.proofs.Common.{sym, ◌∙◌, subst}
use Rattle.std.proofs.Math.Logic.{inl, inr, ⊎_elim}
use mathlib.Core.List.{List, [], ◌∷◌, ◌++◌}
use Rattle.std.proofs.Math.ListN.{length}
use Rattle.pack.specs.Syntax.{Theory, Node, Pack, fluents}
use Rattle.pack.specs.State.{State, Valid, meaning}
use Rattle.pack.specs.Reading.{Reply, gives, refuses, pick, told}
use Rattle.pack.specs.Grammar.{pack_of, chart_of}
use Rattle.pack.specs.Layout.{pack_bytes, chart_bytes, PackFits, ChartFits, Each}
use Rattle.pack.specs.Laws.PackBack.{pack_back}
use Rattle.pack.specs.Laws.Exact.{Bytes}
use Rattle.pack.specs.Laws.PackExact.{pack_exactly, fits_limits, chart_exactly}
use Rattle.pack.specs.Laws.Reading.{never_gives}
use Rattle.pack.specs.declared.refusal.Refusal.{Refusal}
use Rattle.pack.specs.declared.refusal.Refusal.TheVariants.{NoEnding}
use Rattle.pack.specs.Refusals.{replied}
use Rattle.chart.specs.declared.Difference as chart
use Rattle.chart.specs.Chart.{ChartOf}
use Rattle.chart.specs.Compare.{Verdict, same, differ, Differ, Compared}
use Rattle.chart.specs.Call.{fits, cleared, result_after, work_after}
use Rattle.chart.specs.Answers.{compare_table}
use Rattle.chart.specs.Replies.{start_reply, query_reply, compare_reply, chain_of}
use Rattle.chart.specs.Promises.{Started, Asked, Comparison, difference}
use Rattle.chart.specs.Laws.Answers.{one_meaning, fits_table}
use Rattle.chart.specs.Laws.Replies.{
  Given,
  Chart,
  given_fits,
  both_true,
  long_enough,
  call_ranged,
  start_writes,
  query_says,
  compares,
  compare_says,
  compare_chain,
  charts_equal,
  chart_means,
  chart_bounded,
}
use Rattle.transition.specs.Happening.{Plays, Refuses}
use Rattle.transition.specs.Step.{Outcome, Steps}
use Rattle.transition.specs.Replies.{step_reply}
use Rattle.transition.specs.Promises.{Stepped}
use Rattle.transition.specs.Laws.Settled.{plays_refuses, plays_one}
use Rattle.transition.specs.Laws.Stepping.{steps-one}
use Rattle.transition.specs.Laws.Replies.{step_writes}
use Rattle.planner.specs.declared.Ending as planner
use Rattle.planner.specs.Ending.{Explained, Ending}
use Rattle.planner.specs.Search.{Sought, Answer, ending, none, Searched}
use Rattle.planner.specs.Answers.{explained_table, search_table}
use Rattle.planner.specs.Replies.{story_limit, foresight_limit, nesting_limit}
use Rattle.planner.specs.Replies.{explained_reply, Plan, answer_reply, search_reply}
use Rattle.planner.specs.Promises.{Judgement, Searching, summary}
use Rattle.planner.specs.Readings.{starred, Says}
use Rattle.planner.specs.Laws.Answers.{search_table_same}
use Rattle.planner.specs.Laws.Searching.{searched_one}
use Rattle.planner.specs.Laws.Replies.{explains, explained_says, explained_denies, search_says, searches}
use Rattle.planner.specs.Laws.Starred.{readings}
use Rattle.pirwodd.specs.Report.{seen, put}
use Rattle.pirwodd.specs.Exports.{match_numbers, verdict_numbers, plan_numbers, SearchReturned, ExplainedReturned}
use Rattle.pirwodd.specs.Exports.{StartReturned, QueryReturned, CompareReturned, StepReturned}
use Rattle.pirwodd.specs.Laws.Calls.{
  Because,
  answer_given,
  answer_refused,
  differing,
  ending_of,
  same_exactly,
  differ_exactly,
  no_ending_exactly,
  ending_exactly,
  seen_all,
  told_answer,
  told-refusal,
}

-- 1. "every pack that keeps the layout accepted": written as document 01 lays it out, it is read, and as what was
-- written
pub accepted : (p : Pack) → PackFits p → pack_of (pack_bytes p) ≡ gives p
accepted = pack_back

-- and no other bytes are: a pack is accepted exactly where it keeps the layout, and it is written in one way
pub accepted_exactly : (bytes : List ℕ) → Bytes bytes → (p : Pack)
    → (pack_of bytes ≡ gives p) ↔ (PackFits p × (bytes ≡ pack_bytes p))
accepted_exactly = pack_exactly

-- 2. "two states over equally many characters and fluents are written as equal charts exactly when no chain of beliefs
-- of any length tells them apart"
pub equal_charts : (C : ℕ) (D D' : List ℕ) → C ≤ 6 → length D ≤ 24 → length D ≡ length D'
    → ((f : ℕ) → get_or D f 0 ≤ 128)
    → ((f : ℕ) → get_or D' f 0 ≤ 128)
    → (s s' : State) (bytes bytes' : List ℕ) → ChartOf C D s bytes → ChartOf C D' s' bytes'
    → (bytes ≡ bytes') ↔ ((chain : List ℕ) → Valid C chain → s chain ≡ s' chain)
equal_charts C D D' few slim alike small small' s s' bytes bytes' x y =
    charts_equal C D D' few slim alike small small' x y

module _ {pack : List ℕ} {p : Pack} (given : Given pack p) where
  abbrev theory : Theory
  theory = p.theory

  abbrev C : ℕ
  C = theory.characters

  -- what node 0 of a table means under this pack
  abbrev state : List Node → State
  state t = meaning C t 0

  -- "Any such table is read": bytes are accepted as a chart exactly where they are the node part of a pack, written in
  -- the one way
  pub chart_accepted_exactly : (bytes : List ℕ) → Bytes bytes → (t : List Node)
      → (chart_of theory bytes ≡ gives t) ↔ (ChartFits C theory.domains t × (bytes ≡ chart_bytes t))
  chart_accepted_exactly = chart_exactly theory (fits_limits p (given_fits given))

  -- 3. "A chart written and read back means the same"
  pub written_and_read : (s : State) (bytes : List ℕ) → ChartOf C theory.domains s bytes
      → (t : List Node) × (chart_of theory bytes ≡ gives t) × (state t ≡ s)
  written_and_read s bytes x = chart_means given x

  -- "It has at most 961 bytes"
  pub chart_of_961 : (s : State) (bytes : List ℕ) → ChartOf C theory.domains s bytes → length bytes ≤ 961
  chart_of_961 s bytes x = chart_bounded given x

  -- 4. Start gives the written chart of what node 0 means
  pub start_is : (chart work : List ℕ) → 961 ≤ length chart → 49152 ≤ length work
      → (bytes : List ℕ) × (start_reply pack chart work ≡ gives bytes)
      × ChartOf C theory.domains (state p.nodes) bytes
  start_is = start_writes given

  -- what Start hands back and leaves: the chart's bytes at the front of its buffer, their length, and the work buffer
  -- cleared
  pub start_call : {chart work chart' work' : List ℕ} {r : Result ℕ Refusal} → Started pack chart work chart' work' r
      → 961 ≤ length chart → 49152 ≤ length work
      → (bytes : List ℕ) × ChartOf C theory.domains (state p.nodes) bytes × (r ≡ Ok (length bytes))
      × (chart' ≡ bytes ++ drop (length bytes) chart) × (work' ≡ cleared work)
  unfolding result_after work_after
  start_call {chart} {work} {r = r} promise room enough =
      let (bytes, e, of) = start_is chart work room enough in (
        bytes,
        of,
        answer_given r (promise.answer ∙ ap (told length) e),
        promise.result ∙ ap (λ (y : Reply (List ℕ)). result_after y chart) e,
        promise.scratch ∙ ap (λ (y : Reply (List ℕ)). work_after y work) e,
      )

  -- the same of the exported call, lent a report of three entries or more
  pub start_exported : {chart work report chart' work' report' : List ℕ} {r : ℕ}
      → StartReturned pack chart work report chart' work' report' r
      → 961 ≤ length chart → 49152 ≤ length work → 3 ≤ length report
      → (bytes : List ℕ) × ChartOf C theory.domains (state p.nodes) bytes
      × (r ≡ 0) × (report' ≡ put (length bytes ∷ []) report) × (chart' ≡ bytes ++ drop (length bytes) chart)
      × (work' ≡ cleared work)
  unfolding result_after
  start_exported {chart} {work} {report} promise room enough three =
      let (bytes, e, of) = start_is chart work room enough in
      let e' = ap (start_reply pack chart) (seen_all report work three) ∙ e in
      let (zero, told-so, clear) = told_answer promise.returned (ap (told (λ bytes. length bytes ∷ [])) e') in
      (bytes, of, zero, told-so, promise.result ∙ ap (λ (y : Reply (List ℕ)). result_after y chart) e', clear)

  -- 5. Query gives the fluent's value where the chain leads
  pub query_is : (chart chain : List ℕ) (fluent : ℕ) (work : List ℕ) (t : List Node) → Chart theory chart t
      → Valid C chain → fluent < fluents theory → 49152 ≤ length work
      → query_reply pack chart chain fluent work ≡ gives (get_or (state t chain) fluent 0)
  query_is = query_says given

  -- what Query hands back
  pub query_call : {chart chain : List ℕ} {fluent : ℕ} {work work' : List ℕ} {r : Result ℕ Refusal}
      → Asked pack chart chain fluent work work' r
      → (t : List Node) → Chart theory chart t → Valid C chain → fluent < fluents theory → 49152 ≤ length work
      → (r ≡ Ok (get_or (state t chain) fluent 0)) × (work' ≡ cleared work)
  unfolding work_after
  query_call {chart} {chain} {fluent} {work} {r = r} promise t read valid there enough =
      let e = query_is chart chain fluent work t read valid there enough in
      (answer_given r (promise.answer ∙ e), promise.scratch ∙ ap (λ (y : Reply ℕ). work_after y work) e)

  -- the same of the exported call
  pub query_exported : {chart chain : List ℕ} {fluent : ℕ} {work report work' report' : List ℕ} {r : ℕ}
      → QueryReturned pack chart chain fluent work report work' report' r
      → (t : List Node) → Chart theory chart t → Valid C chain → fluent < fluents theory → 49152 ≤ length work
      → 3 ≤ length report
      → (r ≡ 0) × (report' ≡ put (get_or (state t chain) fluent 0 ∷ []) report) × (work' ≡ cleared work)
  query_exported {chart} {chain} {fluent} {work} {report} promise t read valid there enough three =
      let e = query_is chart chain fluent work t read valid there enough in
      told_answer promise.returned
      (ap (told (λ value. value ∷ [])) (ap (query_reply pack chart chain fluent) (seen_all report work three) ∙ e))

  -- 6. Compare gives the one verdict that is true of the two states, with a chain of at most 62 characters
  module _ (first second chain work : List ℕ) (t u : List Node) (one : Chart theory first t)
      (two : Chart theory second u) (room : 62 ≤ length chain) (enough : 49152 ≤ length work) where
    pub compare_is : (v : Verdict)
        → Compared C (state t) (state u) v ↔ (compare_reply pack first second chain work ≡ gives v)
    compare_is = compare_says given first second chain work t u one two room enough

    -- "The chain has at most 62 characters"
    pub compare_62 : (ch : List ℕ) (fluent : ℕ) → compare_reply pack first second chain work ≡ gives (differ ch fluent)
        → length ch ≤ 62
    compare_62 = compare_chain given first second chain work t u one two room enough

    -- what Compare hands back and leaves: "same" exactly where no chain tells the two states apart; else the first
    -- chain that does
    module _ {chain' work' : List ℕ} {r : Result (Option chart.Difference) Refusal}
        (promise : Comparison pack first second chain work chain' work' r) where
      pub compare_call_same : (r ≡ Ok None) ↔ ((ch : List ℕ) → Valid C ch → state t ch ≡ state u ch)
      compare_call_same =
          let said = compare_reply pack first second chain work in
          let x = same_exactly said chain promise.answer promise.result in (
            λ e ch valid. ap (λ (s : State). s ch) ((compare_is same).1 (x.0 e)),
            λ h. x.1 ((compare_is same).0 (one_meaning C t u h)),
          )

      -- the chain stands at the front of its buffer
      pub compare_call_differs : (n fluent : ℕ)
          → (r ≡ Ok (Some (differing n fluent)))
          ↔ ((ch : List ℕ) × (length ch ≡ n) × (chain' ≡ ch ++ drop n chain) × Differ C (state t) (state u) ch fluent)
      unfolding result_after
      compare_call_differs n fluent =
          let x = differ_exactly (compare_reply pack first second chain work) chain promise.answer
          promise.result n fluent in (
            λ e. let (ch, size, front, g) = x.0 e in (ch, size, front, (compare_is (differ ch fluent)).1 g),
            λ (ch, size, front, d). x.1 (ch, size, front, (compare_is (differ ch fluent)).0 d),
          )

    -- the same of the exported call: 0, or 1, the chain's length and the fluent
    pub compare_exported : {report chain' work' report' : List ℕ} {r : ℕ}
        → CompareReturned pack first second chain work report chain' work' report' r → 3 ≤ length report
        → (((ch : List ℕ) → Valid C ch → state t ch ≡ state u ch) × (r ≡ 0) × (report' ≡ put (0 ∷ []) report)
        × (chain' ≡ chain))
        ⊎ ((ch : List ℕ) × (fluent : ℕ) × Differ C (state t) (state u) ch fluent
        × (r ≡ 0) × (report' ≡ put (1 ∷ length ch ∷ fluent ∷ []) report) × (chain' ≡ ch ++ drop (length ch) chain))
    unfolding result_after
    compare_exported {report} {chain'} {work'} {report'} {r} promise three =
        go (compare_table C (fluents theory) t u) (compares given first second chain work t u one two room enough)
      where
        seen_so : compare_reply pack first second chain (seen report work) ≡ compare_reply pack first second chain work
        seen_so = ap (compare_reply pack first second chain) (seen_all report work three)

        go : (v : Verdict) → compare_reply pack first second chain work ≡ gives v
            → (((ch : List ℕ) → Valid C ch → state t ch ≡ state u ch) × (r ≡ 0) × (report' ≡ put (0 ∷ []) report)
            × (chain' ≡ chain))
            ⊎ ((ch : List ℕ) × (fluent : ℕ) × Differ C (state t) (state u) ch fluent
            × (r ≡ 0) × (report' ≡ put (1 ∷ length ch ∷ fluent ∷ []) report) × (chain' ≡ ch ++ drop (length ch) chain))
        go same e =
            let (zero, told-so, clear) = told_answer promise.returned
            (ap (told (λ v. match_numbers (difference v))) (seen_so ∙ e)) in inl (
              λ ch valid. ap (λ (s : State). s ch) ((compare_is same).1 e),
              zero,
              told-so,
              promise.result ∙ ap (λ (y : Reply Verdict). result_after (told chain_of y) chain) (seen_so ∙ e),
            )
        go (differ ch fluent) e =
            let (zero, told-so, clear) = told_answer promise.returned
            (ap (told (λ v. match_numbers (difference v))) (seen_so ∙ e)) in
            inr (
              ch,
              fluent,
              (compare_is (differ ch fluent)).1 e,
              zero,
              told-so,
              promise.result ∙ ap (λ (y : Reply Verdict). result_after (told chain_of y) chain) (seen_so ∙ e),
            )

  -- 7. Step gives the written chart of the state that a playable action leaves, and elsewhere the number that the
  -- definition says
  module _ (chart : List ℕ) (t : List Node) (read : Chart theory chart t) (a : ℕ) (there : a < length theory.actions)
      (out work : List ℕ) (room : 961 ≤ length out) (enough : 49152 ≤ length work) where
    pub step_is : ((s' : State) × Plays theory (state t) a s' × (bytes : List ℕ)
        × (step_reply pack chart a out work ≡ gives bytes) × ChartOf C theory.domains s' bytes)
        ⊎ ((n : ℕ) × Refuses theory (state t) a n × (step_reply pack chart a out work ≡ refuses n 0))
    step_is = step_writes given chart t read a there out work room enough

    -- "exactly then Step, lent what it needs, gives a chart"
    pub step_exactly : ((bytes : List ℕ) × (step_reply pack chart a out work ≡ gives bytes))
        ↔ ((s' : State) × Plays theory (state t) a s')
    step_exactly = (
      λ x. ⊎_elim (λ (l : (s' : State) × Plays theory (state t) a s' × (bytes : List ℕ)
          × (step_reply pack chart a out work ≡ gives bytes) × ChartOf C theory.domains s' bytes). (l.0, l.1))
          (λ (r : (n : ℕ) × Refuses theory (state t) a n × (step_reply pack chart a out work ≡ refuses n 0)).
          never_gives (sym r.2 ∙ x.1)) step_is,
      λ y. ⊎_elim (λ (l : (s' : State) × Plays theory (state t) a s' × (bytes : List ℕ)
          × (step_reply pack chart a out work ≡ gives bytes) × ChartOf C theory.domains s' bytes). (l.2, l.3))
          (λ (r : (n : ℕ) × Refuses theory (state t) a n × (step_reply pack chart a out work ≡ refuses n 0)).
          absurd (plays_refuses y.1 r.1)) step_is,
    )

    -- what Step hands back and leaves: the chart's bytes at the front of its buffer and their length, or the number and
    -- the buffer as it was
    pub step_call : {out' work' : List ℕ} {r : Result ℕ Refusal} → Stepped pack chart a out work out' work' r
        → ((s' : State) × Plays theory (state t) a s' × (bytes : List ℕ) × ChartOf C theory.domains s' bytes
        × (r ≡ Ok (length bytes)) × (out' ≡ bytes ++ drop (length bytes) out))
        ⊎ ((n : ℕ) × Refuses theory (state t) a n × Because r n 0 × (out' ≡ out))
    unfolding result_after
    step_call {r = r} promise = ⊎_elim
        (λ (l : (s' : State) × Plays theory (state t) a s' × (bytes : List ℕ)
        × (step_reply pack chart a out work ≡ gives bytes) × ChartOf C theory.domains s' bytes).
        let (s', plays, bytes, e, of) = l in
        inl (
          s',
          plays,
          bytes,
          of,
          answer_given r (promise.answer ∙ ap (told length) e),
          promise.result ∙ ap (λ (y : Reply (List ℕ)). result_after y out) e,
        ))
        (λ (q : (n : ℕ) × Refuses theory (state t) a n × (step_reply pack chart a out work ≡ refuses n 0)).
        let (n, why, e) = q in
        inr (
          n,
          why,
          answer_refused r (promise.answer ∙ ap (told length) e),
          promise.result ∙ ap (λ (y : Reply (List ℕ)). result_after y out) e,
        ))
        step_is

    -- the same of the exported call
    pub step_exported : {report out' work' report' : List ℕ} {r : ℕ}
        → StepReturned pack chart a out work report out' work' report' r → 3 ≤ length report
        → ((s' : State) × Plays theory (state t) a s' × (bytes : List ℕ) × ChartOf C theory.domains s' bytes
        × (r ≡ 0) × (report' ≡ put (length bytes ∷ []) report) × (out' ≡ bytes ++ drop (length bytes) out))
        ⊎ ((n : ℕ) × Refuses theory (state t) a n × (r ≡ n) × (report' ≡ put (0 ∷ []) report) × (out' ≡ out))
    unfolding result_after
    step_exported {report} promise three = ⊎_elim
        (λ (l : (s' : State) × Plays theory (state t) a s' × (bytes : List ℕ)
        × (step_reply pack chart a out work ≡ gives bytes) × ChartOf C theory.domains s' bytes).
        let (s', plays, bytes, e, of) = l in
        let e' = ap (step_reply pack chart a out) (seen_all report work three) ∙ e in
        let (zero, told-so, clear) = told_answer promise.returned (ap (told (λ bytes. length bytes ∷ [])) e') in
        inl (s', plays, bytes, of, zero, told-so, promise.result ∙ ap (λ (y : Reply (List ℕ)). result_after y out) e'))
        (λ (q : (n : ℕ) × Refuses theory (state t) a n × (step_reply pack chart a out work ≡ refuses n 0)).
        let (n, why, e) = q in
        let e' = ap (step_reply pack chart a out) (seen_all report work three) ∙ e in
        let (number, told-so) = told-refusal promise.returned (ap (told (λ bytes. length bytes ∷ [])) e') in
        inr (n, why, number, told-so, promise.result ∙ ap (λ (y : Reply (List ℕ)). result_after y out) e'))
        step_is

  -- 8. Explained says yes exactly where the definition over chains does, and no elsewhere
  module _ (chart : List ℕ) (t : List Node) (read : Chart theory chart t) (c a K e : ℕ) (who : c < C)
      (there : a < length theory.actions) (k1 : 1 ≤ K) (k6 : K ≤ 6) (e3 : e ≤ 3) (work : List ℕ)
      (enough : 49152 ≤ length work) where
    pub explained_is : (explained_reply pack chart c a K e work ≡ gives true) ↔ Explained theory K e c a (state t)
    explained_is = explained_says given chart t read c a K e who there k1 k6 e3 work enough

    -- "otherwise it is no"
    pub unexplained_is : (explained_reply pack chart c a K e work ≡ gives false)
        ↔ (¬ Explained theory K e c a (state t))
    unexplained_is = explained_denies given chart t read c a K e who there k1 k6 e3 work enough

    -- what Explained hands back
    pub explained_call : {work' : List ℕ} {r : Result Bool Refusal} → Judgement pack chart c a K e work work' r
        → ((r ≡ Ok true) ↔ Explained theory K e c a (state t))
        × ((r ≡ Ok false) ↔ (¬ Explained theory K e c a (state t)))
    explained_call {r = r} promise = (
      (
        λ q. explained_is.0 (sym promise.answer ∙ ap replied q),
        λ x. answer_given r (promise.answer ∙ explained_is.1 x),
      ),
      (
        λ q. unexplained_is.0 (sym promise.answer ∙ ap replied q),
        λ x. answer_given r (promise.answer ∙ unexplained_is.1 x),
      ),
    )

    -- the same of the exported call: 1 for yes, 0 for no
    pub explained_exported : {report work' report' : List ℕ} {r : ℕ}
        → ExplainedReturned pack chart c a K e work report work' report' r → 3 ≤ length report
        → (r ≡ 0) × ((Explained theory K e c a (state t) × (report' ≡ put (1 ∷ []) report))
        ⊎ ((¬ Explained theory K e c a (state t)) × (report' ≡ put (0 ∷ []) report)))
    explained_exported {report} {work'} {report'} {r} promise three =
        go (explained_table theory K e c a t) (explains given chart t read c a K e who there k1 k6 e3 work enough)
      where
        go : (b : Bool) → explained_reply pack chart c a K e work ≡ gives b
            → (r ≡ 0) × ((Explained theory K e c a (state t) × (report' ≡ put (1 ∷ []) report))
            ⊎ ((¬ Explained theory K e c a (state t)) × (report' ≡ put (0 ∷ []) report)))
        go true q =
            let (zero, told-so, clear) = told_answer promise.returned
            (ap (told verdict_numbers) (ap (explained_reply pack chart c a K e) (seen_all report work three) ∙ q)) in
            (zero, inl (explained_is.0 q, told-so))
        go false q =
            let (zero, told-so, clear) = told_answer promise.returned
            (ap (told verdict_numbers) (ap (explained_reply pack chart c a K e) (seen_all report work three) ∙ q)) in
            (zero, inr (unexplained_is.0 q, told-so))

  -- 9. Demand 3. "No ending" is said exactly when no list is an ending; a list is found exactly when it is the shortest
  -- ending, then the earliest, and it is given with the author's utility ("worth") at the start and at its end
  module _ (T K E : ℕ) (t1 : 1 ≤ T) (t8 : T ≤ 8) (k1 : 1 ≤ K) (k6 : K ≤ 6) (e3 : E ≤ 3) (list work : List ℕ)
      (room : 8 ≤ length list) (enough : 49152 ≤ length work) where
    pub no_ending : (search_reply pack T K E list work ≡ refuses 13 0)
        ↔ ((actions : List ℕ) → ¬ Ending theory T K E (state p.nodes) actions)
    no_ending = search_says given T K E t1 t8 k1 k6 e3 list work room enough none

    -- and what is found
    pub found_exactly : (actions : List ℕ) (before after : ℕ)
        → (search_reply pack T K E list work ≡ gives (record { list = actions; before = before; after = after }))
        ↔ Sought theory T K E (state p.nodes) actions before after
    found_exactly actions before after =
        search_says given T K E t1 t8 k1 k6 e3 list work room enough (ending actions before after)

    -- one of the two, always
    pub found_or_none : (search_reply pack T K E list work ≡ refuses 13 0)
        ⊎ ((actions : List ℕ) × (before : ℕ) × (after : ℕ)
        × (search_reply pack T K E list work ≡ gives (record { list = actions; before = before; after = after })))
    found_or_none = go (search_table theory T K E p.nodes) (searches given T K E t1 t8 k1 k6 e3 list work room enough)
      where
        go : (x : Answer) → search_reply pack T K E list work ≡ answer_reply x
            → (search_reply pack T K E list work ≡ refuses 13 0)
            ⊎ ((actions : List ℕ) × (before : ℕ) × (after : ℕ)
            × (search_reply pack T K E list work ≡ gives (record { list = actions; before = before; after = after })))
        go none e = inl e
        go (ending actions before after) e = inr (actions, before, after, e)

    -- Demand 3, of what Search hands back and leaves in the list's buffer
    module _ {list' work' : List ℕ} {r : Result planner.Ending Refusal}
        (promise : Searching pack T K E list work list' work' r) where
      -- 13 exactly where no list is an ending
      pub search_call_none : (r ≡ Err NoEnding)
          ↔ ((actions : List ℕ) → ¬ Ending theory T K E (state p.nodes) actions)
      search_call_none =
          let x = no_ending_exactly (search_reply pack T K E list work) list promise.answer promise.result in
          (λ e. no_ending.0 (x.0 e), λ h. x.1 (no_ending.1 h))

      -- a list of n actions at the buffer's front that is the shortest ending, then the earliest, and the author's
      -- utility before and after it
      pub search_call_found : (n before after : ℕ) → (r ≡ Ok (ending_of n before after))
          ↔ ((actions : List ℕ) × (length actions ≡ n) × (list' ≡ actions ++ drop n list)
          × Sought theory T K E (state p.nodes) actions before after)
      search_call_found n before after =
          let x = ending_exactly (search_reply pack T K E list work) list promise.answer
          promise.result n before after in (
            λ e. let (actions, size, front, g) = x.0 e in
                (actions, size, front, (found_exactly actions before after).0 g),
            λ (actions, size, front, sought). x.1 (actions, size, front, (found_exactly actions before after).1 sought),
          )

      -- one of the two always
      pub search_call_total : (r ≡ Err NoEnding)
          ⊎ ((n : ℕ) × (before : ℕ) × (after : ℕ) × (r ≡ Ok (ending_of n before after)))
      unfolding result_after
      search_call_total = ⊎_elim
          (λ (e : search_reply pack T K E list work ≡ refuses 13 0).
          inl ((no_ending_exactly (search_reply pack T K E list work) list promise.answer promise.result).1 e))
          (λ (g : (actions : List ℕ) × (before : ℕ) × (after : ℕ) × (search_reply pack T K E list work ≡ gives (record {
            list = actions;
            before = before;
            after = after;
          }))).
          let (actions, before, after, e) = g in
          inr (
            length actions,
            before,
            after,
            (ending_exactly (search_reply pack T K E list work) list promise.answer promise.result
                (length actions) before after).1 (
                  actions,
                  refl,
                  promise.result ∙ ap (λ (y : Reply Plan). result_after (told (λ p. p.list) y) list) e,
                  e,
                ),
          ))
          found_or_none

    -- the same of the exported call: 13, or 0 with the list's length and both utilities
    pub search_exported : {report list' work' report' : List ℕ} {r : ℕ}
        → SearchReturned pack T K E list work report list' work' report' r → 3 ≤ length report
        → (((actions : List ℕ) → ¬ Ending theory T K E (state p.nodes) actions) × (r ≡ 13)
        × (report' ≡ put (0 ∷ []) report) × (list' ≡ list))
        ⊎ ((actions : List ℕ) × (before : ℕ) × (after : ℕ) × Sought theory T K E (state p.nodes) actions before after
        × (r ≡ 0) × (report' ≡ put (length actions ∷ before ∷ after ∷ []) report)
        × (list' ≡ actions ++ drop (length actions) list))
    unfolding result_after
    search_exported {report} promise three = ⊎_elim
        (λ (e : search_reply pack T K E list work ≡ refuses 13 0).
        let e' = ap (search_reply pack T K E list) (seen_all report work three) ∙ e in
        let (number, told-so) = told-refusal promise.returned (ap (told (λ p. plan_numbers (summary p))) e') in
        inl (
          no_ending.0 e,
          number,
          told-so,
          promise.result ∙ ap (λ (y : Reply Plan). result_after (told (λ p. p.list) y) list) e',
        ))
        (λ (g : (actions : List ℕ) × (before : ℕ) × (after : ℕ) × (search_reply pack T K E list work ≡ gives (record {
          list = actions;
          before = before;
          after = after;
        }))).
        let (actions, before, after, e) = g in
        let e' = ap (search_reply pack T K E list) (seen_all report work three) ∙ e in
        let (zero, told-so, clear) = told_answer promise.returned (ap (told (λ p. plan_numbers (summary p))) e') in
        inr (
          actions,
          before,
          after,
          (found_exactly actions before after).0 e,
          zero,
          told-so,
          promise.result ∙ ap (λ (y : Reply Plan). result_after (told (λ p. p.list) y) list) e',
        ))
        found_or_none

-- 10. "accepted packs that differ in their nodes alone, and whose node 0 means the same, get the same from Search under
-- the same limits and with buffers long enough"
pub nodes_alone : {pack pack' : List ℕ} {p p' : Pack} → Given pack p → Given pack' p' → p'.theory ≡ p.theory
    → ((chain : List ℕ) → Valid p.theory.characters chain
    → meaning p.theory.characters p.nodes 0 chain ≡ meaning p.theory.characters p'.nodes 0 chain)
    → (T K E : ℕ) (list work list' work' : List ℕ) → 8 ≤ length list → 49152 ≤ length work → 8 ≤ length list'
    → 49152 ≤ length work'
    → search_reply pack T K E list work ≡ search_reply pack' T K E list' work'
unfolding search_reply
nodes_alone {p = p} {p' = p'} g g' theories means T K E list work list' work' h w h' w' =
    let limits : Bool = story_limit T && (foresight_limit K && nesting_limit E) in
    let C = p.theory.characters in
    let there' = subst (λ (q : Theory). PackFits (record { theory = q; nodes = p'.nodes })) theories (given_fits g') in
    let alike = search_table_same p.theory p.nodes p'.nodes
    (fits_table C p.theory.domains p.nodes (given_fits g).nodes)
    (fits_table C p.theory.domains p'.nodes there'.nodes)
    (one_meaning C p.nodes p'.nodes means) T K E in
    call_ranged (fits 8 list && fits 49152 work) (λ q. limits)
    (λ p tables. answer_reply (search_table p.theory T K E p.nodes))
    (both_true (long_enough 8 list h) (long_enough 49152 work w)) g
    ∙ ap (λ (a : Answer). pick limits (answer_reply a) (refuses 9 0))
    (alike ∙ ap (λ (q : Theory). search_table q T K E p'.nodes) (sym theories))
    ∙ sym (call_ranged (fits 8 list' && fits 49152 work') (λ q. limits)
    (λ p tables. answer_reply (search_table p.theory T K E p.nodes))
    (both_true (long_enough 8 list' h') (long_enough 49152 work' w')) g')

-- 11. Nothing is left free: of a state and an action there is at most one outcome, one state that is left, and of a
-- state and limits one answer of Search
pub one_outcome : (p : Theory) (s : State) (a : ℕ) (o o' : Outcome) → Steps p s a o → Steps p s a o' → o ≡ o'
one_outcome p s a o o' x y = steps-one x y

-- one state that is left
pub one_state : (p : Theory) (s : State) (a : ℕ) (t u : State) → Plays p s a t → Plays p s a u → t ≡ u
one_state p s a t u x y = plays_one x y

-- one answer of Search
pub one_answer : (p : Theory) (T K E : ℕ) (s : State) (r r' : Answer) → Searched p T K E s r → Searched p T K E s r'
    → r ≡ r'
one_answer = searched_one

-- An ending is one of the state alone: of two tables that no chain of characters that are there tells apart, the same
-- lists are endings
pub ending_of_state : (p : Theory) (T K E : ℕ) (t u : List Node)
    → ((chain : List ℕ) → Valid p.characters chain
    → meaning p.characters t 0 chain ≡ meaning p.characters u 0 chain)
    → (list : List ℕ)
    → Ending p T K E (meaning p.characters t 0) list ↔ Ending p T K E (meaning p.characters u 0) list
ending_of_state p T K E t u h list =
    let alike = one_meaning p.characters t u h in (
      λ x. subst (λ (s : State). Ending p T K E s list) alike x,
      λ x. subst (λ (s : State). Ending p T K E s list) (sym alike) x,
    )

-- 12. The starred readings of P, the rows of 1 and 5 among them
pub readings_of_P : Each Says starred
readings_of_P = readings
