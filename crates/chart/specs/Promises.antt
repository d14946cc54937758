-- What Start, Query and Compare promise of every call: the answer, and every lent buffer at its end, as equations with
-- the reply. A buffer's name with ' is what it holds at exit. Each promise determines answer and buffers, on every
-- input; `Theorems` of the planner layer says what the replies mean over chains.
use Rattle.std.specs.Prelude.{ℕ, ◌≡◌, List, length, Option, Some, None, Result, Ok, Err}
use Rattle.pack.specs.Reading.{Reply, gives, refuses, told}
use Rattle.pack.specs.Refusals.{refusal_number, place_of}
use Rattle.pack.specs.Refusals.{replied}
use Rattle.pack.specs.declared.refusal.Refusal.{Refusal}
use Rattle.chart.specs.declared.Difference as found
use Rattle.chart.specs.Compare.{Verdict, same, differ}
use Rattle.chart.specs.Call.{result_after, work_after}
use Rattle.chart.specs.Replies.{start_reply, query_reply, compare_reply, chain_of}

-- what is said of a difference: the chain's length and the fluent
pub data Difference : Type 0 where
  nowhere : Difference
  after : (count fluent : ℕ) → Difference

-- of each verdict
abbrev pub difference : Verdict → Difference
difference same = nowhere
difference (differ chain fluent) = after (length chain) fluent

-- Compare: "same, or .. chain .. and .. fluent"
abbrev pub compare_said : Result (Option found.Difference) Refusal → Reply Difference
compare_said (Ok None) = gives nowhere
compare_said (Ok (Some d)) = gives (after d.length d.fluent)
compare_said (Err why) = refuses (refusal_number why) (place_of why)

-- Start(pack, chart out, work)
pub record Started (pack chart work chart' work' : List ℕ) (r : Result ℕ Refusal) : Type 0 where
  pub answer : replied r ≡ told length (start_reply pack chart work)
  pub result : chart' ≡ result_after (start_reply pack chart work) chart
  pub scratch : work' ≡ work_after (start_reply pack chart work) work

-- Query(pack, chart, chain, fluent, work)
pub record Asked (pack chart chain : List ℕ) (fluent : ℕ) (work work' : List ℕ) (r : Result ℕ Refusal) : Type 0 where
  pub answer : replied r ≡ query_reply pack chart chain fluent work
  pub scratch : work' ≡ work_after (query_reply pack chart chain fluent work) work

-- Compare(pack, first, second, chain out, work)
pub record Comparison (pack first second chain work chain' work' : List ℕ)
    (r : Result (Option found.Difference) Refusal) : Type 0 where
  pub answer : compare_said r ≡ told difference (compare_reply pack first second chain work)
  pub result : chain' ≡ result_after (told chain_of (compare_reply pack first second chain work)) chain
  pub scratch : work' ≡ work_after (compare_reply pack first second chain work) work
