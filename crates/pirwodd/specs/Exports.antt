-- What each exported call promises, on every input: what is told of its answer, and what it leaves in every lent
-- buffer. A buffer's name with ' is what it holds at exit.
use Rattle.std.specs.Prelude.{ℕ, ◌≡◌, Bool, List, [], ◌∷◌, length}
use Rattle.pack.specs.Reading.{pick, told}
use Rattle.chart.specs.Call.{result_after}
use Rattle.chart.specs.Replies.{start_reply, query_reply, compare_reply, chain_of}
use Rattle.chart.specs.Promises.{Difference, nowhere, after, difference}
use Rattle.transition.specs.Replies.{step_reply}
use Rattle.planner.specs.Replies.{explained_reply, search_reply}
use Rattle.planner.specs.Promises.{Summary, summary}
use Rattle.pirwodd.specs.Report.{seen, Returned}

-- one number
abbrev pub one : ℕ → List ℕ
one n = n ∷ []

-- pirwodd_start(pack, chart out, work, report): "its length is given with it"
pub record StartReturned (pack chart work report chart' work' report' : List ℕ) (r : ℕ) : Type 0 where
  pub returned : Returned
      (told (λ bytes. one (length bytes)) (start_reply pack chart (seen report work))) work report work' report' r
  pub result : chart' ≡ result_after (start_reply pack chart (seen report work)) chart

-- pirwodd_query(pack, chart, chain, fluent, work, report): "gives its value where the chain leads"
pub record QueryReturned (pack chart chain : List ℕ) (fluent : ℕ) (work report work' report' : List ℕ)
    (r : ℕ) : Type 0 where
  pub returned : Returned (told one (query_reply pack chart chain fluent (seen report work)))
      work report work' report' r

-- 0 for "same"; else 1, the chain's length and the fluent
abbrev pub match_numbers : Difference → List ℕ
match_numbers nowhere = 0 ∷ []
match_numbers (after count fluent) = 1 ∷ count ∷ fluent ∷ []

-- pirwodd_compare(pack, first, second, chain out, work, report): "same, or the shortest chain that leads to a
-- difference"
pub record CompareReturned (pack first second chain work report chain' work' report' : List ℕ) (r : ℕ) : Type 0 where
  pub returned : Returned (told (λ v. match_numbers (difference v))
      (compare_reply pack first second chain (seen report work))) work report work' report' r
  pub result : chain' ≡ result_after (told chain_of (compare_reply pack first second chain (seen report work))) chain

-- pirwodd_step(pack, chart, action, chart out, work, report): "its length is given with it"
pub record StepReturned (pack chart : List ℕ) (action : ℕ) (out work report out' work' report' : List ℕ)
    (r : ℕ) : Type 0 where
  pub returned : Returned (told (λ bytes. one (length bytes)) (step_reply pack chart action out (seen report work)))
      work report work' report' r
  pub result : out' ≡ result_after (step_reply pack chart action out (seen report work)) out

-- 1 for yes, 0 for no
abbrev pub verdict_numbers : Bool → List ℕ
verdict_numbers verdict = one (pick verdict 1 0)

-- pirwodd_explained(pack, chart, character, action, K, e, work, report): "is yes if .. otherwise it is no"
pub record ExplainedReturned (pack chart : List ℕ) (character action foresight nesting : ℕ)
    (work report work' report' : List ℕ) (r : ℕ) : Type 0 where
  pub returned : Returned (told verdict_numbers
      (explained_reply pack chart character action foresight nesting (seen report work))) work report work' report' r

-- the list's length, and the author's utility at the start and at its end
abbrev pub plan_numbers : Summary → List ℕ
plan_numbers s = s.count ∷ s.before ∷ s.after ∷ []

-- pirwodd_search(pack, T, K, E, list out, work, report): "the length, the actions (8 bytes lent) and both worths"
pub record SearchReturned (pack : List ℕ) (story foresight nesting : ℕ) (list work report list' work' report' : List ℕ)
    (r : ℕ) : Type 0 where
  pub returned : Returned (told (λ p. plan_numbers (summary p))
      (search_reply pack story foresight nesting list (seen report work))) work report work' report' r
  pub result : list'
      ≡ result_after (told (λ p. p.list) (search_reply pack story foresight nesting list (seen report work))) list
