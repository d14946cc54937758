-- What is lent to the call behind an exported one, what comes back, and what its answer leaves in the report. Assumes nothing.
use Prim.Native.Nat.{ℕ}
use mathlib.Core.Path.{◌≡◌, refl, sym, ap, ◌∙◌, subst}
use mathlib.Core.Bool.{Bool, true, false}
use mathlib.Core.List.{List, [], ◌∷◌, ◌++◌}
use native.Mathlib.Omega.{arith}
use lib.ListN.{length, take, drop, set, replicate, length-append, length-replicate}
use Rattle.pack.specs.Reading.{Reply, gives, refuses, pick, told}
use Rattle.std.specs.Prelude.{Option, Some, None, Result, Ok, Err}
use Rattle.pack.specs.Refusals.{replied}
use Rattle.pack.specs.declared.refusal.Refusal.{Refusal}
use Rattle.chart.specs.declared.Difference as chart
use Rattle.chart.specs.Call.{fits, work_room, by_checks, cleared, work_after}
use Rattle.chart.specs.Replies.{start_reply, query_reply, compare_reply}
use Rattle.chart.specs.Promises.{difference, compare_said, Started, Asked, Comparison}
use Rattle.transition.specs.Replies.{step_reply}
use Rattle.transition.specs.Promises.{Stepped}
use Rattle.planner.specs.declared.Ending as planner
use Rattle.planner.specs.Replies.{explained_reply, search_reply}
use Rattle.planner.specs.Promises.{search_said, summary, Judgement, Searching}
use Rattle.pirwodd.specs.Report.{report_room, seen, put, number_of, entries, Returned}
use Rattle.pirwodd.specs.Told.{difference_numbers, ending_numbers}
use Rattle.pirwodd.specs.Exports.{one, match_numbers, verdict_numbers, plan_numbers, StartReturned, QueryReturned, CompareReturned, StepReturned, ExplainedReturned, SearchReturned}

-- one store is one number put
pub put_one : (n : ℕ) (report : List ℕ) → set report 0 n ≡ put (n ∷ []) report
unfolding put
put_one n [] = refl
put_one n (entry ∷ report) = refl

-- three stores are three numbers put
pub put_three : (a b c : ℕ) (report : List ℕ) → set (set (set report 0 a) 1 b) 2 c ≡ put (a ∷ b ∷ c ∷ []) report
unfolding put
put_three a b c [] = refl
put_three a b c (x ∷ []) = refl
put_three a b c (x ∷ y ∷ []) = refl
put_three a b c (x ∷ y ∷ z ∷ report) = refl

take_all : (work : List ℕ) → take (length work) work ≡ work
take_all [] = refl
take_all (x ∷ work) = ap {B = List ℕ} (λ r. x ∷ r) (take_all work)

drop_all : (work : List ℕ) → drop (length work) work ≡ []
drop_all [] = refl
drop_all (x ∷ work) = drop_all work

append-nil : (work : List ℕ) → work ++ [] ≡ work
append-nil [] = refl
append-nil (x ∷ work) = ap {B = List ℕ} (λ r. x ∷ r) (append-nil work)

told-told : {A B C : Type 0} (f : B → C) (g : A → B) (x : Reply A) → told f (told g x) ≡ told (λ a. f (g a)) x
told-told f g (gives a) = refl
told-told f g (refuses k p) = refl

told-after : {A B : Type 0} (f : A → B) (x : Reply A) (work : List ℕ) → work_after x work ≡ work_after (told f x) work
unfolding work_after
told-after f (gives a) work = refl
told-after f (refuses k p) work = refl

-- how much of the work buffer is lent
abbrev room : (b : Bool) (work : List ℕ) → ℕ
room b work = pick b (length work) 0

lent_seen : (b : Bool) (work : List ℕ) → take (room b work) work ≡ pick b work []
lent_seen true work = take_all work
lent_seen false work = refl

-- no bytes cannot be cleared
none_cleared : {B : Type 0} → [] ≡ cleared [] → B
none_cleared e = absurd (omega (arith, ap length e, length-append {A = ℕ} (replicate work_room 0) (drop work_room []), length-replicate {A = ℕ} work_room 0))

-- a call that leaves no bytes of none leaves every work buffer as it was
unchanged : {A : Type 0} (x : Reply A) (work : List ℕ) → [] ≡ work_after x [] → work ≡ work_after x work
unfolding work_after
unchanged (gives a) work e = none_cleared e
unchanged (refuses k p) work e = at (by_checks k) e
  where
    at : (b : Bool) → [] ≡ pick b [] (cleared []) → work ≡ pick b work (cleared work)
    at true e = refl
    at false e = none_cleared e

empty : (part : List ℕ) → length part ≡ 0 → part ≡ []
empty [] e = refl
empty (x ∷ part) e = absurd (omega arith)

-- the whole buffer, once the part lent is back
whole_back : {A : Type 0} (x : Reply A) (b : Bool) (work part : List ℕ) → part ≡ work_after x (pick b work []) → length part ≡ length (take (room b work) work)
    → part ++ drop (room b work) work ≡ work_after x work
whole_back x true work part e h = ap {B = List ℕ} (λ (l : List ℕ). part ++ l) (drop_all work) ∙ append-nil part ∙ e
whole_back x false work part e h = let n : part ≡ [] = empty part h in ap {B = List ℕ} (λ (l : List ℕ). l ++ work) n ∙ unchanged x work (sym n ∙ e)

module _ (report work : List ℕ) (k : ℕ) (lends : k ≡ room (fits report_room report) work) where
  -- what is lent is what the call sees
  sees : take k work ≡ seen report work
  sees = ap (λ (k : ℕ). take k work) lends ∙ lent_seen (fits report_room report) work

  module _ (part report' : List ℕ) (r : ℕ) (long : length part ≡ length (take k work)) where
    returned : {A : Type 0} (reply : Reply A) (tells : A → List ℕ) (said : Reply (List ℕ)) → told tells reply ≡ said → part ≡ work_after reply (seen report work)
        → r ≡ number_of said → report' ≡ put (entries said) report → Returned (told tells reply) work report (part ++ drop k work) report' r
    returned reply tells said e after n t = record {
      number = n ∙ ap number_of (sym e);
      told = t ∙ ap (λ (x : Reply (List ℕ)). put (entries x) report) (sym e);
      scratch = ap {B = List ℕ} (λ (k : ℕ). part ++ drop k work) lends
          ∙ whole_back reply (fits report_room report) work part after (long ∙ ap (λ (k : ℕ). length (take k work)) lends)
          ∙ told-after tells reply work;
    }

    -- of a chart that was written its length is told
    charted : (reply : Reply (List ℕ)) (x : Result ℕ Refusal) → replied x ≡ told length reply → part ≡ work_after reply (seen report work)
        → r ≡ number_of (told one (replied x)) → report' ≡ put (entries (told one (replied x))) report → Returned (told (λ bytes. one (length bytes)) reply) work report (part ++ drop k work) report' r
    charted reply x answer = returned reply (λ bytes. one (length bytes)) (told one (replied x)) (sym (told-told one length reply) ∙ ap (told one) (sym answer))

    pub start_returned : {pack chart chart' : List ℕ} {x : Result ℕ Refusal} → Started pack chart (take k work) chart' part x
        → r ≡ number_of (told one (replied x)) → report' ≡ put (entries (told one (replied x))) report → StartReturned pack chart work report chart' (part ++ drop k work) report' r
    start_returned {pack} {chart} {chart'} {x} promise n t =
        let p = subst (λ (w : List ℕ). Started pack chart w chart' part x) sees promise in
        record { returned = charted (start_reply pack chart (seen report work)) x p.answer p.scratch n t; result = p.result }

    pub step_returned : {pack chart : List ℕ} {action played : ℕ} {out out' : List ℕ} {x : Result ℕ Refusal} → action ≡ played → Stepped pack chart played out (take k work) out' part x
        → r ≡ number_of (told one (replied x)) → report' ≡ put (entries (told one (replied x))) report → StepReturned pack chart action out work report out' (part ++ drop k work) report' r
    step_returned {pack} {chart} {action} {played} {out} {out'} {x} same promise n t =
        let p = subst (λ (w : List ℕ). Stepped pack chart action out w out' part x) sees (subst (λ (a : ℕ). Stepped pack chart a out (take k work) out' part x) (sym same) promise) in
        record { returned = charted (step_reply pack chart action out (seen report work)) x p.answer p.scratch n t; result = p.result }

    pub query_returned : {pack chart chain : List ℕ} {fluent asked : ℕ} {x : Result ℕ Refusal} → fluent ≡ asked → Asked pack chart chain asked (take k work) part x
        → r ≡ number_of (told one (replied x)) → report' ≡ put (entries (told one (replied x))) report → QueryReturned pack chart chain fluent work report (part ++ drop k work) report' r
    query_returned {pack} {chart} {chain} {fluent} {asked} {x} same promise n t =
        let p = subst (λ (w : List ℕ). Asked pack chart chain fluent w part x) sees (subst (λ (f : ℕ). Asked pack chart chain f (take k work) part x) (sym same) promise) in
        let reply = query_reply pack chart chain fluent (seen report work) in
        record { returned = returned reply one (told one (replied x)) (ap (told one) (sym p.answer)) p.scratch n t }

    -- the numbers of a comparison are those of what is said of it
    compared : (x : Result (Option chart.Difference) Refusal) → told match_numbers (compare_said x) ≡ told difference_numbers (replied x)
    compared (Ok None) = refl
    compared (Ok (Some d)) = refl
    compared (Err why) = refl

    pub compare_returned : {pack first second chain chain' : List ℕ} {x : Result (Option chart.Difference) Refusal} → Comparison pack first second chain (take k work) chain' part x
        → r ≡ number_of (told difference_numbers (replied x)) → report' ≡ put (entries (told difference_numbers (replied x))) report
        → CompareReturned pack first second chain work report chain' (part ++ drop k work) report' r
    compare_returned {pack} {first} {second} {chain} {chain'} {x} promise n t =
        let p = subst (λ (w : List ℕ). Comparison pack first second chain w chain' part x) sees promise in
        let reply = compare_reply pack first second chain (seen report work) in
        record {
          returned = returned reply (λ v. match_numbers (difference v)) (told difference_numbers (replied x))
              (sym (told-told match_numbers difference reply) ∙ ap (told match_numbers) (sym p.answer) ∙ compared x) p.scratch n t;
          result = p.result;
        }

    pub explained_returned : {pack chart : List ℕ} {character action foresight nesting character₁ action₁ foresight₁ nesting₁ : ℕ} {x : Result Bool Refusal}
        → character ≡ character₁ → action ≡ action₁ → foresight ≡ foresight₁ → nesting ≡ nesting₁ → Judgement pack chart character₁ action₁ foresight₁ nesting₁ (take k work) part x
        → r ≡ number_of (told verdict_numbers (replied x)) → report' ≡ put (entries (told verdict_numbers (replied x))) report
        → ExplainedReturned pack chart character action foresight nesting work report (part ++ drop k work) report' r
    explained_returned {pack} {chart} {character} {action} {foresight} {nesting} {x = x} c a f n promise number t =
        let p = rw (← c, ← a, ← f, ← n, sees) at promise in
        record {
          returned = returned (explained_reply pack chart character action foresight nesting (seen report work)) verdict_numbers (told verdict_numbers (replied x))
              (ap (told verdict_numbers) (sym p.answer)) p.scratch number t;
        }

    -- and those of an ending
    searched : (x : Result planner.Ending Refusal) → told plan_numbers (search_said x) ≡ told ending_numbers (replied x)
    searched (Ok e) = refl
    searched (Err why) = refl

    pub search_returned : {pack : List ℕ} {story foresight nesting story₁ foresight₁ nesting₁ : ℕ} {list list' : List ℕ} {x : Result planner.Ending Refusal}
        → story ≡ story₁ → foresight ≡ foresight₁ → nesting ≡ nesting₁ → Searching pack story₁ foresight₁ nesting₁ list (take k work) list' part x
        → r ≡ number_of (told ending_numbers (replied x)) → report' ≡ put (entries (told ending_numbers (replied x))) report
        → SearchReturned pack story foresight nesting list work report list' (part ++ drop k work) report' r
    search_returned {pack} {story} {foresight} {nesting} {list = list} {x = x} s f n promise number t =
        let p = rw (← s, ← f, ← n, sees) at promise in
        let reply = search_reply pack story foresight nesting list (seen report work) in
        record {
          returned = returned reply (λ p. plan_numbers (summary p)) (told ending_numbers (replied x)) (sym (told-told plan_numbers summary reply) ∙ ap (told plan_numbers) (sym p.answer) ∙ searched x) p.scratch number t;
          result = p.result;
        }
