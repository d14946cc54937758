-- What Search hands back, as text. Assumes nothing.
use Prim.Native.Nat.{ℕ, ◌+◌, ◌≤◌}
use mathlib.Core.Path.{◌≡◌, sym, ap, ◌∙◌, subst}
use mathlib.Core.List.{List, ◌++◌}
use native.Mathlib.Omega.{arith}
use lib.ListN.{length, take, drop, length-append}
use lib.Seq.{take-append_seam}
use borrow.Author.Tests.{le-leb}
use Rattle.pack.specs.Reading.{Reply, gives, refuses, told}
use Rattle.chart.specs.Call.{list_room, work_room, result_after}
use Rattle.std.specs.Prelude.{Result, Ok, Err}
use Rattle.pack.specs.Refusals.{refusal_number, place_of}
use Rattle.pack.specs.declared.refusal.Refusal.{Refusal}
use Rattle.planner.specs.declared.Ending.{Ending}
use Rattle.planner.specs.Replies.{Plan, search_reply}
use Rattle.planner.specs.Promises.{Summary, summary, search_said, Searching}
use Rattle.ending.specs.Text.{steps, worths, refusal, printed}
use Rattle.ending.specs.Put.{Put, Listed, answer_text, Printed}
use Rattle.ending.specs.Laws.Lent.{enough_lent}
use Rattle.ending.proofs.Pieces.{put-length, put_front}

-- where the case is known
pub listed_as : {x : Result Ending Refusal} (y : Result Ending Refusal) (list : List ℕ) → x ≡ y → Listed x list → Listed y list
listed_as y list e l = subst (λ (z : Result Ending Refusal). Listed z list) e l

pub told_as : {x : Result Ending Refusal} (y : Result Ending Refusal) (list : List ℕ) {text text' : List ℕ} {r : ℕ} → x ≡ y → Put (answer_text y list) text 0 text' r → Put (answer_text x list) text 0 text' r
told_as y list {text} {text'} {r} e p = subst (λ (z : Result Ending Refusal). Put (answer_text z list) text 0 text' r) (sym e) p

-- what is said of a plan is said of one alone
said_alone : {s t : Summary} → gives s ≡ gives t → s ≡ t
said_alone e = cc

module _ (list list' : List ℕ) where
  -- a list that was written into 8 bytes has at most 8
  listed_from : (x : Result Ending Refusal) (said : Reply Plan) → search_said x ≡ told summary said → list' ≡ result_after (told (λ p. p.list) said) list → length list ≡ 8 → length list' ≡ length list → Listed x list'
  unfolding result_after
  listed_from (Ok x) (gives plan) e w l k =
      let n : x.length ≡ length plan.list = ap (λ (s : Summary). s.count) (said_alone e) in
      let sum : length list' ≡ length plan.list + length (drop (length plan.list) list) = ap length w ∙ length-append plan.list (drop (length plan.list) list) in
      (omega arith, omega arith)
  listed_from (Ok x) (refuses number place) e w l k = let z : ◌≡◌ {A = ℕ} 0 1 = cc in absurd (omega arith)
  listed_from (Err why) said e w l k = tt

  -- the text of what was handed back is that of the reply
  text_is : (x : Result Ending Refusal) (said : Reply Plan) → search_said x ≡ told summary said → list' ≡ result_after (told (λ p. p.list) said) list → answer_text x list' ≡ printed said
  unfolding result_after
  text_is (Ok x) (gives plan) e w =
      let n : x.length ≡ length plan.list = ap (λ (s : Summary). s.count) (said_alone e) in
      let b : x.before ≡ plan.before = ap (λ (s : Summary). s.before) (said_alone e) in
      let a : x.after ≡ plan.after = ap (λ (s : Summary). s.after) (said_alone e) in
      let front : take x.length list' ≡ plan.list = ap (λ (k : ℕ). take k list') n ∙ ap (take (length plan.list)) w ∙ take-append_seam plan.list (drop (length plan.list) list) in
      ap (λ (l : List ℕ). steps 1 l ++ worths x.before x.after) front ∙ ap (λ (k : ℕ). steps 1 plan.list ++ worths k x.after) b ∙ ap (λ (k : ℕ). steps 1 plan.list ++ worths plan.before k) a
  text_is (Ok x) (refuses number place) e w = let z : ◌≡◌ {A = ℕ} 0 1 = cc in absurd (omega arith)
  text_is (Err why) (gives plan) e w = let z : ◌≡◌ {A = ℕ} 0 1 = cc in absurd (omega arith)
  text_is (Err why) (refuses number' place') e w =
      let n : refusal_number why ≡ number' = cc in
      let p : place_of why ≡ place' = cc in
      ap (λ (k : ℕ). refusal k (place_of why)) n ∙ ap (refusal number') p

  pub listed : {pack work work' : List ℕ} {x : Result Ending Refusal} → Searching pack 4 3 2 list work list' work' x → length list ≡ 8 → length list' ≡ length list → Listed x list'
  listed {pack} {work} {x = x} s l k = listed_from x (search_reply pack 4 3 2 list work) s.answer s.result l k

  pub shown : {pack work work' text text' : List ℕ} {x : Result Ending Refusal} {r : ℕ} → Searching pack 4 3 2 list work list' work' x → length list ≡ 8 → 49152 ≤ length work → 385 ≤ length text
      → Put (answer_text x list') text 0 text' r → r ≤ 385 → Printed pack text' r
  shown {pack} {work} {text = text} {x = x} {r = r} s l w room p short = record {
    within = omega (arith, put-length p);
    shown = put_front p (omega (arith, p.ends)) ∙ text_is x (search_reply pack 4 3 2 list work) s.answer s.result
        ∙ ap printed (enough_lent pack list work (le-leb list_room (length list) (omega arith)) (le-leb work_room (length work) w));
  }
