-- From what a call promises of its answer and its lent buffers to its reply, and back. Assumes nothing.
use Rattle.std.specs.Prelude.{ℕ, ◌≤◌, refl, Bool, ◌↔◌, Option, Some, None, Result, Ok, Err}
use Rattle.std.proofs.Math.Path.{◌≡◌, ap, ap₂}
use Rattle.std.proofs.Common.{sym, ◌∙◌, arith, le-leb}
use mathlib.Core.List.{List, [], ◌∷◌, ◌++◌}
use Rattle.std.proofs.Math.ListN.{length, drop}
use Rattle.pack.specs.Reading.{Reply, gives, refuses, told, pick}
use Rattle.pack.specs.Laws.Reading.{never_gives, same_gift, same_number}
use Rattle.pack.specs.Laws.Reasons.{only_thirteen}
use Rattle.pack.specs.Refusals.{refusal_number, place_of}
use Rattle.pack.specs.Refusals.{replied}
use Rattle.pack.specs.declared.refusal.Refusal.{Refusal}
use Rattle.pack.specs.declared.refusal.Refusal.TheVariants.{NoEnding}
use Rattle.chart.specs.declared.Difference as chart
use Rattle.chart.specs.Compare.{Verdict, same, differ}
use Rattle.chart.specs.Call.{cleared, result_after, work_after}
use Rattle.chart.specs.Replies.{chain_of}
use Rattle.chart.specs.Promises.{Difference, nowhere, after, difference, compare_said}
use Rattle.planner.specs.declared.Ending as planner
use Rattle.planner.specs.Replies.{Plan}
use Rattle.planner.specs.Promises.{Summary, summary, search_said}
use Rattle.pirwodd.specs.Report.{seen, put, entries, Returned}
use Rattle.pirwodd.specs.Report as reports

-- an answer that is told was given, and a refusal stays
pub gave : {A B : Type 0} (f : A → B) (x : Reply A) {b : B} → told f x ≡ gives b → (a : A) × (x ≡ gives a) × (f a ≡ b)
gave f (gives a) e = (a, refl, same_gift e)
gave f (refuses k p) e = never_gives e

pub stayed : {A B : Type 0} (f : A → B) (x : Reply A) {k p : ℕ} → told f x ≡ refuses k p → x ≡ refuses k p
stayed f (gives a) e = never_gives (sym e)
stayed f (refuses j q) e = ap₂ refuses (same_number e) (same_spot e)
  where
    same_spot : {A : Type 0} {j k p q : ℕ} → ◌≡◌ {A = Reply A} (refuses j p) (refuses k q) → p ≡ q
    same_spot e = cc

-- an answer is given as it is
pub answer_given : {A : Type 0} (r : Result A Refusal) {a : A} → replied r ≡ gives a → r ≡ Ok a
answer_given (Ok b) e = ap Ok (same_gift e)
answer_given (Err why) e = never_gives e

-- why a call is refused, by its number and place
abbrev pub Because : {A : Type 0} → Result A Refusal → (number place : ℕ) → Type 0
Because r n p = (why : Refusal) × (r ≡ Err why) × (refusal_number why ≡ n) × (place_of why ≡ p)

same_place : {A : Type 0} {j k p q : ℕ} → ◌≡◌ {A = Reply A} (refuses j p) (refuses k q) → p ≡ q
same_place e = cc

pub answer_refused : {A : Type 0} (r : Result A Refusal) {n p : ℕ} → replied r ≡ refuses n p → Because r n p
answer_refused (Ok a) e = never_gives (sym e)
answer_refused (Err why) e = (why, refl, same_number e, same_place e)

said_same : (r : Result (Option chart.Difference) Refusal) → compare_said r ≡ gives nowhere → r ≡ Ok None
said_same (Ok None) e = refl
said_same (Ok (Some d)) e = let z = same_gift e in let never : ◌≡◌ {A = ℕ} 0 1 = cc in absurd (omega arith)
said_same (Err why) e = never_gives e

-- the difference of a length and a fluent
abbrev pub differing : (count fluent : ℕ) → chart.Difference
differing n f = record { length = n; fluent = f }

said_differ : (r : Result (Option chart.Difference) Refusal) {n f : ℕ} → compare_said r ≡ gives (after n f)
    → r ≡ Ok (Some (differing n f))
said_differ (Ok None) e = let z = same_gift e in let never : ◌≡◌ {A = ℕ} 0 1 = cc in absurd (omega arith)
said_differ (Ok (Some d)) e =
    let z = same_gift e in
    let x = ap count_of z in
    let y = ap fluent_of z in ap₂ (λ (n f : ℕ). Ok (Some (differing n f))) x y
  where
    count_of : Difference → ℕ
    count_of nowhere = 0
    count_of (after n f) = n

    fluent_of : Difference → ℕ
    fluent_of nowhere = 0
    fluent_of (after n f) = f
said_differ (Err why) e = never_gives e

-- Compare, whose reply is x
module _ (x : Reply Verdict) (chain : List ℕ) {chain' : List ℕ} {r : Result (Option chart.Difference) Refusal}
    (answer : compare_said r ≡ told difference x) (result : chain' ≡ result_after (told chain_of x) chain) where
  pub same_exactly : (r ≡ Ok None) ↔ (x ≡ gives same)
  same_exactly = (
    λ e. let (v, g, d) = gave difference x (sym answer ∙ ap compare_said e) in g ∙ ap gives (alone v d),
    λ e. said_same r (answer ∙ ap (told difference) e),
  )
    where
      alone : (v : Verdict) → difference v ≡ nowhere → v ≡ same
      alone same e = refl
      alone (differ ch f) e = let never : ◌≡◌ {A = ℕ} 0 1 = cc in absurd (omega arith)

  pub differ_exactly : (n f : ℕ)
      → (r ≡ Ok (Some (differing n f)))
      ↔ ((ch : List ℕ) × (length ch ≡ n) × (chain' ≡ ch ++ drop n chain) × (x ≡ gives (differ ch f)))
  unfolding result_after
  differ_exactly n f = (
    λ e. let (v, g, d) = gave difference x (sym answer ∙ ap compare_said e) in parts v g d,
    λ (ch, size, front, e). said_differ r (answer ∙ ap (told difference) e ∙ ap (λ (n : ℕ). gives (after n f)) size),
  )
    where
      parts : (v : Verdict) → x ≡ gives v → difference v ≡ after n f
          → (ch : List ℕ) × (length ch ≡ n) × (chain' ≡ ch ++ drop n chain) × (x ≡ gives (differ ch f))
      parts same g d = let never : ◌≡◌ {A = ℕ} 0 1 = cc in absurd (omega arith)
      parts (differ ch h) g d =
          let size : length ch ≡ n = cc in
          let fluent : h ≡ f = cc in (
            ch,
            size,
            result ∙ ap (λ (y : Reply Verdict). result_after (told chain_of y) chain) g
                ∙ ap (λ (n : ℕ). ch ++ drop n chain) size,
            g ∙ ap (λ (f : ℕ). gives (differ ch f)) fluent,
          )

said_refused : (r : Result planner.Ending Refusal) {n p : ℕ} → search_said r ≡ refuses n p → Because r n p
said_refused (Ok e) f = never_gives (sym f)
said_refused (Err why) f = (why, refl, same_number f, same_place f)

-- the ending of a length and both utilities
abbrev pub ending_of : (length before after : ℕ) → planner.Ending
ending_of n b a = record { length = n; before = b; after = a }

said_ending : (r : Result planner.Ending Refusal) {c b a : ℕ}
    → search_said r ≡ gives (record { count = c; before = b; after = a }) → r ≡ Ok (ending_of c b a)
said_ending (Ok e) {c} f =
    let z = same_gift f in
    let x = ap (λ (s : Summary). s.count) z in
    let y = ap (λ (s : Summary). s.before) z in
    let w = ap (λ (s : Summary). s.after) z in
    ap (λ (n : ℕ). Ok (ending_of n e.before e.after)) x ∙ ap₂ (λ (b a : ℕ). Ok (ending_of c b a)) y w
said_ending (Err why) f = never_gives f

-- Search, whose reply is x
module _ (x : Reply Plan) (list : List ℕ) {list' : List ℕ} {r : Result planner.Ending Refusal}
    (answer : search_said r ≡ told summary x)
    (result : list' ≡ result_after (told (λ p. p.list) x) list) where
  pub none_exactly : (n p : ℕ) → Because r n p ↔ (x ≡ refuses n p)
  none_exactly n p = (
    λ (why, e, number, place). stayed summary x (sym answer ∙ ap search_said e ∙ ap₂ refuses number place),
    λ e. said_refused r (answer ∙ ap (told summary) e),
  )

  -- and of the refusals "no ending" is 13
  pub no_ending_exactly : (r ≡ Err NoEnding) ↔ (x ≡ refuses 13 0)
  no_ending_exactly = (
    λ e. (none_exactly 13 0).0 (NoEnding, e, refl, refl),
    λ e. let (why, is, number, _) = (none_exactly 13 0).1 e in is ∙ ap Err (only_thirteen why number),
  )

  pub ending_exactly : (n before after : ℕ)
      → (r ≡ Ok (ending_of n before after))
      ↔ ((actions : List ℕ) × (length actions ≡ n) × (list' ≡ actions ++ drop n list)
      × (x ≡ gives (record { list = actions; before = before; after = after })))
  unfolding result_after
  ending_exactly n b a = (
    λ e.
        let (plan, g, d) = gave summary x (sym answer ∙ ap search_said e) in
        let size : length plan.list ≡ n = ap (λ (s : Summary). s.count) d in
        let same : ◌≡◌ {A = Plan} plan (record { list = plan.list; before = b; after = a }) = ap₂
        (λ (b a : ℕ). record { list = plan.list; before = b; after = a }) (ap (λ (s : Summary). s.before) d)
        (ap (λ (s : Summary). s.after) d) in (
          plan.list,
          size,
          result ∙ ap (λ (y : Reply Plan). result_after (told (λ p. p.list) y) list) g
              ∙ ap (λ (n : ℕ). plan.list ++ drop n list) size,
          g ∙ ap gives same,
        ),
    λ (actions, size, front, e). said_ending r
        (answer ∙ ap (told summary) e ∙ ap (λ (n : ℕ). gives (record { count = n; before = b; after = a })) size),
  )

-- a report of three entries or more: the call sees all of the work buffer
pub seen_all : (report work : List ℕ) → 3 ≤ length report → seen report work ≡ work
seen_all report work h = ap (λ (b : Bool). pick b work []) (le-leb 3 (length report) h)

-- what an exported call hands back and leaves, by its reply
module _ {said : Reply (List ℕ)} {work report work' report' : List ℕ} {r : ℕ}
    (call : Returned said work report work' report' r) where
  pub told_answer : {numbers : List ℕ} → said ≡ gives numbers
      → (r ≡ 0) × (report' ≡ put numbers report) × (work' ≡ cleared work)
  unfolding work_after
  told_answer e = (
    call.number ∙ ap reports.number_of e,
    call.told ∙ ap (λ (y : Reply (List ℕ)). put (entries y) report) e,
    call.scratch ∙ ap (λ (y : Reply (List ℕ)). work_after y work) e,
  )

  pub told-refusal : {n p : ℕ} → said ≡ refuses n p → (r ≡ n) × (report' ≡ put (p ∷ []) report)
  told-refusal e =
      (call.number ∙ ap reports.number_of e, call.told ∙ ap (λ (y : Reply (List ℕ)). put (entries y) report) e)
