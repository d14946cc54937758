-- The look before an action is tried: runs of effects, tests, alternatives and rules, and the triggers. Assumes nothing.
use Prim.Native.Nat.{ℕ, zero, suc, ◌+◌, ◌*◌, ◌-◌, ◌<◌, ◌≤◌}
use mathlib.Core.Path.{◌≡◌, refl, sym, ap, ◌∙◌, subst}
use mathlib.Core.Bool.{Bool, true, false, ◌&&◌, ◌||◌}
use mathlib.Core.Logic.{by_cases}
use mathlib.Core.List.{List, [], ◌∷◌}
use native.Mathlib.Decide.{ℕ_discrete, dec_lt}
use native.Mathlib.Omega.{arith}
use lib.ListN.{length, get_or, set, replicate}
use lib.Seq.{get_or-set_same, get_or-set_other, ext_get_or}
use lib.Dec.{ltb}
use borrow.Author.Count.{below_more}
use borrow.Author.Tests.{lt-ltb, le-ltb}
use Rattle.pack.specs.Syntax.{Effect, Test, Condition, Rule, Node, Theory}
use Rattle.pack.specs.State.{State, meaning}
use Rattle.pack.specs.Reading.{Reading, done, Reader, pick, many}
use Rattle.pack.specs.Number.{counted, number_at}
use Rattle.pack.specs.Grammar.{Dimensions, dimensions, test_at, condition_at, rules_at, rule_at, effect_at, effects_at}
use Rattle.pack.specs.Condition.{holds, utility, write}
use Rattle.pack.specs.Duties.Contents.{Gives}
use Rattle.pack.specs.Duties.Copy.{Copied}
use Rattle.pack.specs.Duties.Judge.{alternative_at, Small, Over, Readable, Judged, Tells, Ends}
use Rattle.pack.specs.Duties.Table.{state_of, row_at, cells}
use Rattle.pack.specs.Duties.Write.{Writable, EffectsWritten}
use Rattle.pack.specs.declared.table.Table.{Table}
use Rattle.pack.specs.Laws.Judged.{Left, Next, left_start, left_one, left_next, left_last, left_none, counted_starts, rule_parts}
use Rattle.pack.specs.Laws.OneByte.{test_bytes_lem, effect_bytes_lem}
use Rattle.pack.specs.Laws.Rows.{rows_at_lem, cells_at}
use Rattle.pack.specs.Laws.WrittenValues.{cells-length, Owed, Due, owed_one, owed_none}
use Rattle.chart.specs.Call.{work_room}
use Rattle.transition.specs.Happening.{change, act, nothing, action_of, Plays}
use Rattle.transition.specs.Duties.Play.{Theorized}
use Rattle.planner.specs.declared.limits.Context.{Context}
use Rattle.planner.specs.Inner.Lists.{slot_table}
use Rattle.planner.specs.Inner.Lists as lists
use Rattle.planner.specs.Inner.Explain.{Stage}
use Rattle.planner.specs.Inner.Range.{could_meet, could_at, could_pass, could_all, could_hold, could_exceed, Within, InRange, AllInRange, idle, TriggersInRange, Wider, no_exceed, within_barred, within_wider, all_wider, wider_same, wider_then, settles_within}
use Rattle.planner.specs.Inner.Look.{Widened, Triggered, TriggersWidened, Trial, Tryable, Hopeless}

-- flags
pub unequal : true ≡ false → ⊥
unequal e = let z : ◌≡◌ {A = ℕ} 1 0 = ap (λ (b : Bool). pick b 1 0) e in omega arith

never_both : (a : Bool) → (a && false) ≡ false
never_both true = refl
never_both false = refl

-- A counted run of parts, and what is told of it, by what is known where it is read
pub record Run (A K : Type 0) : Type 0 where
  pub part : K → Reader A
  pub limit : ℕ
  pub tells : K → List A → Bool

module _ {A K : Type 0} (w : Run A K) (s : List ℕ) (from : ℕ) where
  abbrev Whole : K → List A → Type 0
  Whole k xs = Gives (counted 0 w.limit (w.part k)) s from xs

  -- what is left of it, from n on, tells of the whole
  abbrev pub Rest : (n left : ℕ) → Type 0
  Rest n left = (k : K) (xs : List A) (g : Whole k xs) → Left (w.part k) s n left (w.tells k) xs g.end

  -- the flag tells of the whole
  abbrev pub Told : Bool → Type 0
  Told r = (k : K) (xs : List A) → Whole k xs → r ≡ w.tells k xs

  pub run_start : w.limit ≤ 128 → (n : ℕ) → get_or s from 0 ≡ n → Rest (from + 1) n
  run_start few n e k xs g = left_start (w.part k) s (w.tells k) xs g.end n (from + 1) (counted_starts w.limit (w.part k) s from xs g.end few g.reads n e).0

  pub run_none : {n left : ℕ} → Rest n left → left ≤ 0 → {b : Bool} → ((k : K) → w.tells k [] ≡ b) → Told b
  run_none {n} {left} i h e k xs g = sym (left_none (w.part k) s (w.tells k) xs g.end n left (i k xs g) h ∙ e k)

  module _ {n left : ℕ} (i : Rest n left) (h : 0 < left) where
    one : (k : K) (xs : List A) (g : Whole k xs) → Next (w.part k) s n left (w.tells k) xs g.end
    one k xs g = left_one (w.part k) s (w.tells k) xs g.end n left (i k xs g) h

    -- the next of them
    pub run_item : (k : K) (xs : List A) → Whole k xs → A
    run_item k xs g = (one k xs g).item

    pub run_here : (k : K) (xs : List A) (g : Whole k xs) → Gives (w.part k) s n (run_item k xs g)
    unfolding run_item
    run_here k xs g = record { end = (one k xs g).place; reads = (one k xs g).here }

    -- it decides
    pub run_stop : {b : Bool} → ((k : K) (x : A) (rest : List A) → Gives (w.part k) s n x → w.tells k (x ∷ rest) ≡ b) → Told b
    unfolding run_item
    run_stop e k xs g = let y = one k xs g in sym (y.same ∙ e k y.item y.rest (run_here k xs g))

    -- or, the last of them, it tells nothing
    pub run_last : left ≤ 1 → {b : Bool} → ((k : K) (x : A) (rest : List A) → Gives (w.part k) s n x → w.tells k (x ∷ rest) ≡ w.tells k rest) → ((k : K) → w.tells k [] ≡ b) → Told b
    unfolding run_item run_here
    run_last few e none k xs g =
        let y = one k xs g in
        sym (left_last (w.part k) s (w.tells k) xs g.end n left y few (e k y.item y.rest (run_here k xs g)) ∙ none k)

    -- or the rest does
    pub run_on : (m : ℕ) → ((k : K) (x : A) (g : Gives (w.part k) s n x) → g.end ≡ m) → ((k : K) (x : A) (rest : List A) → Gives (w.part k) s n x → w.tells k (x ∷ rest) ≡ w.tells k rest) → {more : ℕ} → left ≡ more + 1 → Rest m more
    unfolding run_item run_here
    run_on m ends e {more} is k xs g =
        let y = one k xs g in
        let next = left_next (w.part k) s (w.tells k) xs g.end n left y m (ends k y.item (run_here k xs g)) (e k y.item y.rest (run_here k xs g)) in
        let fewer : left - 1 ≡ more = omega (arith, is) in
        subst (λ (k' : ℕ). Left (w.part k) s m k' (w.tells k) xs g.end) fewer next

-- A run over small dimensions
abbrev pub Tiny : Type 0
Tiny = (d : Dimensions) × Small d

module _ {A : Type 0} (part : Dimensions → Reader A) where
  abbrev pub tiny_run : (List A → Bool) → Run A Tiny
  tiny_run tells = record { part = λ k. part k.0; limit = 9; tells = λ k. tells }

  module _ {s : List ℕ} {from : ℕ} where
    pub run_inside : Readable (λ d. counted 0 9 (part d)) s from → from < length s
    run_inside x = (counted_starts 9 (part x.over) s from x.value x.end (omega arith) x.reads (get_or s from 0) refl).1

    pub run_next : Readable (λ d. counted 0 9 (part d)) s from → {tells : List A → Bool} {n left : ℕ} → Rest (tiny_run tells) s from n left → 0 < left → Readable part s n
    run_next x {tells} {n} i h =
        let whole : Gives (counted 0 9 (part x.over)) s from x.value = record { end = x.end; reads = x.reads } in
        let g = run_here (tiny_run tells) s from i h (x.over, x.small) x.value whole in
        record { over = x.over; small = x.small; value = run_item (tiny_run tells) s from i h (x.over, x.small) x.value whole; end = g.end; reads = g.reads }

    pub run_told : {tells : List A → Bool} {b : Bool} → Told (tiny_run tells) s from b → Tells (λ d. counted 0 9 (part d)) tells s from b
    run_told w d small xs n e = w (d, small) xs (record { end = n; reads = e })

-- what is told of a part, and where it ends, of what it gives
module _ {A : Type 0} (part : Dimensions → Reader A) {s : List ℕ} {n : ℕ} where
  pub told_of : {B : Type 0} (f : A → B) {r : B} → Tells part f s n r → (k : Tiny) (x : A) → Gives (part k.0) s n x → r ≡ f x
  told_of f w k x g = w k.0 k.1 x g.end g.reads

  pub end_of : {m : ℕ} → Ends part s n m → (k : Tiny) (x : A) (g : Gives (part k.0) s n x) → g.end ≡ m
  end_of w k x g = sym (w k.0 k.1 x g.end g.reads)

-- a condition is a run of alternatives, rules are one of rules
module _ {s : List ℕ} {at : ℕ} where
  pub condition_parts : Readable condition_at s at → Readable (λ d. counted 0 9 (alternative_at d)) s at
  unfolding condition_at
  condition_parts x = x

  pub condition_told : {tells : Condition → Bool} {b : Bool} → Told (tiny_run alternative_at tells) s at b → Tells condition_at tells s at b
  unfolding condition_at
  condition_told w = run_told alternative_at w

  pub rules_parts : Readable rules_at s at → Readable (λ d. counted 0 9 (rule_at d)) s at
  unfolding rules_at
  rules_parts x = x

  pub rules_told : {tells : List Rule → Bool} {b : Bool} → Told (tiny_run rule_at tells) s at b → Tells rules_at tells s at b
  unfolding rules_at
  rules_told w = run_told rule_at w

-- a rule: its condition, and its number behind it
module _ {s : List ℕ} {n : ℕ} where
  pub rule_condition : (d : Dimensions) (v : Rule) → Gives (rule_at d) s n v → Gives (condition_at d) s n v.condition
  rule_condition d v g = let q = rule_parts d s n v g.end g.reads in record { end = q.middle; reads = q.condition }

  pub rule_readable : Readable rule_at s n → Readable condition_at s n
  rule_readable x =
      let g = rule_condition x.over x.value (record { end = x.end; reads = x.reads }) in
      record { over = x.over; small = x.small; value = x.value.condition; end = g.end; reads = g.reads }

  pub rule_number : {m : ℕ} {r : Reading ℕ} → Ends condition_at s n m → number_at s m ≡ r → (k : Tiny) (v : Rule) (g : Gives (rule_at k.0) s n v) → r ≡ done v.utility g.end
  rule_number after e (d, small) v g =
      let q = rule_parts d s n v g.end g.reads in
      sym e ∙ ap (number_at s) (after d small v.condition q.middle q.condition) ∙ q.number

-- What could pass, hold and exceed, by one more
module _ (may : Test → Bool) where
  pub all_none : could_all may [] ≡ true
  unfolding could_all
  all_none = refl

  pub all_by : (x : Test) (rest : List Test) {b c : Bool} → b ≡ may x → b ≡ c → could_all may (x ∷ rest) ≡ (c && could_all may rest)
  unfolding could_all
  all_by x rest q e = ap (λ (b : Bool). b && could_all may rest) (sym q ∙ e)

  pub some_none : could_hold may [] ≡ false
  unfolding could_hold
  some_none = refl

  pub some_by : (x : List Test) (rest : Condition) {b c : Bool} → b ≡ could_all may x → b ≡ c → could_hold may (x ∷ rest) ≡ (c || could_hold may rest)
  unfolding could_hold
  some_by x rest q e = ap (λ (b : Bool). b || could_hold may rest) (sym q ∙ e)

  pub exceed_none : (base : ℕ) → could_exceed may base [] ≡ false
  unfolding could_exceed
  exceed_none base = refl

  module _ (base : ℕ) (x : Rule) (rest : List Rule) where
    pub exceed_by : base < x.utility → {b c : Bool} → b ≡ could_hold may x.condition → b ≡ c → could_exceed may base (x ∷ rest) ≡ (c || could_exceed may base rest)
    unfolding could_exceed
    exceed_by l q e = ap (λ (b : Bool). (b && could_hold may x.condition) || could_exceed may base rest) (lt-ltb base x.utility l) ∙ ap (λ (b : Bool). b || could_exceed may base rest) (sym q ∙ e)

    pub exceed_not : {b : Bool} → b ≡ could_hold may x.condition → b ≡ false → could_exceed may base (x ∷ rest) ≡ could_exceed may base rest
    unfolding could_exceed
    exceed_not q e = ap (λ (b : Bool). (ltb base x.utility && b) || could_exceed may base rest) (sym q ∙ e) ∙ ap (λ (b : Bool). b || could_exceed may base rest) (never_both (ltb base x.utility))

    pub exceed_low : x.utility ≤ base → could_exceed may base (x ∷ rest) ≡ could_exceed may base rest
    unfolding could_exceed
    exceed_low l = ap (λ (b : Bool). (b && could_hold may x.condition) || could_exceed may base rest) (le-ltb base x.utility l)

-- A test: how long its chain is
module _ (lows highs pack : List ℕ) (n : ℕ) {k : ℕ} (chain : Tells test_at (λ (x : Test). length x.chain) pack n k) where
  -- about what is believed
  pub pass_open : (k ≡ 0 → ⊥) → Tells test_at (could_pass lows highs) pack n true
  unfolding could_at
  pass_open z d small v m e = sym (go v.chain (chain d small v m e))
    where
      go : (ch : List ℕ) → k ≡ length ch → could_at lows highs ch v ≡ true
      go [] e = absurd (z e)
      go (c ∷ ch) e = refl

  -- about the state itself
  pub pass_own : k ≡ 0 → {f : ℕ} → Tells test_at (λ (x : Test). x.fluent) pack n f → {r : Bool} → Tells test_at (λ (x : Test). could_meet x.kind (get_or lows f 0) (get_or highs f 0) x.value) pack n r → Tells test_at (could_pass lows highs) pack n r
  unfolding could_at
  pass_own z {f} fluent {r} met d small v m e =
      let here = nil v.chain (sym (chain d small v m e) ∙ z) in
      met d small v m e
      ∙ ap (λ (f : ℕ). could_meet v.kind (get_or lows f 0) (get_or highs f 0) v.value) (fluent d small v m e)
      ∙ sym (ap (λ (ch : List ℕ). could_at lows highs ch v) here)
    where
      nil : (l : List ℕ) → length l ≡ 0 → l ≡ []
      nil [] e = refl
      nil (c ∷ l) e = absurd (omega (arith, e))

-- the fluent of a test has a range
pub fluent_few : {pack : List ℕ} {n f : ℕ} → Readable test_at pack n → Tells test_at (λ (x : Test). x.fluent) pack n f → f < 24
fluent_few {pack} {n} x fluent =
    let b = test_bytes_lem x.over x.small pack n x.value x.end x.reads in
    omega (arith, fluent x.over x.small x.value x.end x.reads, b.fluent, b.below, x.small.fluents)

-- Widening by an effect: only the ranges of its fluent change
module _ {pack : List ℕ} {n : ℕ} (x : Readable effect_at pack n) where
  pub effect_few : {f : ℕ} → Tells effect_at (λ (e : Effect). e.fluent) pack n f → f < 24
  effect_few fluent =
      let b = effect_bytes_lem x.over x.small pack n x.value x.end x.reads in
      omega (arith, fluent x.over x.small x.value x.end x.reads, b.fluent, b.below, x.small.fluents)

module _ {pack : List ℕ} {n : ℕ} {lows highs : List ℕ} where
  pub widened_one : {f v l h : ℕ} → Tells effect_at (λ (e : Effect). e.fluent) pack n f → Tells effect_at (λ (e : Effect). e.value) pack n v → f < length lows → f < length highs
      → (l ≤ get_or lows f 0) × (l ≤ v) → (get_or highs f 0 ≤ h) × (v ≤ h) → Widened effect_at InRange pack n lows highs (set lows f l) (set highs f h)
  widened_one {f} {v} {l} {h} fluent value in-l in-h low high =
      let here-l : get_or (set lows f l) f 0 ≡ l = get_or-set_same lows f l 0 in-l in
      let here-h : get_or (set highs f h) f 0 ≡ h = get_or-set_same highs f h 0 in-h in
      record {
        wider = record {
          low = λ i. by_cases (ℕ_discrete i f)
              (λ q. subst (λ (i : ℕ). get_or (set lows f l) i 0 ≤ get_or lows i 0) (sym q) (omega (arith, here-l, low.0)))
              (λ q. omega (arith, get_or-set_other lows f i l 0 q));
          high = λ i. by_cases (ℕ_discrete i f)
              (λ q. subst (λ (i : ℕ). get_or highs i 0 ≤ get_or (set highs f h) i 0) (sym q) (omega (arith, here-h, high.0)))
              (λ q. omega (arith, get_or-set_other highs f i h 0 q));
        };
        covers = λ d small e m r q.
            let is : e.fluent ≡ f = sym (fluent d small e m r) in
            let val : e.value ≡ v = sym (value d small e m r) in (
              subst (λ (i : ℕ). get_or (set lows f l) i 0 ≤ e.value) (sym is) (omega (arith, here-l, low.1, val)),
              subst (λ (i : ℕ). e.value ≤ get_or (set highs f h) i 0) (sym is) (omega (arith, here-h, high.1, val)),
            );
      }

-- by effects one after the other: where what is left is in range, all are
pub record Widening (lows highs : List ℕ) (d : Dimensions) (s : List ℕ) (n left : ℕ) (xs : List Effect) (end : ℕ) : Type 0 where
  pub rest : List Effect
  pub reads : Owed (λ (es v : List Effect). es) d s n left [] rest end
  pub brings : (A B : List ℕ) → Wider lows highs A B → AllInRange A B rest → AllInRange A B xs

module _ {lows highs : List ℕ} {d : Dimensions} {s : List ℕ} {n left : ℕ} {xs : List Effect} {end : ℕ} where
  pub widening_one : (w : Widening lows highs d s n left xs end) → 0 < left → Due (λ (es v : List Effect). es) d s n left [] w.rest end
  widening_one w h = owed_one (λ (es v : List Effect). es) d s n left [] w.rest end w.reads h

  pub widening_next : {lows' highs' : List ℕ} (w : Widening lows highs d s n left xs end) (h : 0 < left) → Small d → Widened effect_at InRange s n lows highs lows' highs'
      → {m : ℕ} → Ends effect_at s n m → {more : ℕ} → left ≡ more + 1 → Widening lows' highs' d s m more xs end
  unfolding AllInRange widening_one
  widening_next w h small one {m} ends {more} is =
      let x = widening_one w h in
      let fewer : more ≡ left - 1 = omega (arith, is) in
      record {
        rest = x.rest;
        reads = record { rest = x.rest; reads = ap (λ (k : ℕ). many (effect_at d) k s m) fewer ∙ ap (many (effect_at d) (left - 1) s) (ends d small x.item x.place x.here) ∙ x.more; same = refl };
        brings = λ A B wider all. w.brings A B (wider_then one.wider wider)
            (subst (AllInRange A B) (sym x.same) (
              λ q. let (l, h) = one.covers d small x.item x.place x.here q in
                  (omega (arith, wider.low x.item.fluent, l), omega (arith, wider.high x.item.fluent, h)),
              all,
            ));
      }

  pub widening_none : Widening lows highs d s n left xs end → left ≤ 0 → AllInRange lows highs xs
  unfolding AllInRange
  widening_none w h =
      w.brings lows highs wider_same (subst (AllInRange lows highs) (sym (owed_none (λ (es v : List Effect). es) d s n left [] w.rest end w.reads h refl)) tt)

pub widening_start : {lows highs : List ℕ} (d : Dimensions) (s : List ℕ) (at : ℕ) {xs : List Effect} {end : ℕ} → effects_at d s at ≡ done xs end → (n : ℕ) → get_or s at 0 ≡ n → Widening lows highs d s (at + 1) n xs end
unfolding effects_at
widening_start d s at {xs} {end} e n q = record {
  rest = xs;
  reads = record { rest = xs; reads = (counted_starts 17 (effect_at d) s at xs end (omega arith) e n q).0; same = refl };
  brings = λ A B wider all. all;
}

pub effects_inside : {s : List ℕ} {at : ℕ} → Readable effects_at s at → at < length s
unfolding effects_at
effects_inside {s} {at} x = (counted_starts 17 (effect_at x.over) s at x.value x.end (omega arith) x.reads (get_or s at 0) refl).1

-- by triggers one after the other
module _ (pack places : List ℕ) (triggers : ℕ) where
  module _ (i : ℕ) (l : i < triggers) where
    place : (289 + 2 * i) ≡ (288 + 2 * i) + 1
    place = omega arith

    next : (p : Theory) (n : ℕ) → Theorized p pack places n triggers → Gives (effects_at (dimensions p)) pack (get_or places (289 + 2 * i) 0) (get_or p.triggers i idle).effects
    next p n x = subst (λ (k : ℕ). Gives (effects_at (dimensions p)) pack (get_or places k 0) (get_or p.triggers i idle).effects) (sym place) (x.found.trigger i l idle).effects

    pub trigger_readable : Triggered pack places triggers → Readable effects_at pack (get_or places (289 + 2 * i) 0)
    trigger_readable (p, (n, x)) = let g = next p n x in record { over = dimensions p; small = x.small; value = (get_or p.triggers i idle).effects; end = g.end; reads = g.reads }

    pub triggers_more : {lows highs lows' highs' : List ℕ} → Widened effects_at AllInRange pack (get_or places (289 + 2 * i) 0) lows highs lows' highs' → (p : Theory) (n : ℕ) → Theorized p pack places n triggers
        → TriggersInRange lows highs p.triggers i → TriggersInRange lows' highs' p.triggers (i + 1)
    triggers_more {lows' = lows'} {highs'} w p n x old =
        let g = next p n x in
        below_more (λ (j : ℕ). AllInRange lows' highs' (get_or p.triggers j idle).effects) i
        (λ j h. all_wider w.wider (get_or p.triggers j idle).effects (old j h))
        (w.covers (dimensions p) x.small (get_or p.triggers i idle).effects g.end g.reads)

  -- all of a theory's
  pub all_triggers : {p : Theory} {n : ℕ} (lows highs : List ℕ) → Theorized p pack places n triggers → TriggersInRange lows highs p.triggers triggers → TriggersInRange lows highs p.triggers (length p.triggers)
  all_triggers lows highs x c j l = c j (omega (arith, l, x.found.triggers))

-- The own values of what row 0 means, copied
module _ (t : Table) (work : List ℕ) (some : 0 < t.nodes) where
  pub own_values : state_of t work 0 [] ≡ cells work t.rows t.fluents
  unfolding meaning row_at
  own_values =
      let here : t.rows + 0 * t.width ≡ t.rows = omega arith in
      ap (λ (x : Node). x.values) (rows_at_lem work t.width t.fluents t.characters t.rows t.nodes 0 some)
      ∙ ap (λ (a : ℕ). cells work a t.fluents) here

module _ {work : List ℕ} {from F : ℕ} {was lows : List ℕ} (c : Copied work from was lows 0 F 0) where
  pub copied_cells : cells lows 0 F ≡ cells work from F
  copied_cells =
      ext_get_or 0 _ _ (cells-length lows 0 F ∙ sym (cells-length work from F))
      (λ i l. let m : i < F = omega (arith, cells-length lows 0 F, l) in
      cells_at lows 0 F i m ∙ c.copied i m ∙ sub_none (get_or work (from + i) 0) ∙ sym (cells_at work from F i m))
    where
      sub_none : (v : ℕ) → v - 0 ≡ v
      sub_none v = omega arith

-- values that are laid out, none behind them, are a range each of one value
pub laid_within : (F : ℕ) (lows : List ℕ) → ((f : ℕ) → F ≤ f → get_or lows f 0 ≡ 0) → Within lows lows (cells lows 0 F)
laid_within F lows past = record {
  low = λ f. by_cases (dec_lt f F) (λ l. omega (arith, at f l)) (λ l. omega (arith, past f (omega (arith, l))));
  high = λ f. by_cases (dec_lt f F) (λ l. omega (arith, at f l)) (λ l. omega (arith, beyond (cells lows 0 F) f (omega (arith, l, cells-length lows 0 F))));
}
  where
    at : (f : ℕ) → f < F → get_or (cells lows 0 F) f 0 ≡ get_or lows f 0
    at f l = let here : 0 + f ≡ f = omega arith in cells_at lows 0 F f l ∙ ap (λ (k : ℕ). get_or lows k 0) here

    beyond : (l : List ℕ) (f : ℕ) → length l ≤ f → get_or l f 0 ≡ 0
    beyond [] f h = refl
    beyond (x ∷ l) zero h = absurd (omega (arith, h))
    beyond (x ∷ l) (suc f) h = beyond l f (omega (arith, h))

pub zeros : (n a : ℕ) → ◌≡◌ {A = ℕ} (get_or (replicate n 0) a 0) 0
zeros zero a = refl
zeros (suc n) zero = refl
zeros (suc n) (suc a) = zeros n a

-- Trying an action
module _ (pack places : List ℕ) (triggers a : ℕ) (work : List ℕ) (t : Table) where
  condition_at_lem : (p : Theory) → Trial p pack places triggers a work t → Gives (condition_at (dimensions p)) pack (get_or places (9 * a) 0) (action_of p a).condition
  condition_at_lem p x = (x.theorized.found.action a x.there nothing).condition

  pub try_judged : {whose : ℕ} → Tryable pack places triggers a work t whose → Judged condition_at pack (get_or places (9 * a) 0) t work 0
  try_judged x = let g = condition_at_lem x.theory x.trial in record { table = x.trial.fits; there = x.trial.some; dimensions = dimensions x.theory; over = x.trial.over; value = (action_of x.theory a).condition; end = g.end; reads = g.reads }

  pub try_forbidden : {r : Bool} → ((d : Dimensions) → Over d t → (c : Condition) (n : ℕ) → condition_at d pack (get_or places (9 * a) 0) ≡ done c n → r ≡ holds (state_of t work 0) c) → r ≡ false → (whose left base : ℕ) → Hopeless pack places triggers a work t whose left base
  try_forbidden judged e whose left base p x s plays = let g = condition_at_lem p x in absurd (unequal (sym plays.may ∙ sym (judged (dimensions p) x.over (action_of p a).condition g.end g.reads) ∙ e))

  effects_at_lem : (p : Theory) → Trial p pack places triggers a work t → Gives (effects_at (dimensions p)) pack (get_or places (9 * a + 1) 0) (action_of p a).effects
  effects_at_lem p x = (x.theorized.found.action a x.there nothing).effects

  rules_at_lem : {whose : ℕ} → whose < t.characters + 1 → (p : Theory) → Trial p pack places triggers a work t → Gives (rules_at (dimensions p)) pack (get_or places (320 + whose) 0) (get_or p.utilities whose [])
  rules_at_lem {whose} l p x = x.theorized.found.rules whose (omega (arith, x.over.characters, l))

  module _ {whose : ℕ} (y : Tryable pack places triggers a work t whose) where
    pub try_fluents : t.fluents ≤ 24
    try_fluents = omega (arith, y.trial.over.fluents, y.trial.over.small.fluents)

    pub try_writable : {lows : List ℕ} → length lows ≡ 24 → Writable effects_at pack (get_or places (9 * a + 1) 0) lows 0 t.fluents
    try_writable long =
        let g = effects_at_lem y.theory y.trial in
        record { dimensions = dimensions y.theory; small = y.trial.over.small; wide = y.trial.over.fluents; value = (action_of y.theory a).effects; end = g.end; reads = g.reads; inside = omega (arith, long, try_fluents) }

    -- what the action leaves, and the triggers after it, is within the ranges
    pub try_hopeless : {mid late lows highs : List ℕ} → Copied work t.rows (replicate 24 0) mid 0 t.fluents 0 → EffectsWritten pack (get_or places (9 * a + 1) 0) 0 mid late 0 t.fluents → TriggersWidened pack places triggers late late lows highs
        → {base : ℕ} {r : Bool} → Tells rules_at (could_exceed (could_pass lows highs) base) pack (get_or places (320 + whose) 0) r → r ≡ false → Hopeless pack places triggers a work t whose 0 base
    unfolding act change
    try_hopeless {mid} {late} {lows} {highs} copied written widened {base} told e p x s plays =
        let es = (action_of p a).effects in
        let g = effects_at_lem p x in
        let h = rules_at_lem y.rules p x in
        let S = state_of t work 0 in
        let laid : cells late 0 t.fluents ≡ write 0 es (S []) =
        written.values (dimensions p) x.over.small x.over.fluents es g.end g.reads ∙ ap (write 0 es) (copied_cells copied ∙ sym (own_values t work x.some)) in
        let past : (f : ℕ) → t.fluents ≤ f → get_or late f 0 ≡ 0 = λ f l. written.only.above f (omega (arith, l)) ∙ copied.only.above f (omega (arith, l)) ∙ zeros 24 f in
        let acted : Within lows highs (act (action_of p a) S []) =
        within_wider widened.wider (subst (Within late late) laid (laid_within t.fluents late past)) in
        let within : Within lows highs (s []) =
        settles_within lows highs p (all_triggers pack places triggers lows highs x.theorized (widened.covers p x.actions x.theorized)) 16 (act (action_of p a) S) s plays.settles acted in (
          refl,
          no_exceed (could_pass lows highs) s (within_barred s within) base (get_or p.utilities whose [])
              (sym (told (dimensions p) x.over.small (get_or p.utilities whose []) h.end h.reads) ∙ e),
        )

-- a table before the free slots, in which an action is looked at
module _ {th : Theory} {T : List Node} {pack places : List ℕ} {h : Context} {was : List ℕ} {t : Table} {slot : ℕ} (x : Stage th T pack places h was t slot) (before : slot ≤ work_room) where
  module _ {a : ℕ} (l : a < h.actions) where
    stage_trial : Trial th pack places h.triggers a was t
    stage_trial = record { actions = h.actions; theorized = x.theorized; there = l; over = x.tabled.over; fits = x.tabled.fits; low = omega (arith, x.behind, before); some = x.tabled.some }

    pub stage_tryable : {whose : ℕ} → whose < t.characters + 1 → Tryable pack places h.triggers a was t whose
    stage_tryable i = record { theory = th; trial = stage_trial; rules = i }

    pub stage_hopeless : (whose : ℕ) {left base : ℕ} → Hopeless pack places h.triggers a was t whose left base → (s : State) → Plays th (meaning t.characters T 0) a s → (left ≡ 0) × (utility s (get_or th.utilities whose []) ≤ base)
    stage_hopeless whose f s plays = f th stage_trial s (subst (λ (U : List Node). Plays th (meaning t.characters U 0) a s) (sym x.tabled.same) plays)

-- a table that was in a slot is in it where its count stays
pub still_in : (h : Context) (slot : ℕ) (was now : List ℕ) {t : Table} → t ≡ slot_table h was slot → get_or now slot 0 ≡ get_or was slot 0 → t ≡ slot_table h now slot
still_in h slot was now is same = is ∙ ap (lists.counted h slot) (sym same)

-- an action is tried in the table in a slot
module _ {th : Theory} {T : List Node} {pack places : List ℕ} {h : Context} {work : List ℕ} (slot whose : ℕ) (x : Stage th T pack places h work (slot_table h work slot) (slot + h.stride)) (before : slot + h.stride ≤ h.memory) {t : Table} (is : t ≡ slot_table h work slot) {a : ℕ} (l : a < h.actions) where
  pub tried : whose < h.characters + 1 → Tryable pack places h.triggers a work t whose
  tried w = subst (λ (t : Table). Tryable pack places h.triggers a work t whose) (sym is) (stage_tryable x (omega (arith, before, x.laid.room)) l w)

  pub tried_not : {left base : ℕ} → Hopeless pack places h.triggers a work t whose left base → (s : State) → Plays th (meaning h.characters T 0) a s → (left ≡ 0) × (utility s (get_or th.utilities whose []) ≤ base)
  tried_not {left} {base} f = stage_hopeless x (omega (arith, before, x.laid.room)) l whose (subst (λ (t : Table). Hopeless pack places h.triggers a work t whose left base) is f)
