-- The lowest trigger that holds, in one row and in each. Assumes nothing.
use Prim.Native.Nat.{ℕ, zero, suc, ◌+◌, ◌*◌, ◌<◌, ◌≤◌}
use mathlib.Core.Path.{◌≡◌, refl, sym, ap, ◌∙◌, subst}
use mathlib.Core.Bool.{Bool, true, false, cond, ◌||◌}
use mathlib.Core.Option.{Option}
use mathlib.Core.List.{List, [], ◌∷◌}
use native.Mathlib.Omega.{arith}
use lib.ListN.{length, get_or, set}
use lib.Seq.{get_or-set_same, get_or-set_other}
use borrow.Author.Count.{below_more}
use Rattle.pack.specs.Syntax.{Condition, Trigger, Node}
use Rattle.pack.specs.State.{State, meaning}
use Rattle.pack.specs.Reading.{done}
use Rattle.pack.specs.Grammar.{Dimensions, condition_at, effect_at, effects_at}
use Rattle.pack.specs.Condition.{holds}
use Rattle.pack.specs.Duties.Judge.{Over, Judged}
use Rattle.pack.specs.Duties.Table.{state_of}
use Rattle.pack.specs.declared.table.Table.{Table}
use Rattle.pack.specs.Laws.Judged.{counted_starts}
use Rattle.transition.specs.Happening.{firing, effects_of}
use Rattle.transition.specs.Duties.Cause.{Tabled}
use Rattle.transition.specs.Inner.Fire.{Triggered, FireIs, Firable, Fires, FiredBelow}

-- what stands for a trigger that isn't there
abbrev idle : Trigger
idle = record { condition = []; effects = [] }

module _ (z : State) where
  pub fires_none : (ts : List Trigger) → ((j : ℕ) → j < length ts → holds z (get_or ts j idle).condition ≡ false) → firing ts z ≡ Option.none
  unfolding firing
  fires_none [] h = refl
  fires_none (t ∷ ts) h = rw (h 0 (omega arith)) (fires_none ts (λ j l. h (suc j) (omega arith)))

  pub fires-first : (ts : List Trigger) (i : ℕ) → i < length ts → ((j : ℕ) → j < i → holds z (get_or ts j idle).condition ≡ false) → holds z (get_or ts i idle).condition ≡ true → firing ts z ≡ Option.some (get_or ts i idle)
  unfolding firing
  fires-first [] i l h e = absurd (omega arith)
  fires-first (t ∷ ts) zero l h e = rw e
  fires-first (t ∷ ts) (suc i) l h e = rw (h 0 (omega arith)) (fires-first ts i (omega arith) (λ j l. h (suc j) (omega arith)) e)

-- effects that are read stand before the pack's end
pub effects_inside : (d : Dimensions) (pack : List ℕ) (at : ℕ) (es : List Rattle.pack.specs.Syntax.Effect) (n : ℕ) → effects_at d pack at ≡ done es n → at < length pack
unfolding effects_at
effects_inside d pack at es n e = (counted_starts 17 (effect_at d) pack at es n (omega arith) e (get_or pack at 0) refl).1

-- none of the triggers below i holds
abbrev pub Idle : (pack places : List ℕ) (triggers : ℕ) (work : List ℕ) (t : Table) (m i : ℕ) → Type 0
Idle pack places triggers work t m i = (d : Dimensions) (table : List Node) (ts : List Trigger) → Tabled d table work t → Triggered d pack places ts triggers → (j : ℕ) → j < i → holds (meaning t.characters table m) (get_or ts j idle).condition ≡ false

module _ (pack places work : List ℕ) (triggers m : ℕ) (t : Table) where
  pub fire_judged : (f : Firable pack places triggers work t) → m < t.nodes → (i : ℕ) → i < triggers → Judged condition_at pack (get_or places (288 + 2 * i) 0) t work m
  fire_judged f l i h =
      let g = (f.triggered.stands i h idle).condition in
      record { table = f.tabled.fits; there = l; dimensions = f.dimensions; over = f.tabled.over; value = (get_or f.ts i idle).condition; end = g.end; reads = g.reads }

  module _ (i : ℕ) (h : i < triggers) {b : Bool} (judged : (d : Dimensions) → Over d t → (c : Condition) (n : ℕ) → condition_at d pack (get_or places (288 + 2 * i) 0) ≡ done c n → b ≡ holds (state_of t work m) c) where
    held : (d : Dimensions) (table : List Node) (ts : List Trigger) → Tabled d table work t → Triggered d pack places ts triggers → holds (meaning t.characters table m) (get_or ts i idle).condition ≡ b
    held d table ts x y =
        let g = (y.stands i h idle).condition in
        ap (λ (l : List Node). holds (meaning t.characters l m) (get_or ts i idle).condition) (sym x.same) ∙ sym (judged d x.over (get_or ts i idle).condition g.end g.reads)

    pub idle_more : Idle pack places triggers work t m i → b ≡ false → Idle pack places triggers work t m (i + 1)
    idle_more f e d table ts x y = below_more (λ j. holds (meaning t.characters table m) (get_or ts j idle).condition ≡ false) i (f d table ts x y) (held d table ts x y ∙ e)

    pub fires_here : Idle pack places triggers work t m i → b ≡ true → (r : ℕ) → r ≡ get_or places (289 + 2 * i) 0 → Fires pack places triggers work t m r
    fires_here f e r eq d table ts x y =
        let z = meaning t.characters table m in
        let fired : firing ts z ≡ Option.some (get_or ts i idle) = fires-first z ts i (omega (arith, y.long)) (f d table ts x y) (held d table ts x y ∙ e) in
        let g = (y.stands i h idle).effects in
        let place : (288 + 2 * i) + 1 ≡ 289 + 2 * i = omega arith in
        let here : r ≡ get_or places ((288 + 2 * i) + 1) 0 = eq ∙ ap (λ (k : ℕ). get_or places k 0) (sym place) in
        let reads : effects_at d pack r ≡ done (effects_of (firing ts z)) g.end = ap (effects_at d pack) here ∙ g.reads ∙ ap (λ (o : Option Trigger). done (effects_of o) g.end) (sym fired) in
        let inside = effects_inside d pack r (effects_of (firing ts z)) g.end reads in
        record {
          effects = record { none = λ k. absurd (omega (arith, inside)); some = λ k. record { end = g.end; reads = reads } };
          loud = λ k q. let no : Option.some (get_or ts i idle) ≡ Option.none = sym fired ∙ q in let n : ◌≡◌ {A = ℕ} 0 1 = cc in omega arith;
          quiet = λ k. absurd (omega (arith, inside));
        }

  pub fires-nothing : {i : ℕ} → triggers ≤ i → Idle pack places triggers work t m i → Fires pack places triggers work t m 8192
  fires-nothing {i} h f d table ts x y =
      let z = meaning t.characters table m in
      let quiet : firing ts z ≡ Option.none = fires_none z ts (λ j l. f d table ts x y j (omega (arith, y.long))) in
      record { effects = record { none = λ k. ap effects_of quiet; some = λ k. absurd (omega (arith, y.short)) }; loud = λ k q. omega (arith, y.short); quiet = λ k. quiet }

-- row after row
module _ (d : Dimensions) (pack : List ℕ) (ts : List Trigger) (C : ℕ) (table : List Node) where
  pub fired_none : (effects : List ℕ) → FiredBelow d pack ts C table 0 effects false
  fired_none effects = record { each = λ m l. absurd (omega arith); some = λ e. λ f. let n : ◌≡◌ {A = ℕ} 0 1 = ap (λ (b : Bool). cond b 1 0) e in omega arith; none = λ e m l. absurd (omega arith) }

  pub fired_more : {m r : ℕ} {effects : List ℕ} {any b : Bool} → FiredBelow d pack ts C table m effects any → FireIs d pack ts (meaning C table m) r → m < length effects → (b ≡ true → r < length pack) → (b ≡ false → length pack ≤ r)
      → FiredBelow d pack ts C table (m + 1) (set effects m r) (any || b)
  fired_more {m} {r} {effects} {any} {b} x f room if-loud if-quiet = record {
    each = below_more (λ k. FireIs d pack ts (meaning C table k) (get_or (set effects m r) k 0)) m
        (λ k l. subst (FireIs d pack ts (meaning C table k)) (sym (get_or-set_other effects m k r 0 (omega arith))) (x.each k l))
        (subst (FireIs d pack ts (meaning C table m)) (sym (get_or-set_same effects m r 0 room)) f);
    some = some any b x if-loud;
    none = λ e. below_more (λ k. firing ts (meaning C table k) ≡ Option.none) m (x.none (left any b e)) (f.quiet (if-quiet (right any b e)));
  }
    where
      some : (any b : Bool) → FiredBelow d pack ts C table m effects any → (b ≡ true → r < length pack) → (any || b) ≡ true → ((k : ℕ) → k < m + 1 → firing ts (meaning C table k) ≡ Option.none) → ⊥
      some true b x l e q = x.some refl (λ k g. q k (omega arith))
      some false b x l e q = f.loud (l e) (q m (omega arith))

      left : (any b : Bool) → (any || b) ≡ false → any ≡ false
      left true b e = e
      left false b e = refl

      right : (any b : Bool) → (any || b) ≡ false → b ≡ false
      right true b e = let n : ◌≡◌ {A = ℕ} 0 1 = ap (λ (b : Bool). cond b 0 1) e in absurd (omega arith)
      right false b e = e

  pub fired_all : {m n : ℕ} {effects : List ℕ} {any : Bool} → FiredBelow d pack ts C table m effects any → m ≤ n → n ≤ m → FiredBelow d pack ts C table n effects any
  fired_all {m} {n} {effects} {any} x a b = let e : m ≡ n = omega arith in subst (λ (m : ℕ). FiredBelow d pack ts C table m effects any) e x
