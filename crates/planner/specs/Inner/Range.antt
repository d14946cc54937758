-- Ranges: for each fluent of a state itself the lowest and the highest value that it may have. What could pass, hold
-- and be had by such values, that what could not is so in no state within them, and what keeps a state within them.
-- What is believed is left open. Assumes nothing.
use Rattle.std.specs.Prelude.{ℕ, zero, suc, ◌<◌, ◌≤◌, ◌≡◌, Bool, not, ◌&&◌, ◌||◌, ◌⊎◌, length, set, leb}
use Rattle.std.proofs.Math.Path.{refl, subst}
use Rattle.std.proofs.Common.{sym, ap, ◌∙◌, inl, inr, get_or-set_same, get_or-set_other}
use Rattle.std.proofs.Math.Bool.{true, false, cond}
use Rattle.std.proofs.Math.Logic.{by_cases}
use Rattle.std.proofs.Math.Option.{some}
use mathlib.Core.List.{List, [], ◌∷◌}
use Rattle.std.proofs.Math.Decide.{ℕ_discrete, dec_lt}
use native.Mathlib.Omega.{arith}
use Rattle.std.proofs.Math.ListN.{get_or}
use Rattle.std.proofs.Math.Dec.{eqb, ltb}
use borrow.Author.Tests.{eq-eqb, ne_eqb, eqb-true, ltb-false, leb-false, le-leb, lt-leb}
use Rattle.pack.specs.Syntax.{Kind, is, is_not, at_least, Effect, Trigger, Test, Condition, Rule, Theory}
use Rattle.pack.specs.State.{State}
use Rattle.pack.specs.Condition.{compares, passes, all_pass, holds, utility, write}
use Rattle.transition.specs.Happening.{change, firing, effects_of, fires, round, Settles}

-- What could hold and be exceeded, by what tests could pass
module _ (may : Test → Bool) where
  unfoldable pub could_all : List Test → Bool
  could_all [] = true
  could_all (x ∷ tests) = may x && could_all tests

  unfoldable pub could_hold : Condition → Bool
  could_hold [] = false
  could_hold (tests ∷ alternatives) = could_all tests || could_hold alternatives

  unfoldable pub could_exceed : ℕ → List Rule → Bool
  could_exceed base [] = false
  could_exceed base (r ∷ rules) = (ltb base r.utility && could_hold r.condition) || could_exceed base rules

-- some value from low to high compares so
unfoldable pub could_meet : Kind → (low high v : ℕ) → Bool
could_meet is low high v = leb low v && leb v high
could_meet is_not low high v = ltb low high || not (eqb low v)
could_meet at_least low high v = leb v high

module _ (lows highs : List ℕ) where
  -- a test could pass: about the state itself, by some value in the fluent's range
  unfoldable pub could_at : List ℕ → Test → Bool
  could_at [] x = could_meet x.kind (get_or lows x.fluent 0) (get_or highs x.fluent 0) x.value
  could_at (c ∷ chain) x = true

  abbrev pub could_pass : Test → Bool
  could_pass x = could_at x.chain x

  -- values within the ranges
  pub record Within (values : List ℕ) : Type 0 where
    pub low : (f : ℕ) → get_or lows f 0 ≤ get_or values f 0
    pub high : (f : ℕ) → get_or values f 0 ≤ get_or highs f 0

  -- what an effect writes into a state itself is in range, and what all effects of a list do
  abbrev pub InRange : Effect → Type 0
  InRange e = e.whom ≡ 0 → (get_or lows e.fluent 0 ≤ e.value) × (e.value ≤ get_or highs e.fluent 0)

  unfoldable pub AllInRange : List Effect → Type 0
  AllInRange [] = Unit {0}
  AllInRange (e ∷ es) = InRange e × AllInRange es

-- `idle` stands for a trigger that isn't there
abbrev pub idle : Trigger
idle = record { condition = []; effects = [] }

-- what the first n triggers write is in range
abbrev pub TriggersInRange : (lows highs : List ℕ) → List Trigger → ℕ → Type 0
TriggersInRange lows highs ts n = (j : ℕ) → j < n → AllInRange lows highs (get_or ts j idle).effects

-- ranges that have all values that others have
pub record Wider (lows highs lows' highs' : List ℕ) : Type 0 where
  pub low : (f : ℕ) → get_or lows' f 0 ≤ get_or lows f 0
  pub high : (f : ℕ) → get_or highs f 0 ≤ get_or highs' f 0

-- flags
pub unequal : true ≡ false → ⊥
unequal e = let z : ◌≡◌ {A = ℕ} 1 0 = ap (λ (b : Bool). cond b 1 0) e in omega arith

pub neither : (a : Bool) {b : Bool} → (a || b) ≡ false → (a ≡ false) × (b ≡ false)
neither true e = absurd (unequal e)
neither false e = (refl, e)

none_of : {a b : Bool} → a ≡ false → b ≡ false → (a || b) ≡ false
none_of {a} {b} e f = subst (λ (a : Bool). (a || b) ≡ false) (sym e) f

-- a flag that is not false is true
pub either : (b : Bool) → (b ≡ true) ⊎ (b ≡ false)
either true = inl refl
either false = inr refl

-- In a state in which no test passes that could not, no condition holds that could not, and no utility is had
module _ (may : Test → Bool) (t : State) (barred : (x : Test) → may x ≡ false → passes t x ≡ false) where
  no_all : (tests : List Test) → could_all may tests ≡ false → all_pass t tests ≡ false
  unfolding could_all all_pass
  no_all [] e = absurd (unequal e)
  no_all (x ∷ tests) e = go (may x) (passes t x) (barred x) (no_all tests) e
    where
      go : (a b : Bool) → (a ≡ false → b ≡ false) → (could_all may tests ≡ false → all_pass t tests ≡ false)
          → (a && could_all may tests) ≡ false → (b && all_pass t tests) ≡ false
      go a false f g e = refl
      go true true f g e = g e
      go false true f g e = absurd (unequal (f refl))

  pub no_hold : (c : Condition) → could_hold may c ≡ false → holds t c ≡ false
  unfolding could_hold holds
  no_hold [] e = refl
  no_hold (tests ∷ alternatives) e =
      let (first, rest) = neither (could_all may tests) e in
      none_of (no_all tests first) (no_hold alternatives rest)

  pub no_exceed : (base : ℕ) (rules : List Rule) → could_exceed may base rules ≡ false → utility t rules ≤ base
  unfolding could_exceed utility
  no_exceed base [] e = omega arith
  no_exceed base (r ∷ rules) e =
      let (first, rest) = neither (ltb base r.utility && could_hold may r.condition) e in
      go (holds t r.condition) refl (ltb base r.utility) refl first (no_exceed base rules rest)
    where
      go : (h : Bool) → holds t r.condition ≡ h → (l : Bool) → ltb base r.utility ≡ l
          → (l && could_hold may r.condition) ≡ false → utility t rules ≤ base
          → cond h r.utility (utility t rules) ≤ base
      go false q l m first more = more
      go true q false m first more = ltb-false base r.utility m
      go true q true m first more = absurd (unequal (sym q ∙ no_hold r.condition first))

-- where no value of a range compares so, none that lies in it does
unmet : (k : Kind) {low high w : ℕ} (v : ℕ) → low ≤ w → w ≤ high → could_meet k low high v ≡ false
    → compares k w v ≡ false
unfolding could_meet compares
unmet is {low} {high} {w} v l h e = ne_eqb w v (λ q. unequal (sym (within q) ∙ e))
  where
    within : w ≡ v → (leb low v && leb v high) ≡ true
    within q =
        ap (λ (b : Bool). b && leb v high) (le-leb low v (omega (arith, l, q)))
        ∙ le-leb v high (omega (arith, h, q))
unmet is_not {low} {high} {w} v l h e =
    let (flat, same) = neither (ltb low high) e in
    let low-is : low ≡ v = eqb-true low v (denied (eqb low v) same) in
    ap not (eq-eqb w v (omega (arith, ltb-false low high flat, low-is, l, h)))
  where
    denied : (b : Bool) → not b ≡ false → b ≡ true
    denied true e = refl
    denied false e = absurd (unequal e)
unmet at_least {low} {high} {w} v l h e = lt-leb v w (omega (arith, leb-false v high e, h))

-- In a state within the ranges no test passes that could not
pub within_barred : {lows highs : List ℕ} (u : State) → Within lows highs (u []) → (x : Test)
    → could_pass lows highs x ≡ false → passes u x ≡ false
unfolding could_at passes
within_barred {lows} {highs} u w x e = go x.chain e
  where
    go : (chain : List ℕ) → could_at lows highs chain x ≡ false
        → compares x.kind (get_or (u chain) x.fluent 0) x.value ≡ false
    go [] e = unmet x.kind x.value (w.low x.fluent) (w.high x.fluent) e
    go (c ∷ chain) e = absurd (unequal e)

-- Wider ranges
module _ {lows highs lows' highs' : List ℕ} (wider : Wider lows highs lows' highs') where
  pub within_wider : {values : List ℕ} → Within lows highs values → Within lows' highs' values
  within_wider w = record {
    low = λ f. omega (arith, wider.low f, w.low f);
    high = λ f. omega (arith, wider.high f, w.high f);
  }

  pub all_wider : (es : List Effect) → AllInRange lows highs es → AllInRange lows' highs' es
  unfolding AllInRange
  all_wider [] c = tt
  all_wider (e ∷ es) (c, cs) = (
    λ q. let (l, h) = c q in
        (omega (arith, wider.low e.fluent, l), omega (arith, wider.high e.fluent, h)),
    all_wider es cs,
  )

pub wider_same : {lows highs : List ℕ} → Wider lows highs lows highs
wider_same = record { low = λ f. omega arith; high = λ f. omega arith }

pub wider_then : {a b c d e f : List ℕ} → Wider a b c d → Wider c d e f → Wider a b e f
wider_then x y = record {
  low = λ i. omega (arith, x.low i, y.low i);
  high = λ i. omega (arith, x.high i, y.high i);
}

-- Effects that write values in range leave a state within the ranges
set_past : (l : List ℕ) (i a : ℕ) → length l ≤ i → get_or (set l i a) i 0 ≡ get_or l i 0
set_past [] i a h = refl
set_past (x ∷ l) zero a h = absurd (omega arith)
set_past (x ∷ l) (suc i) a h = set_past l i a (omega arith)

set_at : (P : ℕ → Type 0) (l : List ℕ) (i a f : ℕ) → P (get_or l f 0) → (i ≡ f → P a) → P (get_or (set l i a) f 0)
set_at P l i a f old new = by_cases (ℕ_discrete f i)
    (λ q. subst (λ (f : ℕ). P (get_or (set l i a) f 0)) (sym q) (by_cases (dec_lt i (length l))
    (λ in-l. subst P (sym (get_or-set_same l i a 0 in-l)) (new (sym q)))
    (λ past. subst P (sym (set_past l i a (omega (arith, past)))) (subst (λ (f : ℕ). P (get_or l f 0)) q old))))
    (λ n. subst P (sym (get_or-set_other l i f a 0 n)) old)

module _ (lows highs : List ℕ) where
  pub write_within : (es : List Effect) (values : List ℕ) → AllInRange lows highs es → Within lows highs values
      → Within lows highs (write 0 es values)
  unfolding write AllInRange
  write_within [] values c w = w
  write_within (e ∷ es) values (c, cs) w =
      write_within es (cond (eqb e.whom 0) (set values e.fluent e.value) values) cs
      (one (eqb e.whom 0) refl)
    where
      one : (b : Bool) → eqb e.whom 0 ≡ b
          → Within lows highs (cond b (set values e.fluent e.value) values)
      one false q = w
      one true q =
          let (l, h) = c (eqb-true e.whom 0 q) in
          record {
            low = λ f. set_at (λ v. get_or lows f 0 ≤ v) values e.fluent e.value f (w.low f)
                (λ s. subst (λ (f : ℕ). get_or lows f 0 ≤ e.value) s l);
            high = λ f. set_at (λ v. v ≤ get_or highs f 0) values e.fluent e.value f (w.high f)
                (λ s. subst (λ (f : ℕ). e.value ≤ get_or highs f 0) s h);
          }

  fires_in : (ts : List Trigger) (s : State) → TriggersInRange lows highs ts (length ts)
      → AllInRange lows highs (fires ts s)
  unfolding firing AllInRange
  fires_in [] s c = tt
  fires_in (t ∷ ts) s c =
      go (holds s t.condition) (c 0 (omega arith)) (fires_in ts s (λ j l. c (suc j) (omega arith)))
    where
      go : (b : Bool) → AllInRange lows highs t.effects → AllInRange lows highs (effects_of (firing ts s))
          → AllInRange lows highs (effects_of (cond b (some t) (firing ts s)))
      go true x y = x
      go false x y = y

  pub settles_within : (p : Theory) → TriggersInRange lows highs p.triggers (length p.triggers)
      → (k : ℕ) (s t : State) → Settles p k s t → Within lows highs (s []) → Within lows highs (t [])
  unfolding round change
  settles_within p c k s t (Settles.still a q) w = w
  settles_within p c k s t (Settles.again {k = j} a q r) w =
      settles_within p c j (round p.triggers s) t r
      (write_within (fires p.triggers s) (s []) (fires_in p.triggers s c) w)
