-- A reading ends within the bytes, or is refused by a number of 1 to 7, so that the one of a chart is 21 to 27. Assumes
-- nothing.
use Rattle.std.specs.Prelude.{ℕ, zero, suc, ◌+◌, ◌*◌, ◌-◌, ◌%◌, ◌<◌, ◌≤◌, ◌≡◌, refl, Bool, get_or, ltb, leb, eqb}
use Rattle.std.proofs.Common.{sym, subst, leb-false}
use Rattle.std.proofs.Math.Bool.{true, false}
use mathlib.Core.List.{List, ◌∷◌}
use native.Mathlib.Omega.{arith}
use Rattle.std.proofs.Math.ListN.{length}
use Rattle.pack.specs.Syntax.{Theory, Node}
use Rattle.pack.specs.Reading.{Reading, done, refused, Reader, pick, bind, mapped}
use Rattle.pack.specs.Reading.{runs, many, Reply, gives, refuses, ended, whole}
use Rattle.pack.specs.Number.{number_at, between, item, counted, belief_at, rising_at}
use Rattle.pack.specs.Grammar.{Dimensions, head_at, fluent_at, value_at, node_at, nodes_at, test_at}
use Rattle.pack.specs.Grammar.{condition_at, effect_at, effects_at, consenters_at, action_at, trigger_at}
use Rattle.pack.specs.Grammar.{rule_at, rules_at, theory_at, pack_at, pack_of, in_chart, dimensions, chart_of}
use Rattle.pack.specs.Duties.Said.{forget}
use Rattle.pack.specs.Laws.Reading.{never_gives, same_number}
use Rattle.pack.specs.Duties.Places.{Within, Ends}

abbrev pub Bounded : {A : Type 0} → List ℕ → Reading A → Type 0
Bounded s (done a n) = n ≤ length s
Bounded s (refused k p) = (1 ≤ k) × (k ≤ 7)

-- what a reader finds from a place within the bytes on
abbrev pub Bounds : {A : Type 0} → Reader A → Type 0
Bounds p = (s : List ℕ) (at : ℕ) → at ≤ length s → Bounded s (p s at)

bind_bounded : {A B : Type 0} (s : List ℕ) (x : Reading A) (f : A → ℕ → Reading B) → Bounded s x
    → ((a : A) (n : ℕ) → n ≤ length s → Bounded s (f a n)) → Bounded s (bind x f)
bind_bounded s (done a n) f h g = g a n h
bind_bounded s (refused k p) f h g = h

mapped_bounded : {A B : Type 0} (s : List ℕ) (g : A → B) (x : Reading A) → Bounded s x → Bounded s (mapped g x)
mapped_bounded s g (done a n) h = h
mapped_bounded s g (refused k p) h = h

module _ (s : List ℕ) (at v1 v2 v3 : ℕ) where
  numbers_bounded : (a b c d e f g h : Bool) → (a ≡ false → at < length s) → (c ≡ false → at + 1 < length s)
      → (f ≡ false → at + 2 < length s)
      → Bounded s (pick a (refused 1 (length s))
      (pick b (done v1 (at + 1)) (pick c (refused 1 (length s))
      (pick d (refused 2 at) (pick e (done v2 (at + 2))
      (pick f (refused 1 (length s)) (pick g (refused 2 at) (pick h (refused 2 at) (done v3 (at + 3))))))))))
  numbers_bounded true b c d e f g h x y z = omega arith
  numbers_bounded false true c d e f g h x y z = omega (arith, x refl)
  numbers_bounded false false true d e f g h x y z = omega arith
  numbers_bounded false false false true e f g h x y z = omega arith
  numbers_bounded false false false false true f g h x y z = omega (arith, y refl)
  numbers_bounded false false false false false true g h x y z = omega arith
  numbers_bounded false false false false false false true h x y z = omega arith
  numbers_bounded false false false false false false false true x y z = omega arith
  numbers_bounded false false false false false false false false x y z = omega (arith, z refl)

number_bounded : Bounds number_at
unfolding number_at
number_bounded s at l =
    let a = get_or s at 0 in
    let b = get_or s (at + 1) 0 in
    let d = get_or s (at + 2) 0 in
    numbers_bounded s at (a % 128) (a % 128 + 128 * (b % 128)) (a % 128 + 128 * (b % 128) + 16384 * (d % 128))
    (leb (length s) at) (ltb a 128) (leb (length s) (at + 1)) (eqb b 0) (ltb b 128) (leb (length s) (at + 2)) (eqb d 0)
    (ltb 3 d)
    (leb-false (length s) at) (leb-false (length s) (at + 1)) (leb-false (length s) (at + 2))

limits_bounded : (s : List ℕ) (number at v n : ℕ) (a b : Bool) → (1 ≤ number) × (number ≤ 7) → n ≤ length s
    → Bounded s (pick a (refused number at) (pick b (done v n) (refused number at)))
limits_bounded s number at v n true b h l = h
limits_bounded s number at v n false true h l = l
limits_bounded s number at v n false false h l = h

between_bounded : (low limit number : ℕ) → (1 ≤ number) × (number ≤ 7) → Bounds (between low limit number)
unfolding between
between_bounded low limit number h s at l =
    bind_bounded s (number_at s at) _ (number_bounded s at l)
    (λ v n m. limits_bounded s number at v n (ltb v low) (ltb v limit) h m)

blanks_bounded : (s : List ℕ) (at v n : ℕ) (a b : Bool) → n ≤ length s
    → Bounded s (pick a (refused 5 at) (pick b (done v n) (refused 4 at)))
blanks_bounded s at v n true b l = omega arith
blanks_bounded s at v n false true l = l
blanks_bounded s at v n false false l = omega arith

belief_bounded : (nodes : ℕ) → Bounds (belief_at nodes)
unfolding belief_at
belief_bounded nodes s at l =
    bind_bounded s (number_at s at) _ (number_bounded s at l)
    (λ v n m. blanks_bounded s at (v - 1) n (eqb v 0) (leb v nodes) m)

runs_bounded : {S A : Type 0} (p : S → Reader A) (next : S → A → S) → ((z : S) → Bounds (p z)) → (k : ℕ) (z : S)
    → Bounds (runs p next z k)
unfolding runs
runs_bounded p next h zero z s at l = l
runs_bounded p next h (suc k) z s at l =
    bind_bounded s (p z s at) _ (h z s at l)
    (λ a n m.
    mapped_bounded s (λ rest. a ∷ rest) (runs p next (next z a) k s n) (runs_bounded p next h k (next z a) s n m))

pub many_bounded : {A : Type 0} (p : Reader A) → Bounds p → (k : ℕ) → Bounds (many p k)
many_bounded p h k = runs_bounded (λ (z : Unit {0}). p) (λ z a. z) (λ z. h) k tt

counted_bounded : {A : Type 0} (low limit : ℕ) (p : Reader A) → Bounds p → Bounds (counted low limit p)
counted_bounded low limit p h s at l =
    bind_bounded s (between low limit 3 s at) _ (between_bounded low limit 3 (omega arith) s at l)
    (λ k n m. many_bounded p h k s n m)

item_bounded : (limit : ℕ) → Bounds (item limit)
item_bounded limit s at l = between_bounded 0 limit 4 (omega arith) s at l

module _ (d : Dimensions) where
  value_bounded : (fluent : ℕ) → Bounds (value_at d fluent)
  value_bounded fluent = item_bounded (get_or d.domains fluent 0)

  fluent_bounded : Bounds (fluent_at d)
  fluent_bounded = item_bounded (length d.domains)

  node_bounded : (nodes : ℕ) → Bounds (node_at d nodes)
  unfolding node_at
  node_bounded nodes s at l =
      bind_bounded s (runs (value_at d) (λ f v. f + 1) 0 (length d.domains) s at) _
      (runs_bounded (value_at d) (λ f v. f + 1) value_bounded (length d.domains) 0 s at l)
      (λ values n m.
      mapped_bounded s (λ beliefs. record { values = values; beliefs = beliefs })
      (many (belief_at nodes) d.characters s n)
      (many_bounded (belief_at nodes) (belief_bounded nodes) d.characters s n m))

  pub nodes_bounded : Bounds (nodes_at d)
  unfolding nodes_at
  nodes_bounded s at l =
      bind_bounded s (between 1 33 3 s at) _ (between_bounded 1 33 3 (omega arith) s at l)
      (λ k n m. many_bounded (node_at d k) (node_bounded k) k s n m)

  test_bounded : Bounds (test_at d)
  unfolding test_at
  test_bounded s at l =
      bind_bounded s (counted 0 5 (item d.characters) s at) _
      (counted_bounded 0 5 (item d.characters) (item_bounded d.characters) s at l) (λ chain n l.
      bind_bounded s (item 3 s n) _ (item_bounded 3 s n l) (λ kind n l.
      bind_bounded s (fluent_at d s n) _ (fluent_bounded s n l)
      (λ fluent n l. mapped_bounded s _ (value_at d fluent s n) (value_bounded fluent s n l))))

  pub condition_bounded : Bounds (condition_at d)
  unfolding condition_at
  condition_bounded s at l =
      counted_bounded 0 9 (counted 0 9 (test_at d)) (counted_bounded 0 9 (test_at d) test_bounded) s at l

  effect_bounded : Bounds (effect_at d)
  unfolding effect_at
  effect_bounded s at l =
      bind_bounded s (item (d.characters + 1) s at) _ (item_bounded (d.characters + 1) s at l) (λ whom n l.
      bind_bounded s (fluent_at d s n) _ (fluent_bounded s n l)
      (λ fluent n l. mapped_bounded s _ (value_at d fluent s n) (value_bounded fluent s n l)))

  effects_bounded : Bounds (effects_at d)
  unfolding effects_at
  effects_bounded s at l = counted_bounded 0 17 (effect_at d) effect_bounded s at l

  rising_bounded : (least : ℕ) → Bounds (rising_at d.characters least)
  unfolding rising_at
  rising_bounded least s at l =
      bind_bounded s (item d.characters s at) _ (item_bounded d.characters s at l)
      (λ v n m. or_six s at v n (ltb v least) m)
    where
      or_six : (s : List ℕ) (at v n : ℕ) (b : Bool) → n ≤ length s → Bounded s (pick b (refused 6 at) (done v n))
      or_six s at v n true l = omega arith
      or_six s at v n false l = l

  consenters_bounded : Bounds (consenters_at d)
  unfolding consenters_at
  consenters_bounded s at l =
      bind_bounded s (between 0 7 3 s at) _ (between_bounded 0 7 3 (omega arith) s at l)
      (λ k n m. runs_bounded (rising_at d.characters) (λ least v. v + 1) rising_bounded k 0 s n m)

  pub action_bounded : Bounds (action_at d)
  unfolding action_at
  action_bounded s at l =
      bind_bounded s (condition_at d s at) _ (condition_bounded s at l) (λ condition n l.
      bind_bounded s (effects_at d s n) _ (effects_bounded s n l) (λ effects n l.
      bind_bounded s (consenters_at d s n) _ (consenters_bounded s n l) (λ consenters n l.
      mapped_bounded s _ (many (condition_at d) d.characters s n)
      (many_bounded (condition_at d) condition_bounded d.characters s n l))))

  pub trigger_bounded : Bounds (trigger_at d)
  unfolding trigger_at
  trigger_bounded s at l =
      bind_bounded s (condition_at d s at) _ (condition_bounded s at l)
      (λ condition n l. mapped_bounded s _ (effects_at d s n) (effects_bounded s n l))

  rule_bounded : Bounds (rule_at d)
  unfolding rule_at
  rule_bounded s at l =
      bind_bounded s (condition_at d s at) _ (condition_bounded s at l)
      (λ condition n l. mapped_bounded s _ (number_at s n) (number_bounded s n l))

  pub rules_bounded : Bounds (rules_at d)
  unfolding rules_at
  rules_bounded s at l = counted_bounded 0 9 (rule_at d) rule_bounded s at l

  theory_bounded : Bounds (theory_at d)
  unfolding theory_at
  theory_bounded s at l =
      bind_bounded s (counted 0 33 (action_at d) s at) _ (counted_bounded 0 33 (action_at d) action_bounded s at l)
      (λ actions n l.
      bind_bounded s (counted 0 17 (trigger_at d) s n) _ (counted_bounded 0 17 (trigger_at d) trigger_bounded s n l)
      (λ triggers n l.
      mapped_bounded s _ (many (rules_at d) (suc d.characters) s n)
      (many_bounded (rules_at d) rules_bounded (suc d.characters) s n l)))

head_bounded : Bounds head_at
unfolding head_at
head_bounded s at l =
    bind_bounded s (between 1 2 3 s at) _ (between_bounded 1 2 3 (omega arith) s at l) (λ version n l.
    bind_bounded s (between 1 7 3 s n) _ (between_bounded 1 7 3 (omega arith) s n l) (λ characters n l.
    mapped_bounded s _ (counted 1 25 (between 1 129 3) s n)
    (counted_bounded 1 25 (between 1 129 3) (between_bounded 1 129 3 (omega arith)) s n l)))

parts_bounded : Bounds pack_at
unfolding pack_at
parts_bounded s at l =
    bind_bounded s (head_at s at) _ (head_bounded s at l) (λ d n l.
    bind_bounded s (nodes_at d s n) _ (nodes_bounded d s n l)
    (λ nodes n l. mapped_bounded s _ (theory_at d s n) (theory_bounded d s n l)))

whole_bounded : {A : Type 0} (s : List ℕ) (end : ℕ) (x : Reading A) (k p : ℕ) → Bounded s x → ended end x ≡ refuses k p
    → (1 ≤ k) × (k ≤ 7)
whole_bounded s end (done a n) k p h e = at-end (eqb n end) e
  where
    at-end : (b : Bool) → pick b (gives a) (refuses 7 n) ≡ refuses k p → (1 ≤ k) × (k ≤ 7)
    at-end true e = never_gives (sym e)
    at-end false e = let x : 7 ≡ k = same_number e in omega arith
whole_bounded s end (refused j q) k p h e = let x : j ≡ k = same_number e in omega (arith, h)

-- "1 to 7": what a pack is refused under
pub pack-refusal : (s : List ℕ) (k p : ℕ) → pack_of s ≡ refuses k p → (1 ≤ k) × (k ≤ 7)
unfolding pack_of
pack-refusal s k p e = go (ltb 8192 (length s)) e
  where
    go : (b : Bool) → pick b (refuses 3 0) (whole pack_at s) ≡ refuses k p → (1 ≤ k) × (k ≤ 7)
    go true e = let x : 3 ≡ k = same_number e in omega arith
    go false e = whole_bounded s (length s) (pack_at s 0) k p (parts_bounded s 0 (omega arith)) e

-- "21 to 25, 27": what a chart is refused under
pub chart_refusal : (t : Theory) (s : List ℕ) (k p : ℕ) → chart_of t s ≡ refuses k p → (21 ≤ k) × (k ≤ 27)
unfolding chart_of
chart_refusal t s k p e = go (whole (nodes_at (dimensions t)) s) refl e
  where
    go : (x : Reply (List Node)) → whole (nodes_at (dimensions t)) s ≡ x → in_chart x ≡ refuses k p
        → (21 ≤ k) × (k ≤ 27)
    go (gives a) f e = never_gives (sym e)
    go (refuses j q) f e =
        let x : j + 20 ≡ k = same_number e in
        let bounded = nodes_bounded (dimensions t) s 0 (omega arith) in
        omega (arith, whole_bounded s (length s) (nodes_at (dimensions t) s 0) j q bounded f)

-- a refusal that is told fits a byte
pub refusal_bounded : {A B : Type 0} (s : List ℕ) (g : A → B) (x : Reading A) (k p : ℕ) → Bounded s x
    → mapped g x ≡ refused k p → k ≤ 7
refusal_bounded s g x k p h e = (subst (Bounded s) e (mapped_bounded s g x h)).1

-- what is read from a place within the bytes on ends within them
module _ (s : List ℕ) (at : ℕ) (w : Within s at) (n : ℕ) where
  read_within : {A : Type 0} (x : Reading A) (a : A) → Bounded s x → x ≡ done a n → Within s n
  read_within x a h e = (subst (Bounded s) e h, w.1)

  reads_within : {A B : Type 0} (p : Reader A) (g : A → B) (b : B) → Bounds p → mapped g (p s at) ≡ done b n
      → Within s n
  reads_within p g b h e = read_within (mapped g (p s at)) b (mapped_bounded s g (p s at) (h s at w.0)) e

  pub ends_within : {A : Type 0} (p : Reader A) → Bounds p → Ends p s at n → Within s n
  ends_within p h e = reads_within p forget tt h e

  pub count_within : (low limit k : ℕ) → between low limit 3 s at ≡ done k n → Within s n
  count_within low limit k e =
      read_within (between low limit 3 s at) k (between_bounded low limit 3 (omega arith) s at w.0) e

  pub head_within : (d : Dimensions) → head_at s at ≡ done d n → Within s n
  head_within d e = read_within (head_at s at) d (head_bounded s at w.0) e

  module _ (d : Dimensions) where
    pub rows_within : (nodes : ℕ) → Ends (many (node_at d nodes) nodes) s at n → Within s n
    rows_within nodes e =
        ends_within (many (node_at d nodes) nodes) (many_bounded (node_at d nodes) (node_bounded d nodes) nodes) e

    pub condition_within : Ends (condition_at d) s at n → Within s n
    condition_within e = ends_within (condition_at d) (condition_bounded d) e

    pub effects_within : Ends (effects_at d) s at n → Within s n
    effects_within e = ends_within (effects_at d) (effects_bounded d) e

    pub consenters_within : Ends (consenters_at d) s at n → Within s n
    consenters_within e = ends_within (consenters_at d) (consenters_bounded d) e

    pub actions_within : (k : ℕ) → mapped length (counted 0 33 (action_at d) s at) ≡ done k n → Within s n
    actions_within k e =
        reads_within (counted 0 33 (action_at d)) length k (counted_bounded 0 33 (action_at d) (action_bounded d)) e

    pub triggers_within : (k : ℕ) → mapped length (counted 0 17 (trigger_at d) s at) ≡ done k n → Within s n
    triggers_within k e =
        reads_within (counted 0 17 (trigger_at d)) length k (counted_bounded 0 17 (trigger_at d) (trigger_bounded d)) e
