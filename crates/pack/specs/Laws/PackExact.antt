-- What is accepted keeps the layout and is written as `pack_bytes` writes it: with `PackBack`, reading is exactly the
-- inverse of writing. Assumes nothing.
use Prim.Native.Nat.{ℕ, zero, suc, ◌+◌, ◌-◌, ◌<◌, ◌≤◌}
use Rattle.std.specs.Prelude.{◌≡◌, Bool, true, false, ◌↔◌, ltb, leb, eqb}
use Rattle.std.proofs.Math.Path.{refl, sym, ap, subst}
use Rattle.std.proofs.Common.{◌∙◌, add-zero, add-one}
use mathlib.Core.List.{List, [], ◌∷◌, ◌++◌}
use native.Mathlib.Omega.{arith}
use Rattle.std.proofs.Math.ListN.{length, get_or}
use borrow.Author.Tests.{ltb-false, leb-true, eqb-false}
use Rattle.pack.specs.Syntax.{Theory, Node, Pack}
use Rattle.pack.specs.Reading.{done, refused, pick, runs, Reply, gives, refuses, whole}
use Rattle.pack.specs.Number.{number_at, item, belief_at, rising_at}
use Rattle.pack.specs.Grammar.{Dimensions, head_at, value_at, node_at, nodes_at, kind_of, test_at}
use Rattle.pack.specs.Grammar.{condition_at, effect_at, effects_at, consenters_at, action_at, trigger_at}
use Rattle.pack.specs.Grammar.{rule_at, rules_at, theory_at, pack_at, pack_of, chart_of, dimensions, in_chart}
use Rattle.pack.specs.Layout.{number_bytes, list_bytes, counted_bytes, kind_number, test_bytes, condition_bytes}
use Rattle.pack.specs.Layout.{effect_bytes, action_bytes, trigger_bytes, rule_bytes, node_bytes, chart_bytes}
use Rattle.pack.specs.Layout.{head_bytes}
use Rattle.pack.specs.Layout.{theory_bytes, pack_bytes, Each, Some, Rising, Valued, TestFits, ConditionFits}
use Rattle.pack.specs.Layout.{EffectFits, ActionFits, TriggerFits, RuleFits, NodeFits, ChartFits, PackFits}
use Rattle.pack.specs.Laws.PackBack.{pack_back, chart_back}
use Rattle.pack.specs.Laws.Fits.{sizes_small}
use Rattle.pack.specs.Laws.Reading.{never_gives, same_value, same_place, both, passed, failed}
use Rattle.pack.specs.Laws.Exact.{Stands, Bytes, Exact, number_exact, exact_weak, then_exact}
use Rattle.pack.specs.Laws.Exact.{mapped_exact, between_exact, item_exact, Chained}
use Rattle.pack.specs.Laws.Exact.{runs_exact, many_exact, counted_exact, whole_exact}

-- The parts of a pack
module _ (d : Dimensions) where
  abbrev C : ℕ
  C = d.characters

  abbrev D : List ℕ
  D = d.domains

  kind_number_lem : (k : ℕ) → k < 3 → number_bytes k ≡ number_bytes (kind_number (kind_of k))
  kind_number_lem zero h = refl
  kind_number_lem (suc zero) h = refl
  kind_number_lem (suc (suc zero)) h = refl
  kind_number_lem (suc (suc (suc k))) h = absurd (omega arith)

  test_exact : Exact (test_at d) (TestFits C D) test_bytes
  unfolding test_at
  test_exact =
      then_exact _ _ (λ t. counted_bytes number_bytes t.chain) _ (counted_exact (λ c. c < C) (item_exact C) 0 4)
      (λ chain hc.
      then_exact _ _ (λ t. number_bytes (kind_number t.kind)) _ (item_exact 3) (λ kind hk.
      then_exact _ _ (λ t. number_bytes t.fluent) _ (item_exact (length D)) (λ fluent hf.
      mapped_exact (λ value. record { chain = chain; kind = kind_of kind; fluent = fluent; value = value }) _
      (λ t. number_bytes t.value) (item_exact (get_or D fluent 0)) (λ value hv.
      (((((hc, (hf, hv)), refl), kind_number_lem kind hk), refl), refl)))))

  condition_exact : Exact (condition_at d) (ConditionFits C D) condition_bytes
  unfolding condition_at
  condition_exact = counted_exact (Some 0 8 (TestFits C D)) (counted_exact (TestFits C D) test_exact 0 8) 0 8

  effect_exact : Exact (effect_at d) (EffectFits C D) effect_bytes
  unfolding effect_at
  effect_exact =
      then_exact _ _ (λ e. number_bytes e.whom) _ (item_exact (C + 1)) (λ whom hw.
      then_exact _ _ (λ e. number_bytes e.fluent) _ (item_exact (length D)) (λ fluent hf.
      mapped_exact (λ value. record { whom = whom; fluent = fluent; value = value }) _ (λ e. number_bytes e.value)
      (item_exact (get_or D fluent 0)) (λ value hv.
      ((((omega (arith, hw), (hf, hv)), refl), refl), refl))))

  effects_exact : Exact (effects_at d) (Some 0 16 (EffectFits C D)) (counted_bytes effect_bytes)
  unfolding effects_at
  effects_exact = counted_exact (EffectFits C D) effect_exact 0 16

  -- a consenter, at least `least`
  abbrev Next : ℕ → ℕ → Type 0
  Next least c = (c < C) × (least ≤ c)

  rising_exact : (least : ℕ) → Exact (rising_at C least) (Next least) number_bytes
  unfolding rising_at
  rising_exact least = record {
    sound = λ s bs at v n e.
        let x = both (item C s at) (λ v n. pick (ltb v least) (refused 6 at) (done v n)) v n e in
        let (h, stands, place) = (item_exact C).sound s bs at x.value x.place x.left in
        let (below, given) = failed (ltb x.value least) 6 at (done x.value x.place) v n x.right in
        let same = same_value given in (
          (omega arith, omega (arith, ltb-false x.value least below)),
          subst (λ (w : ℕ). Stands s at (number_bytes w)) same stands,
          sym (same_place given) ∙ place ∙ ap (λ (w : ℕ). at + length (number_bytes w)) same,
        );
  }

  rises : (cs : List ℕ) (least : ℕ) → Chained (rising_at C) (λ least v. v + 1) Next number_bytes rising_exact least cs
      → Each (λ c. c < C) cs × Rising least cs
  unfolding Chained Each Rising
  rises [] least h = (tt, tt)
  rises (c ∷ cs) least h =
      let (x, y) = rises cs (c + 1) h.1 in ((h.0.0, x), (h.0.1, subst (λ (n : ℕ). Rising n cs) (add-one c) y))

  abbrev Consenters : List ℕ → Type 0
  Consenters cs = Some 0 6 (λ c. c < C) cs × Rising 0 cs

  consenters_exact : Exact (consenters_at d) Consenters (counted_bytes number_bytes)
  unfolding consenters_at
  consenters_exact = then_exact _ _ _ _ (between_exact 0 7 3) (λ k h.
      exact_weak (λ l. (length l ≡ k) × Chained (rising_at C) (λ least v. v + 1) Next number_bytes rising_exact 0 l)
      (λ l. Consenters l × (number_bytes k ≡ number_bytes (length l)))
      (λ l g. let (x, y) = rises l 0 g.1 in
      (((omega arith, omega (arith, g.0, h.1), x), y), ap number_bytes (sym g.0)))
      (runs_exact (rising_at C) (λ least v. v + 1) Next number_bytes rising_exact k 0))

  action_exact : Exact (action_at d) (ActionFits C D) action_bytes
  unfolding action_at
  action_exact =
      then_exact _ _ (λ a. condition_bytes a.condition) _ condition_exact (λ condition hc.
      then_exact _ _ (λ a. counted_bytes effect_bytes a.effects) _ effects_exact (λ effects he.
      then_exact _ _ (λ a. counted_bytes number_bytes a.consenters) _ consenters_exact (λ consenters hs.
      mapped_exact (λ observed.
      record { condition = condition; effects = effects; consenters = consenters; observed = observed }) _
      (λ a. list_bytes condition_bytes a.observed) (many_exact (ConditionFits C D) condition_exact C) (λ observed ho. (
        (
          (
            (
              record {
                condition = hc;
                effects = he;
                consenters = hs.0;
                rising = hs.1;
                observers = ho.0;
                observed = ho.1;
              },
              refl,
            ),
            refl,
          ),
          refl,
        ),
        refl,
      )))))

  trigger_exact : Exact (trigger_at d) (TriggerFits C D) trigger_bytes
  unfolding trigger_at
  trigger_exact =
      then_exact _ _ (λ t. condition_bytes t.condition) _ condition_exact
      (λ condition hc.
      mapped_exact (λ effects. record { condition = condition; effects = effects }) _
      (λ t. counted_bytes effect_bytes t.effects) effects_exact (λ effects he. (((hc, he), refl), refl)))

  rule_exact : Exact (rule_at d) (RuleFits C D) rule_bytes
  unfolding rule_at
  rule_exact =
      then_exact _ _ (λ r. condition_bytes r.condition) _ condition_exact
      (λ condition hc.
      mapped_exact (λ utility. record { condition = condition; utility = utility }) _
      (λ r. number_bytes r.utility) number_exact (λ utility hu. (((hc, omega (arith, hu)), refl), refl)))

  rules_exact : Exact (rules_at d) (Some 0 8 (RuleFits C D)) (counted_bytes rule_bytes)
  unfolding rules_at
  rules_exact = counted_exact (RuleFits C D) rule_exact 0 8

  -- the values of a node
  values_fit : (ds values : List ℕ) (f : ℕ) → ((i : ℕ) → get_or D (f + i) 0 ≡ get_or ds i 0) → length values ≡ length ds
      → Chained (value_at d) (λ f v. f + 1) (λ f v. v < get_or D f 0) number_bytes (λ f. item_exact (get_or D f 0)) f
      values
      → Valued ds values
  unfolding Valued Chained
  values_fit [] [] f e l h = tt
  values_fit [] (v ∷ values) f e l h = absurd (omega arith)
  values_fit (x ∷ ds) [] f e l h = absurd (omega arith)
  values_fit (x ∷ ds) (v ∷ values) f e l h =
      let here : get_or D f 0 ≡ x = ap (λ (n : ℕ). get_or D n 0) (sym (add-zero f)) ∙ e 0 in
      let next : (i : ℕ) → get_or D ((f + 1) + i) 0 ≡ get_or ds i 0 = λ i.
      let g : (f + 1) + i ≡ f + suc i = omega arith in
      ap (λ (n : ℕ). get_or D n 0) g ∙ e (suc i) in
      (omega (arith, h.0), values_fit ds values (f + 1) next (omega arith) h.1)

  values_exact : Exact (runs (value_at d) (λ f v. f + 1) 0 (length D)) (Valued D) (list_bytes number_bytes)
  values_exact =
      exact_weak (λ l.
      (length l ≡ length D)
      × Chained (value_at d) (λ f v. f + 1) (λ f v. v < get_or D f 0) number_bytes (λ f. item_exact (get_or D f 0)) 0 l)
      (Valued D)
      (λ l h. values_fit D l 0 (λ i. let g : 0 + i ≡ i = omega arith in ap (λ (n : ℕ). get_or D n 0) g) h.0 h.1)
      (runs_exact (value_at d) (λ f v. f + 1) (λ f v. v < get_or D f 0) number_bytes (λ f. item_exact (get_or D f 0))
      (length D) 0)

  belief_exact : (nodes : ℕ) → Exact (belief_at nodes) (λ b. b < nodes) (λ b. number_bytes (suc b))
  unfolding belief_at
  belief_exact nodes = record {
    sound = λ s bs at b n e.
        let x = both (number_at s at)
        (λ v n. pick (eqb v 0) (refused 5 at) (pick (leb v nodes) (done (v - 1) n) (refused 4 at))) b n e in
        let v = x.value in
        let (h, stands, place) = number_exact.sound s bs at v x.place x.left in
        let (blank, rest) = failed (eqb v 0) 5 at (pick (leb v nodes) (done (v - 1) x.place) (refused 4 at)) b n
        x.right in
        let (there, given) = passed (leb v nodes) 4 at (done (v - 1) x.place) b n rest in
        let some = eqb-false v 0 blank in
        let low = leb-true v nodes there in
        let same : v ≡ suc b = omega (arith, same_value given, some) in (
          omega (arith, low, same),
          subst (λ (w : ℕ). Stands s at (number_bytes w)) same stands,
          sym (same_place given) ∙ place ∙ ap (λ (w : ℕ). at + length (number_bytes w)) same,
        );
  }

  node_exact : (nodes : ℕ) → Exact (node_at d nodes) (NodeFits C D nodes) node_bytes
  unfolding node_at
  node_exact nodes =
      then_exact _ _ (λ n. list_bytes number_bytes n.values) _ values_exact (λ values hv.
      mapped_exact (λ beliefs. record { values = values; beliefs = beliefs }) _
      (λ n. list_bytes (λ b. number_bytes (suc b)) n.beliefs) (many_exact (λ b. b < nodes) (belief_exact nodes) C)
      (λ beliefs hb.
      ((record { values = hv; believers = hb.0; beliefs = hb.1 }, refl), refl)))

  nodes_exact : Exact (nodes_at d) (ChartFits C D) chart_bytes
  unfolding nodes_at
  nodes_exact = then_exact _ _ _ _ (between_exact 1 33 3) (λ k h.
      exact_weak (λ l. (length l ≡ k) × Each (NodeFits C D k) l)
      (λ l. ChartFits C D l × (number_bytes k ≡ number_bytes (length l)))
      (λ l g. (
        (
          omega (arith, g.0, h.0),
          omega (arith, g.0, h.1),
          subst (λ (k : ℕ). Each (NodeFits C D k) l) (sym g.0) g.1,
        ),
        ap number_bytes (sym g.0),
      )) (many_exact (NodeFits C D k) (node_exact k) k))

  theory_exact : Exact (theory_at d)
      (λ p. (dimensions p ≡ d) × Some 0 32 (ActionFits C D) p.actions × Some 0 16 (TriggerFits C D) p.triggers
      × (length p.utilities ≡ suc C) × Each (Some 0 8 (RuleFits C D)) p.utilities) theory_bytes
  unfolding theory_at
  theory_exact =
      then_exact _ _ (λ p. counted_bytes action_bytes p.actions) _ (counted_exact (ActionFits C D) action_exact 0 32)
      (λ actions ha.
      then_exact _ _ (λ p. counted_bytes trigger_bytes p.triggers) _
      (counted_exact (TriggerFits C D) trigger_exact 0 16) (λ triggers ht.
      mapped_exact (λ utilities.
      record { characters = C; domains = D; actions = actions; triggers = triggers; utilities = utilities }) _
      (λ p. list_bytes (counted_bytes rule_bytes) p.utilities)
      (many_exact (Some 0 8 (RuleFits C D)) rules_exact (suc C)) (λ utilities hu.
      ((((refl, ha, ht, hu.0, hu.1), refl), refl), refl))))

abbrev Sizes : Dimensions → Type 0
Sizes d = (1 ≤ d.characters) × (d.characters ≤ 6) × Some 1 24 (λ d. (1 ≤ d) × (d ≤ 128)) d.domains

head_exact : Exact head_at Sizes
    (λ d. number_bytes 1 ++ (number_bytes d.characters ++ counted_bytes number_bytes d.domains))
unfolding head_at
head_exact =
    then_exact _ _ (λ d. number_bytes 1) _ (between_exact 1 2 3) (λ version hv.
    then_exact _ _ (λ d. number_bytes d.characters) _ (between_exact 1 7 3) (λ characters hc.
    mapped_exact (λ domains. record { characters = characters; domains = domains }) _
    (λ d. counted_bytes number_bytes d.domains)
    (counted_exact (λ d. (1 ≤ d) × (d ≤ 128))
    (exact_weak (λ d. (1 ≤ d) × (d < 129)) (λ d. (1 ≤ d) × (d ≤ 128)) (λ d h. (h.0, omega (arith, h.1)))
    (between_exact 1 129 3)) 1 24) (λ domains hd. (
      (
        (
          (hc.0, omega (arith, hc.1), hd),
          ap number_bytes (let one : version ≡ 1 = omega (arith, hv.0, hv.1) in one),
        ),
        refl,
      ),
      refl,
    ))))

-- all of `PackFits` but the limit of length
abbrev Fits : Pack → Type 0
Fits p =
    let C = p.theory.characters in
    let D = p.theory.domains in
    Sizes (dimensions p.theory) × ChartFits C D p.nodes × Some 0 32 (ActionFits C D) p.theory.actions
    × Some 0 16 (TriggerFits C D) p.theory.triggers
    × (length p.theory.utilities ≡ suc C) × Each (Some 0 8 (RuleFits C D)) p.theory.utilities

pack_exact : Exact pack_at Fits pack_bytes
unfolding pack_at pack_bytes
pack_exact =
    then_exact _ _ (λ p. head_bytes p.theory) _ head_exact (λ d hd.
    then_exact _ _ (λ p. chart_bytes p.nodes) _ (nodes_exact d) (λ nodes hn.
    mapped_exact (λ theory. record { theory = theory; nodes = nodes }) _ (λ p. theory_bytes p.theory) (theory_exact d)
    (λ theory ht.
    let e : d ≡ dimensions theory = sym ht.0 in (
      (
        (
          (
            subst Sizes e hd,
            subst (λ (d : Dimensions). ChartFits d.characters d.domains nodes) e hn,
            subst (λ (d : Dimensions). Some 0 32 (ActionFits d.characters d.domains) theory.actions) e ht.1,
            subst (λ (d : Dimensions). Some 0 16 (TriggerFits d.characters d.domains) theory.triggers) e
                ht.2,
            ht.3 ∙ ap (λ (d : Dimensions). suc d.characters) e,
            subst (λ (d : Dimensions). Each (Some 0 8 (RuleFits d.characters d.domains)) theory.utilities) e
                ht.4,
          ),
          ap
              (λ (d : Dimensions).
              number_bytes 1 ++ (number_bytes d.characters ++ counted_bytes number_bytes d.domains)) e,
        ),
        refl,
      ),
      refl,
    ))))

-- A pack is accepted exactly where it keeps the layout, and it is written in one way
pub pack_exactly : (bytes : List ℕ) → Bytes bytes → (p : Pack)
    → (pack_of bytes ≡ gives p) ↔ (PackFits p × (bytes ≡ pack_bytes p))
unfolding pack_of
pack_exactly bytes b p = (λ e. go (ltb 8192 (length bytes)) refl e, λ x. ap pack_of x.1 ∙ pack_back p x.0)
  where
    go : (t : Bool) → ltb 8192 (length bytes) ≡ t → pick t (refuses 3 0) (whole pack_at bytes) ≡ gives p
        → PackFits p × (bytes ≡ pack_bytes p)
    go true q e = never_gives e
    go false q e =
        let (h, same) = whole_exact pack_at Fits pack_bytes pack_exact bytes b p e in (
          record {
            characters = (h.0.0, h.0.1);
            domains = h.0.2;
            nodes = h.1;
            actions = h.2;
            triggers = h.3;
            everyone = h.4;
            utilities = h.5;
            short = omega (arith, ap length same, ltb-false 8192 (length bytes) q);
          },
          same,
        )

-- counts and domain sizes within their limits, as an accepted pack has them
pub record Limits (p : Theory) : Type 0 where
  pub characters : (1 ≤ p.characters) × (p.characters ≤ 6)
  pub fluents : (1 ≤ length p.domains) × (length p.domains ≤ 24)
  pub sizes : (f : ℕ) → get_or p.domains f 0 ≤ 128

pub fits_limits : (p : Pack) → PackFits p → Limits p.theory
fits_limits p h =
    record {
      characters = h.characters;
      fluents = (h.domains.0, h.domains.1);
      sizes = sizes_small p.theory.domains h.domains.2;
    }

-- So is a chart
pub chart_exactly : (p : Theory) → Limits p → (bytes : List ℕ) → Bytes bytes → (t : List Node)
    → (chart_of p bytes ≡ gives t) ↔ (ChartFits p.characters p.domains t × (bytes ≡ chart_bytes t))
unfolding chart_of
chart_exactly p w bytes b t = (
  λ e. whole_exact (nodes_at (dimensions p)) (ChartFits p.characters p.domains) chart_bytes
      (nodes_exact (dimensions p)) bytes b t (plain (whole (nodes_at (dimensions p)) bytes) e),
  λ x. ap (chart_of p) x.1 ∙ chart_back p w.characters.1 w.fluents.1 w.sizes t x.0,
)
  where
    plain : (x : Reply (List Node)) → in_chart x ≡ gives t → x ≡ gives t
    plain (gives u) e = e
    plain (refuses k n) e = never_gives e
