-- Every pack that keeps the layout, written as `pack_bytes` writes it, is read back; and so is every chart. Assumes
-- nothing.
use Prim.Native.Nat.{ℕ, suc, ◌+◌, ◌-◌, ◌<◌, ◌≤◌}
use Rattle.std.specs.Prelude.{◌≡◌, refl, length, replicate}
use Rattle.std.proofs.Common.{sym, ◌∙◌, add-zero, add-one}
use Rattle.std.proofs.Math.Path.{ap, subst}
use mathlib.Core.List.{List, [], ◌∷◌}
use native.Mathlib.Omega.{arith}
use Rattle.std.proofs.Math.ListN.{get_or}
use Rattle.std.proofs.lemmas.List.{length-replicate}
use borrow.Author.Tests.{le-ltb, le-leb, ne_eqb}
use Rattle.pack.specs.Syntax.{Kind, is, is_not, at_least, Test, Condition, Effect}
use Rattle.pack.specs.Syntax.{Action, Trigger, Rule, Theory, Node, Pack}
use Rattle.pack.specs.Reading.{runs, gives, whole}
use Rattle.pack.specs.Number.{belief_at, rising_at}
use Rattle.pack.specs.Grammar.{Dimensions, head_at, fluent_at, value_at, node_at, nodes_at, kind_of, test_at}
use Rattle.pack.specs.Grammar.{condition_at, effect_at, effects_at, consenters_at, action_at, trigger_at}
use Rattle.pack.specs.Grammar.{rule_at, rules_at, theory_at, pack_at, pack_of, chart_of, dimensions, in_chart}
use Rattle.pack.specs.Laws.Fits.{valued-length, sizes_small, widest, widest_small, fits-widest}
use Rattle.pack.specs.Laws.Reading.{same_gift}
use Rattle.pack.specs.Layout.{number_bytes, list_bytes, counted_bytes, kind_number, test_bytes, condition_bytes}
use Rattle.pack.specs.Layout.{effect_bytes, action_bytes, trigger_bytes, rule_bytes, node_bytes, chart_bytes}
use Rattle.pack.specs.Layout.{head_bytes}
use Rattle.pack.specs.Layout.{theory_bytes, pack_bytes, Each, Some, Rising, Valued, TestFits, ConditionFits}
use Rattle.pack.specs.Layout.{EffectFits, ActionFits, TriggerFits, RuleFits, NodeFits, ChartFits, PackFits}
use Rattle.pack.specs.Laws.Accepts.{Accepts, number_accepts, then_accepts, mapped_accepts}
use Rattle.pack.specs.Laws.Accepts.{between_accepts, item_accepts, Run, runs_accepts}
use Rattle.pack.specs.Laws.Accepts.{many_accepts, many_of, counted_accepts, whole_accepts}

module _ (d : Dimensions) (few : d.characters ≤ 6) (slim : length d.domains ≤ 24)
    (small : (f : ℕ) → get_or d.domains f 0 ≤ 128) where
  abbrev C : ℕ
  C = d.characters

  abbrev D : List ℕ
  D = d.domains

  kind_back : (k : Kind) → kind_of (kind_number k) ≡ k
  kind_back is = refl
  kind_back is_not = refl
  kind_back at_least = refl

  kind_low : (k : Kind) → kind_number k < 3
  kind_low is = omega arith
  kind_low is_not = omega arith
  kind_low at_least = omega arith

  fluent_accepts : (f : ℕ) → f < length D → Accepts (fluent_at d) (number_bytes f) f
  fluent_accepts f h = item_accepts (length D) f h (omega arith)

  value_accepts : (f v : ℕ) → v < get_or D f 0 → Accepts (value_at d f) (number_bytes v) v
  value_accepts f v h = item_accepts (get_or D f 0) v h (omega (arith, small f))

  test_accepts : (t : Test) → TestFits C D t → Accepts (test_at d) (test_bytes t) t
  unfolding test_at
  test_accepts t h =
      subst (Accepts (test_at d) (test_bytes t))
      (λ i. record { chain = t.chain; kind = kind_back t.kind i; fluent = t.fluent; value = t.value })
      (then_accepts _ (counted_accepts (λ c l. item_accepts C c l (omega arith)) 0 4 (omega arith) t.chain h.0)
      (then_accepts _ (item_accepts 3 (kind_number t.kind) (kind_low t.kind) (omega arith))
      (then_accepts _ (fluent_accepts t.fluent h.1.0)
      (mapped_accepts (λ value.
      record { chain = t.chain; kind = kind_of (kind_number t.kind); fluent = t.fluent; value = value })
      (value_accepts t.fluent t.value h.1.1)))))

  condition_accepts : (c : Condition) → ConditionFits C D c → Accepts (condition_at d) (condition_bytes c) c
  unfolding condition_at
  condition_accepts c h =
      counted_accepts (λ ts g. counted_accepts test_accepts 0 8 (omega arith) ts g) 0 8 (omega arith) c h

  effect_accepts : (e : Effect) → EffectFits C D e → Accepts (effect_at d) (effect_bytes e) e
  unfolding effect_at
  effect_accepts e h =
      then_accepts _ (item_accepts (C + 1) e.whom (omega (arith, h.0)) (omega arith))
      (then_accepts _ (fluent_accepts e.fluent h.1.0)
      (mapped_accepts (λ value. record { whom = e.whom; fluent = e.fluent; value = value })
      (value_accepts e.fluent e.value h.1.1)))

  effects_accepts : (es : List Effect) → Some 0 16 (EffectFits C D) es
      → Accepts (effects_at d) (counted_bytes effect_bytes es) es
  unfolding effects_at
  effects_accepts es h = counted_accepts effect_accepts 0 16 (omega arith) es h

  rising_accepts : (least c : ℕ) → least ≤ c → c < C → Accepts (rising_at C least) (number_bytes c) c
  unfolding rising_at
  rising_accepts least c h l =
      record { reads = λ pre post. rw ((item_accepts C c l (omega arith)).reads pre post, le-ltb c least h) }

  rising_run : (cs : List ℕ) (least : ℕ) → Each (λ c. c < C) cs → Rising least cs
      → Run (rising_at C) (λ least v. v + 1) number_bytes least cs
  unfolding Each Rising Run
  rising_run [] least e r = tt
  rising_run (c ∷ cs) least e r = (
    rising_accepts least c r.0 e.0,
    rising_run cs (c + 1) e.1 (subst (λ (n : ℕ). Rising n cs) (sym (add-one c)) r.1),
  )

  consenters_accepts : (cs : List ℕ) → Some 0 6 (λ c. c < C) cs → Rising 0 cs
      → Accepts (consenters_at d) (counted_bytes number_bytes cs) cs
  unfolding consenters_at
  consenters_accepts cs h r =
      then_accepts _ (between_accepts 0 7 3 (length cs) h.0 (omega (arith, h.1)) (omega arith))
      (runs_accepts (rising_at C) (λ least v. v + 1) number_bytes cs 0 (rising_run cs 0 h.2 r))

  action_accepts : (a : Action) → ActionFits C D a → Accepts (action_at d) (action_bytes a) a
  unfolding action_at
  action_accepts a h =
      then_accepts _ (condition_accepts a.condition h.condition)
      (then_accepts _ (effects_accepts a.effects h.effects)
      (then_accepts _ (consenters_accepts a.consenters h.consenters h.rising)
      (mapped_accepts (λ observed.
      record { condition = a.condition; effects = a.effects; consenters = a.consenters; observed = observed })
      (many_of condition_accepts C a.observed h.observers h.observed))))

  trigger_accepts : (t : Trigger) → TriggerFits C D t → Accepts (trigger_at d) (trigger_bytes t) t
  unfolding trigger_at
  trigger_accepts t h =
      then_accepts _ (condition_accepts t.condition h.0)
      (mapped_accepts (λ effects. record { condition = t.condition; effects = effects })
      (effects_accepts t.effects h.1))

  rule_accepts : (r : Rule) → RuleFits C D r → Accepts (rule_at d) (rule_bytes r) r
  unfolding rule_at
  rule_accepts r h =
      then_accepts _ (condition_accepts r.condition h.0)
      (mapped_accepts (λ utility. record { condition = r.condition; utility = utility })
      (number_accepts r.utility (omega (arith, h.1))))

  rules_accepts : (rs : List Rule) → Some 0 8 (RuleFits C D) rs → Accepts (rules_at d) (counted_bytes rule_bytes rs) rs
  unfolding rules_at
  rules_accepts rs h = counted_accepts rule_accepts 0 8 (omega arith) rs h

  -- the values of a node: those left, from fluent f on
  values_run : (ds values : List ℕ) (f : ℕ) → ((i : ℕ) → get_or D (f + i) 0 ≡ get_or ds i 0) → Valued ds values
      → Run (value_at d) (λ f v. f + 1) number_bytes f values
  unfolding Valued Run
  values_run [] [] f e h = tt
  values_run [] (v ∷ values) f e h = absurd h
  values_run (x ∷ ds) [] f e h = absurd h
  values_run (x ∷ ds) (v ∷ values) f e h =
      let here : get_or D f 0 ≡ x = ap (λ (n : ℕ). get_or D n 0) (sym (add-zero f)) ∙ e 0 in
      let next : (i : ℕ) → get_or D ((f + 1) + i) 0 ≡ get_or ds i 0 = λ i.
      let g : (f + 1) + i ≡ f + suc i = omega arith in
      ap (λ (n : ℕ). get_or D n 0) g ∙ e (suc i) in
      (value_accepts f v (omega (arith, h.0)), values_run ds values (f + 1) next h.1)

  values_accepts : (values : List ℕ) → Valued D values
      → Accepts (runs (value_at d) (λ f v. f + 1) 0 (length D)) (list_bytes number_bytes values) values
  values_accepts values h =
      subst (λ (k : ℕ). Accepts (runs (value_at d) (λ f v. f + 1) 0 k) (list_bytes number_bytes values) values)
      (valued-length D values h)
      (runs_accepts (value_at d) (λ f v. f + 1) number_bytes values 0
      (values_run D values 0 (λ i. let g : 0 + i ≡ i = omega arith in ap (λ (n : ℕ). get_or D n 0) g) h))

  belief_accepts : (nodes b : ℕ) → nodes ≤ 32 → b < nodes → Accepts (belief_at nodes) (number_bytes (suc b)) b
  unfolding belief_at
  belief_accepts nodes b w h = record {
    reads = λ pre post.
        let z : suc b ≡ 0 → ⊥ = omega arith in
        let g : suc b - 1 ≡ b = omega arith in
        rw ((number_accepts (suc b) (omega arith)).reads pre post, ne_eqb (suc b) 0 z, le-leb (suc b) nodes h, g);
  }

  node_accepts : (nodes : ℕ) → nodes ≤ 32 → (n : Node) → NodeFits C D nodes n
      → Accepts (node_at d nodes) (node_bytes n) n
  unfolding node_at
  node_accepts nodes w n h =
      then_accepts _ (values_accepts n.values h.values)
      (mapped_accepts (λ beliefs. record { values = n.values; beliefs = beliefs })
      (many_of (λ b g. belief_accepts nodes b w g) C n.beliefs h.believers h.beliefs))

  nodes_accepts : (t : List Node) → ChartFits C D t → Accepts (nodes_at d) (chart_bytes t) t
  unfolding nodes_at
  nodes_accepts t h =
      then_accepts _ (between_accepts 1 33 3 (length t) h.0 (omega (arith, h.1)) (omega arith))
      (many_accepts (node_accepts (length t) h.1) t h.2)

module _ (p : Pack) (h : PackFits p) where
  abbrev T : Theory
  T = p.theory

  head_accepts : Accepts head_at (head_bytes T) (dimensions T)
  unfolding head_at
  head_accepts =
      then_accepts _ (between_accepts 1 2 3 1 (omega arith) (omega arith) (omega arith))
      (then_accepts _
      (between_accepts 1 7 3 T.characters h.characters.0 (omega (arith, h.characters.1)) (omega arith))
      (mapped_accepts (λ domains. record { characters = T.characters; domains = domains })
      (counted_accepts (λ d g. between_accepts 1 129 3 d g.0 (omega (arith, g.1)) (omega arith)) 1 24 (omega arith)
      T.domains h.domains)))

  theory_accepts : Accepts (theory_at (dimensions T)) (theory_bytes T) T
  unfolding theory_at
  theory_accepts =
      let d = dimensions T in
      let few = h.characters.1 in
      let slim = h.domains.1 in
      let small = sizes_small T.domains h.domains.2 in
      then_accepts _ (counted_accepts (action_accepts d few slim small) 0 32 (omega arith) T.actions h.actions)
      (then_accepts _
      (counted_accepts (trigger_accepts d few slim small) 0 16 (omega arith) T.triggers h.triggers)
      (mapped_accepts (λ utilities.
      record {
        characters = T.characters;
        domains = T.domains;
        actions = T.actions;
        triggers = T.triggers;
        utilities = utilities;
      })
      (many_of (rules_accepts d few slim small) (suc T.characters) T.utilities h.everyone h.utilities)))

  pack_accepts : Accepts pack_at (pack_bytes p) p
  unfolding pack_at pack_bytes
  pack_accepts =
      then_accepts _ head_accepts
      (then_accepts _ (nodes_accepts (dimensions T) h.characters.1 h.domains.1
      (sizes_small T.domains h.domains.2) p.nodes h.nodes)
      (mapped_accepts (λ theory. record { theory = theory; nodes = p.nodes }) theory_accepts))

-- Every pack that keeps the layout is accepted, and read as what was written
pub pack_back : (p : Pack) → PackFits p → pack_of (pack_bytes p) ≡ gives p
unfolding pack_of
pack_back p h =
    rw (le-ltb 8192 (length (pack_bytes p)) h.short) (whole_accepts pack_at (pack_bytes p) p (pack_accepts p h))

-- So is every chart, under any theory whose counts and domain sizes are within their limits
pub chart_back : (p : Theory) → p.characters ≤ 6 → length p.domains ≤ 24 → ((f : ℕ) → get_or p.domains f 0 ≤ 128)
    → (t : List Node) → ChartFits p.characters p.domains t → chart_of p (chart_bytes t) ≡ gives t
unfolding chart_of
chart_back p few slim small t h =
    ap in_chart
    (whole_accepts (nodes_at (dimensions p)) (chart_bytes t) t (nodes_accepts (dimensions p) few slim small t h))

-- Charts over equally many characters and fluents that are written in the same bytes are the same rows
pub chart_bytes_one : (C : ℕ) (D D' : List ℕ) → C ≤ 6 → length D ≤ 24 → length D ≡ length D'
    → ((f : ℕ) → get_or D f 0 ≤ 128) → ((f : ℕ) → get_or D' f 0 ≤ 128)
    → (t u : List Node) → ChartFits C D t → ChartFits C D' u → chart_bytes t ≡ chart_bytes u → t ≡ u
chart_bytes_one C D D' few slim e small small' t u ft fu same =
    same_gift (sym (back t (fits-widest C D small t ft)) ∙ ap (whole (nodes_at d)) same
    ∙ back u (subst (λ (n : ℕ). ChartFits C (replicate n 128) u) (sym e) (fits-widest C D' small' u fu)))
  where
    d : Dimensions
    d = record { characters = C; domains = widest D }

    back : (t : List Node) → ChartFits C (widest D) t → whole (nodes_at d) (chart_bytes t) ≡ gives t
    back t h = whole_accepts (nodes_at d) (chart_bytes t) t
        (nodes_accepts d few (omega (arith, length-replicate {A = ℕ} (length D) 128)) (widest_small D) t h)
