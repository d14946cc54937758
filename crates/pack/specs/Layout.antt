-- How a pack is written, and which packs keep document 01's layout. `Laws.PackBack` shows that each of those, written
-- so, is read back.
use Rattle.std.specs.Prelude.{ℕ, suc, ◌+◌, ◌/◌, ◌%◌, ◌<◌, ◌≤◌, ◌≡◌, List, [], ◌∷◌, ◌++◌, length, get_or, ltb}
use Rattle.pack.specs.Syntax.{Kind, is, is_not, at_least, Test, Condition, Effect}
use Rattle.pack.specs.Syntax.{Action, Trigger, Rule, Theory, Node, Pack}
use Rattle.pack.specs.Reading.{pick}
use Rattle.pack.specs.Grammar.{longest_pack}

-- "groups of seven bits, lowest first, the top bit set on all but the last"; "shortest form only"
unfoldable pub number_bytes : ℕ → List ℕ
number_bytes v =
    pick (ltb v 128) (v ∷ [])
    (pick (ltb v 16384) ((v % 128 + 128) ∷ (v / 128) ∷ [])
    ((v % 128 + 128) ∷ (v / 128 % 128 + 128) ∷ (v / 16384) ∷ []))

-- one after the other
unfoldable pub list_bytes : {A : Type 0} → (A → List ℕ) → List A → List ℕ
list_bytes f [] = []
list_bytes f (a ∷ rest) = f a ++ list_bytes f rest

-- "every count stands before what it counts"
abbrev pub counted_bytes : {A : Type 0} → (A → List ℕ) → List A → List ℕ
counted_bytes f l = number_bytes (length l) ++ list_bytes f l

-- "0 is, 1 is not, 2 at least"
abbrev pub kind_number : Kind → ℕ
kind_number is = 0
kind_number is_not = 1
kind_number at_least = 2

-- "a chain length 0 to 4, its characters, a kind, a fluent, a value"
abbrev pub test_bytes : Test → List ℕ
test_bytes t =
    counted_bytes number_bytes
    t.chain ++ (number_bytes (kind_number t.kind) ++ (number_bytes t.fluent ++ number_bytes t.value))

-- "0 to 8 alternatives, each of 0 to 8 tests"
abbrev pub condition_bytes : Condition → List ℕ
condition_bytes = counted_bytes (counted_bytes test_bytes)

-- "each with whom .., fluent, value"
abbrev pub effect_bytes : Effect → List ℕ
effect_bytes e = number_bytes e.whom ++ (number_bytes e.fluent ++ number_bytes e.value)

-- "a condition; effects; a count of consenters .. and the consenters ..; a condition of observation per character"
abbrev pub action_bytes : Action → List ℕ
action_bytes a =
    condition_bytes a.condition
    ++ (counted_bytes effect_bytes
    a.effects ++ (counted_bytes number_bytes a.consenters ++ list_bytes condition_bytes a.observed))

-- "a condition; effects"
abbrev pub trigger_bytes : Trigger → List ℕ
trigger_bytes t = condition_bytes t.condition ++ counted_bytes effect_bytes t.effects

-- "each a condition and a worth"
abbrev pub rule_bytes : Rule → List ℕ
rule_bytes r = condition_bytes r.condition ++ number_bytes r.utility

-- "per character the believed node's number plus 1"
abbrev pub node_bytes : Node → List ℕ
node_bytes n = list_bytes number_bytes n.values ++ list_bytes (λ b. number_bytes (suc b)) n.beliefs

-- "A chart is the node part of a pack, count first."
abbrev pub chart_bytes : List Node → List ℕ
chart_bytes = counted_bytes node_bytes

-- "version 1; characters ..; fluents .., then each one's domain size"
abbrev pub head_bytes : Theory → List ℕ
head_bytes p = number_bytes 1 ++ (number_bytes p.characters ++ counted_bytes number_bytes p.domains)

-- "actions ..; triggers ..; worths, the author's first, then each character's"
abbrev pub theory_bytes : Theory → List ℕ
theory_bytes p =
    counted_bytes action_bytes
    p.actions ++ (counted_bytes trigger_bytes p.triggers ++ list_bytes (counted_bytes rule_bytes) p.utilities)

-- "and in this order"
unfoldable pub pack_bytes : Pack → List ℕ
pack_bytes p = head_bytes p.theory ++ (chart_bytes p.nodes ++ theory_bytes p.theory)

-- Each member has a property
unfoldable pub Each : {A : Type 0} → (A → Type 0) → List A → Type 0
Each P [] = Unit {0}
Each P (a ∷ rest) = P a × Each P rest

-- low to high of them, each with the property
abbrev pub Some : {A : Type 0} → (low high : ℕ) → (A → Type 0) → List A → Type 0
Some low high P l = (low ≤ length l) × (length l ≤ high) × Each P l

-- each member is at least `least`, and above the one before it: "strictly rising"
unfoldable pub Rising : ℕ → List ℕ → Type 0
Rising least [] = Unit {0}
Rising least (c ∷ rest) = (least ≤ c) × Rising (suc c) rest

-- one value for each domain, below its size: "values run from 0 to size - 1"
unfoldable pub Valued : (domains values : List ℕ) → Type 0
Valued [] [] = Unit {0}
Valued [] (v ∷ values) = ⊥
Valued (d ∷ domains) [] = ⊥
Valued (d ∷ domains) (v ∷ values) = (v < d) × Valued domains values

-- a fluent that is there, and one of its values
abbrev pub OfFluent : (domains : List ℕ) (fluent value : ℕ) → Type 0
OfFluent domains fluent value = (fluent < length domains) × (value < get_or domains fluent 0)

module _ (C : ℕ) (domains : List ℕ) where
  -- "a chain length 0 to 4, its characters", a fluent that is there and one of its values
  abbrev pub TestFits : Test → Type 0
  TestFits t = Some 0 4 (λ c. c < C) t.chain × OfFluent domains t.fluent t.value

  -- "0 to 8 alternatives, each of 0 to 8 tests"
  abbrev pub ConditionFits : Condition → Type 0
  ConditionFits = Some 0 8 (Some 0 8 TestFits)

  -- "whom (0 the state itself, character + 1 that character's belief), fluent, value"
  abbrev pub EffectFits : Effect → Type 0
  EffectFits e = (e.whom ≤ C) × OfFluent domains e.fluent e.value

  -- "effects: a count 0 to 16"; "consenters 0 to 6 .., strictly rising; a condition of observation per character"
  pub record ActionFits (a : Action) : Type 0 where
    pub condition : ConditionFits a.condition
    pub effects : Some 0 16 EffectFits a.effects
    pub consenters : Some 0 6 (λ c. c < C) a.consenters
    pub rising : Rising 0 a.consenters
    pub observers : length a.observed ≡ C
    pub observed : Each ConditionFits a.observed

  -- "a condition; effects"
  abbrev pub TriggerFits : Trigger → Type 0
  TriggerFits t = ConditionFits t.condition × Some 0 16 EffectFits t.effects

  -- "a condition and a worth"; a number is "at most 65,535"
  abbrev pub RuleFits : Rule → Type 0
  RuleFits r = ConditionFits r.condition × (r.utility ≤ 65535)

  -- "a value per fluent, then per character the believed node's number"
  pub record NodeFits (nodes : ℕ) (n : Node) : Type 0 where
    pub values : Valued domains n.values
    pub believers : length n.beliefs ≡ C
    pub beliefs : Each (λ b. b < nodes) n.beliefs

  -- a table of nodes that a chart may hold
  abbrev pub ChartFits : List Node → Type 0
  ChartFits t = Some 1 32 (NodeFits (length t)) t

-- a pack that keeps the layout
pub record PackFits (p : Pack) : Type 0 where
  pub characters : (1 ≤ p.theory.characters) × (p.theory.characters ≤ 6)
  pub domains : Some 1 24 (λ d. (1 ≤ d) × (d ≤ 128)) p.theory.domains
  pub nodes : ChartFits p.theory.characters p.theory.domains p.nodes
  pub actions : Some 0 32 (ActionFits p.theory.characters p.theory.domains) p.theory.actions
  pub triggers : Some 0 16 (TriggerFits p.theory.characters p.theory.domains) p.theory.triggers
  pub everyone : length p.theory.utilities ≡ suc p.theory.characters
  pub utilities : Each (Some 0 8 (RuleFits p.theory.characters p.theory.domains)) p.theory.utilities
  pub short : length (pack_bytes p) ≤ longest_pack
