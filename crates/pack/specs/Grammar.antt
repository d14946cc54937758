-- The grammar of a pack and of a chart, as readers. Each reader follows one item of document 01, "The pack", in its
-- order.
use Rattle.std.specs.Prelude.{ℕ, suc, ◌+◌, List, length, get_or, ltb, eqb}
use Rattle.pack.specs.Syntax.{Kind, is, is_not, at_least, Test, Condition, Effect}
use Rattle.pack.specs.Syntax.{Action, Trigger, Rule, Theory, Node, Pack}
use Rattle.pack.specs.Reading.{Reader, pick, bind, mapped, runs, many, Reply, gives, refuses, whole}
use Rattle.pack.specs.Number.{number_at, between, item, counted, belief_at, rising_at}

-- what the readers of a pack's parts need of its head
pub record Dimensions : Type 0 where
  pub characters : ℕ
  pub domains : List ℕ

-- "version 1; characters 1 to 6; fluents 1 to 24, then each one's domain size 1 to 128"
unfoldable pub head_at : Reader Dimensions
head_at s at =
    bind (between 1 2 3 s at) (λ version n.
    bind (between 1 7 3 s n) (λ characters n.
    mapped (λ domains. record { characters = characters; domains = domains }) (counted 1 25 (between 1 129 3) s n)))

-- "0 is, 1 is not, 2 at least"
abbrev pub kind_of : ℕ → Kind
kind_of k = pick (eqb k 0) is (pick (eqb k 1) is_not at_least)

module _ (d : Dimensions) where
  -- one of the fluents
  abbrev pub fluent_at : Reader ℕ
  fluent_at = item (length d.domains)

  -- one of the fluent's values: "values run from 0 to size - 1"
  abbrev pub value_at : (fluent : ℕ) → Reader ℕ
  value_at fluent = item (get_or d.domains fluent 0)

  -- "each has a value per fluent, then per character the believed node's number plus 1"
  unfoldable pub node_at : (nodes : ℕ) → Reader Node
  node_at nodes s at =
      bind (runs value_at (λ f v. f + 1) 0 (length d.domains) s at) (λ values n.
      mapped (λ beliefs. record { values = values; beliefs = beliefs }) (many (belief_at nodes) d.characters s n))

  -- "nodes 1 to 32"
  unfoldable pub nodes_at : Reader (List Node)
  nodes_at s at = bind (between 1 33 3 s at) (λ nodes n. many (node_at nodes) nodes s n)

  -- "each a chain length 0 to 4, its characters, a kind, a fluent, a value"
  unfoldable pub test_at : Reader Test
  test_at s at =
      bind (counted 0 5 (item d.characters) s at) (λ chain n.
      bind (item 3 s n) (λ kind n.
      bind (fluent_at s n) (λ fluent n.
      mapped (λ value. record { chain = chain; kind = kind_of kind; fluent = fluent; value = value })
      (value_at fluent s n))))

  -- "A condition: 0 to 8 alternatives, each of 0 to 8 tests"
  unfoldable pub condition_at : Reader Condition
  condition_at = counted 0 9 (counted 0 9 test_at)

  -- "each with whom (0 the state itself, character + 1 that character's belief), fluent, value"
  unfoldable pub effect_at : Reader Effect
  effect_at s at =
      bind (item (d.characters + 1) s at) (λ whom n.
      bind (fluent_at s n) (λ fluent n.
      mapped (λ value. record { whom = whom; fluent = fluent; value = value }) (value_at fluent s n)))

  -- "Effects: a count 0 to 16"
  unfoldable pub effects_at : Reader (List Effect)
  effects_at = counted 0 17 effect_at

  -- "a count of consenters 0 to 6 and the consenters, strictly rising"
  unfoldable pub consenters_at : Reader (List ℕ)
  consenters_at s at = bind (between 0 7 3 s at) (λ k n. runs (rising_at d.characters) (λ least v. v + 1) 0 k s n)

  -- "a condition; effects; a count of consenters 0 to 6 and the consenters, strictly rising; a condition of observation
  -- per character"
  unfoldable pub action_at : Reader Action
  action_at s at =
      bind (condition_at s at) (λ condition n.
      bind (effects_at s n) (λ effects n.
      bind (consenters_at s n) (λ consenters n.
      mapped (λ observed.
      record { condition = condition; effects = effects; consenters = consenters; observed = observed })
      (many condition_at d.characters s n))))

  -- "a condition; effects"
  unfoldable pub trigger_at : Reader Trigger
  trigger_at s at =
      bind (condition_at s at)
      (λ condition n. mapped (λ effects. record { condition = condition; effects = effects }) (effects_at s n))

  -- "each a condition and a worth"
  unfoldable pub rule_at : Reader Rule
  rule_at s at =
      bind (condition_at s at)
      (λ condition n. mapped (λ utility. record { condition = condition; utility = utility }) (number_at s n))

  -- "0 to 8 rules"
  unfoldable pub rules_at : Reader (List Rule)
  rules_at = counted 0 9 rule_at

  -- "actions 0 to 32", "triggers 0 to 16", "worths, the author's first, then each character's"
  unfoldable pub theory_at : Reader Theory
  theory_at s at =
      bind (counted 0 33 action_at s at) (λ actions n.
      bind (counted 0 17 trigger_at s n) (λ triggers n.
      mapped (λ utilities.
      record {
        characters = d.characters;
        domains = d.domains;
        actions = actions;
        triggers = triggers;
        utilities = utilities;
      }) (many rules_at (suc d.characters) s n)))

-- "in this order": the head, the nodes, the rest
unfoldable pub pack_at : Reader Pack
pack_at s at =
    bind (head_at s at) (λ d n.
    bind (nodes_at d s n) (λ nodes n.
    mapped (λ theory. record { theory = theory; nodes = nodes }) (theory_at d s n)))

-- a pack's limit
abbrev pub longest_pack : ℕ
longest_pack = 8192

-- "a pack above 8,192 bytes (place 0, tested first)" is 3
unfoldable pub pack_of : List ℕ → Reply Pack
pack_of bytes = pick (ltb longest_pack (length bytes)) (refuses 3 0) (whole pack_at bytes)

-- "21 to 25, 27 | as 1 to 5 and 7, in a chart"
abbrev pub in_chart : {A : Type 0} → Reply A → Reply A
in_chart (gives a) = gives a
in_chart (refuses k p) = refuses (k + 20) p

-- what the readers of a chart need of the pack that it is read under
abbrev pub dimensions : Theory → Dimensions
dimensions p = record { characters = p.characters; domains = p.domains }

-- "A chart is the node part of a pack, count first. Any such table is read"; it "has no limit of length"
unfoldable pub chart_of : Theory → List ℕ → Reply (List Node)
chart_of p bytes = in_chart (whole (nodes_at (dimensions p)) bytes)
