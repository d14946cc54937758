-- What a pack says, apart from its bytes. Document 01, "The pack": "A pack has at most 8,192 bytes, and in this order:
-- ..".
use Rattle.std.specs.Prelude.{ℕ, List}

-- "Test kinds are 0 is, 1 is not, 2 at least."
pub data Kind : Type 0 where
  is is_not at_least : Kind

-- "each a chain length 0 to 4, its characters, a kind, a fluent, a value"
pub record Test : Type 0 where
  pub chain : List ℕ
  pub kind : Kind
  pub fluent : ℕ
  pub value : ℕ

-- "A condition: 0 to 8 alternatives, each of 0 to 8 tests"
abbrev pub Condition : Type 0
Condition = List (List Test)

-- "Effects: a count 0 to 16, each with whom (0 the state itself, character + 1 that character's belief), fluent,
-- value."
pub record Effect : Type 0 where
  pub whom : ℕ
  pub fluent : ℕ
  pub value : ℕ

-- "actions 0 to 32: a condition; effects; a count of consenters 0 to 6 and the consenters, strictly rising; a condition
-- of observation per character"
pub record Action : Type 0 where
  pub condition : Condition
  pub effects : List Effect
  pub consenters : List ℕ
  pub observed : List Condition

-- "triggers 0 to 16: a condition; effects"
pub record Trigger : Type 0 where
  pub condition : Condition
  pub effects : List Effect

-- "0 to 8 rules, each a condition and a worth"; a worth is what the field calls a utility
pub record Rule : Type 0 where
  pub condition : Condition
  pub utility : ℕ

-- All of a pack but its nodes: what can happen and who wants what. Most of document 01 is said of this and of a state.
pub record Theory : Type 0 where
  pub characters : ℕ
  -- "fluents 1 to 24, then each one's domain size 1 to 128"
  pub domains : List ℕ
  pub actions : List Action
  pub triggers : List Trigger
  -- "worths, the author's first, then each character's"
  pub utilities : List (List Rule)

-- how many fluents there are
abbrev pub fluents : Theory → ℕ
fluents p = lib.ListN.length p.domains

-- "each has a value per fluent, then per character the believed node's number plus 1"; here the node's number itself
pub record Node : Type 0 where
  pub values : List ℕ
  pub beliefs : List ℕ

-- "Node 0 is the true start."
pub record Pack : Type 0 where
  pub theory : Theory
  pub nodes : List Node
