-- A state is what each chain of characters finds, and so is a node of a table.
use Rattle.std.specs.Prelude.{ℕ, ◌<◌, ◌≡◌, cond, List, [], ◌∷◌, ◌++◌, get_or, length, ltb}
use Rattle.pack.specs.Syntax.{Node}

-- Document 01, "Charts": "A state means one thing: for each chain of characters of any length, the fluent values found
-- where it leads". "Two states are the same exactly when all these agree": that is equality of these functions.
abbrev pub State : Type 0
State = List ℕ → List ℕ

-- what c believes in s: "the first character's belief, in it the second's, and so on"
abbrev pub belief : State → ℕ → State
belief s c chain = s (c ∷ chain)

-- the state that a chain leads to
unfoldable pub after : State → List ℕ → State
after s chain rest = s (chain ++ rest)

-- each character of the chain is there
unfoldable pub Valid : ℕ → List ℕ → Type 0
Valid C [] = Unit {0}
Valid C (c ∷ chain) = (c < C) × Valid C chain

-- what stands for a node that isn't there
abbrev pub nowhere : Node
nowhere = record { values = []; beliefs = [] }

-- node n of a table: "Characters, fluents, nodes and actions count from 0."
abbrev pub node : List Node → ℕ → Node
node t n = get_or t n nowhere

-- the node that n's belief for c names: "one belief edge per character"
abbrev pub target : List Node → ℕ → ℕ → ℕ
target t n c = get_or (node t n).beliefs c 0

-- the state that node n means; a character that isn't there finds nothing
module _ (C : ℕ) (t : List Node) where
  unfoldable pub meaning : ℕ → State
  meaning n [] = (node t n).values
  meaning n (c ∷ chain) = cond (ltb c C) (meaning (target t n c) chain) []

-- the node where a chain from node n leads
unfoldable pub walk : List Node → ℕ → List ℕ → ℕ
walk t n [] = n
walk t n (c ∷ chain) = walk t (target t n c) chain

-- every belief names a node
abbrev pub Closed : ℕ → List Node → Type 0
Closed C t = (n c : ℕ) → n < length t → c < C → target t n c < length t

-- each node has a value for each fluent
abbrev pub Sized : ℕ → List Node → Type 0
Sized F t = (n : ℕ) → n < length t → length (get_or t n nowhere).values ≡ F
