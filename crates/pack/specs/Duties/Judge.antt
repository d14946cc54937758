-- What the functions that judge in place ask and promise: a part of the pack is read at a place, and the answer is what
-- the part's meaning says of the state.
use Rattle.std.specs.Prelude.{ℕ, ◌<◌, ◌≤◌, ◌≡◌, List, length, get_or}
use Rattle.pack.specs.Reading.{done, Reader}
use Rattle.pack.specs.Syntax.{Test}
use Rattle.pack.specs.Number.{counted}
use Rattle.pack.specs.Grammar.{Dimensions, test_at}
use Rattle.pack.specs.Duties.Table.{TableFits}
use Rattle.pack.specs.declared.table.Table.{Table}

-- one alternative of a condition
abbrev pub alternative_at : Dimensions → Reader (List Test)
alternative_at d = counted 0 9 (test_at d)

-- dimensions as an accepted pack has them: every number of a condition or of an effect is one byte
pub record Small (d : Dimensions) : Type 0 where
  pub characters : d.characters ≤ 6
  pub fluents : length d.domains ≤ 24
  pub sizes : (f : ℕ) → get_or d.domains f 0 ≤ 128

-- a table over these dimensions
pub record Over (d : Dimensions) (t : Table) : Type 0 where
  pub small : Small d
  pub characters : d.characters ≡ t.characters
  pub fluents : length d.domains ≡ t.fluents

-- at a place, something is read over small dimensions
pub record Readable {A : Type 0} (p : Dimensions → Reader A) (s : List ℕ) (at : ℕ) : Type 0 where
  pub over : Dimensions
  pub small : Small over
  pub value : A
  pub end : ℕ
  pub reads : p over s at ≡ done value end

-- the same, over a table in a buffer and one of its nodes
pub record Judged {A : Type 0} (p : Dimensions → Reader A) (s : List ℕ) (at : ℕ) (t : Table) (buffer : List ℕ)
    (node : ℕ) : Type 0 where
  pub table : TableFits t buffer
  pub there : node < t.nodes
  pub dimensions : Dimensions
  pub over : Over dimensions t
  pub value : A
  pub end : ℕ
  pub reads : p dimensions s at ≡ done value end

-- what r tells of what is read at a place, and that r is the place behind it: over whatever small dimensions it is read
abbrev pub Tells : {A B : Type 0} (p : Dimensions → Reader A) (f : A → B) (s : List ℕ) (at : ℕ) (r : B) → Type 0
Tells {A} p f s at r = (d : Dimensions) → Small d → (x : A) (n : ℕ) → p d s at ≡ done x n → r ≡ f x

abbrev pub Ends : {A : Type 0} (p : Dimensions → Reader A) (s : List ℕ) (at r : ℕ) → Type 0
Ends {A} p s at r = (d : Dimensions) → Small d → (x : A) (n : ℕ) → p d s at ≡ done x n → r ≡ n
