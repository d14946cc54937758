-- Rows of bytes as nodes. Assumes nothing.
use Rattle.std.specs.Prelude.{ℕ, zero, suc, ◌+◌, ◌*◌, ◌<◌, ◌≡◌, refl, List, [], ◌∷◌, ◌++◌, length}
use Rattle.std.proofs.Math.Path.{ap}
use Rattle.std.proofs.Common.{◌∙◌, arith, length-append}
use Rattle.std.proofs.Math.Decide.{dec_lt}
use Rattle.std.proofs.Math.ListN.{get_or, get_or-append}
use Rattle.std.proofs.lemmas.List.{get_or_at}
use Rattle.std.proofs.Math.Arith.{digits_lt}
use Rattle.pack.specs.Syntax.{Node}
use Rattle.pack.specs.State.{node, nowhere, target, walk}
use Rattle.pack.specs.Duties.Table.{upto, cells, row_at, rows_at, table_of, TableFits}
use Rattle.pack.specs.declared.table.Table.{Table}

pub upto-length : {A : Type 0} (g : ℕ → A) (n : ℕ) → length (upto g n) ≡ n
unfolding upto
upto-length g zero = refl
upto-length g (suc n) = length-append (upto g n) (g n ∷ []) ∙ (let e = upto-length g n in omega arith)

pub upto-at : {A : Type 0} (g : ℕ → A) (n i : ℕ) (x : A) → i < n → get_or (upto g n) i x ≡ g i
unfolding upto
upto-at g zero i x h = absurd (omega arith)
upto-at {A = A} g (suc n) i x h = go (upto-at g n i x) (dec_lt i n)
  where
    go : (i < n → get_or (upto g n) i x ≡ g i) → Dec (i < n) → get_or (upto g n ++ (g n ∷ [])) i x ≡ g i
    go f (yes l) = get_or-append (upto g n) (g n ∷ []) x i (omega (arith, upto-length g n)) ∙ f l
    go f (no l) = let e : n ≡ i = omega arith in get_or_at (upto g n) (g n) [] x i (upto-length g n ∙ e) ∙ ap g e

pub cells_at : (bytes : List ℕ) (a k i : ℕ) → i < k → get_or (cells bytes a k) i 0 ≡ get_or bytes (a + i) 0
unfolding cells
cells_at bytes a k i h = upto-at (λ i. get_or bytes (a + i) 0) k i 0 h

pub rows_length : (bytes : List ℕ) (w f c a n : ℕ) → length (rows_at bytes w f c a n) ≡ n
unfolding rows_at
rows_length bytes w f c a n = upto-length (λ i. row_at bytes f c (a + i * w)) n

pub rows_at_lem : (bytes : List ℕ) (w f c a n i : ℕ) → i < n
    → node (rows_at bytes w f c a n) i ≡ row_at bytes f c (a + i * w)
unfolding rows_at
rows_at_lem bytes w f c a n i h = upto-at (λ i. row_at bytes f c (a + i * w)) n i nowhere h

module _ (t : Table) (buffer : List ℕ) where
  -- a value, and a belief, of a node
  pub value-at : (i k : ℕ) → i < t.nodes → k < t.fluents
      → get_or (node (table_of t buffer) i).values k 0 ≡ get_or buffer ((t.rows + i * t.width) + k) 0
  unfolding row_at
  value-at i k h g =
      ap (λ (x : Node). get_or x.values k 0) (rows_at_lem buffer t.width t.fluents t.characters t.rows
      t.nodes i h)
      ∙ cells_at buffer (t.rows + i * t.width) t.fluents k g

  pub belief-at : (i k : ℕ) → i < t.nodes → k < t.characters
      → target (table_of t buffer) i k ≡ get_or buffer (((t.rows + i * t.width) + t.fluents) + k) 0
  unfolding row_at
  belief-at i k h g =
      ap (λ (x : Node). get_or x.beliefs k 0)
      (rows_at_lem buffer t.width t.fluents t.characters t.rows t.nodes i h)
      ∙ cells_at buffer ((t.rows + i * t.width) + t.fluents) t.characters k g

  module _ (fits : TableFits t buffer) where
    -- each byte of a row is in the buffer
    pub cell_in : (i k : ℕ) → i < t.nodes → k < t.width → (t.rows + i * t.width) + k < length buffer
    cell_in i k h g = let e : i * t.width + k < t.nodes * t.width = digits_lt h g in omega (arith, fits.inside)

    -- each belief is a node
    pub belief_in_table : (i k : ℕ) → i < t.nodes → k < t.characters
        → get_or buffer (((t.rows + i * t.width) + t.fluents) + k) 0 < t.nodes
    belief_in_table i k h g =
        let e = belief-at i k h g in
        let l = rows_length buffer t.width t.fluents t.characters t.rows t.nodes in
        let c = fits.closed i k (omega arith) g in
        omega arith

    -- one step of a walk
    pub walk-one : (i c : ℕ) (rest : List ℕ) → i < t.nodes → c < t.characters
        → walk (table_of t buffer) i (c ∷ rest)
        ≡ walk (table_of t buffer) (get_or buffer (((t.rows + i * t.width) + t.fluents) + c) 0) rest
    unfolding walk
    walk-one i c rest h g = ap (λ (j : ℕ). walk (table_of t buffer) j rest) (belief-at i c h g)
