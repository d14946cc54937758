-- A value looked up in a chart that is loaded as a table, and the work buffer cleared behind it. Assumes nothing.
use Rattle.std.specs.Prelude.{ℕ, zero, suc, ◌+◌, ◌*◌, ◌<◌, ◌≤◌, ◌≡◌, refl, List, ◌++◌, length, get_or, drop, replicate}
use Rattle.std.proofs.Common.{sym, ap, ◌∙◌, subst, add-zero, arith, ext_get_or}
use Rattle.std.proofs.lemmas.List.{length-replicate, get_or-replicate}
use Rattle.pack.specs.Syntax.{Node}
use Rattle.pack.specs.State.{node, walk, Valid, meaning}
use Rattle.pack.specs.Duties.Table.{bytes_at, table_of, TableFits, cells, Above}
use Rattle.pack.specs.Duties.Copy.{TableCopied}
use Rattle.pack.specs.Laws.Table.{finds_walk}
use Rattle.pack.specs.declared.table.Table.{Table}
use Rattle.pack.specs.Laws.Rows.{cells_at, value-at}
use Rattle.chart.specs.Call.{work_room, cleared}
use Rattle.chart.specs.Duties.Put.{Cleared}
use Rattle.chart.specs.Duties.Look.{NodesRead, Lookable, Looked}
use Rattle.chart.specs.Laws.Cells.{cells-length}
use Rattle.chart.specs.Laws.ChartBytes.{front_back}
use Rattle.chart.specs.Laws.LoadedNodes.{read_small, read_same, read_fits}

-- all bytes of a list
bytes_length : (s : List ℕ) (at k : ℕ) → length (bytes_at s at k) ≡ k
unfolding bytes_at
bytes_length s at zero = refl
bytes_length s at (suc k) = ap suc (bytes_length s (at + 1) k)

bytes_at_lem : (s : List ℕ) (at k i : ℕ) → i < k → get_or (bytes_at s at k) i 0 ≡ get_or s (at + i) 0
unfolding bytes_at
bytes_at_lem s at zero i h = absurd (omega arith)
bytes_at_lem s at (suc k) zero h = ap (λ (n : ℕ). get_or s n 0) (sym (add-zero at))
bytes_at_lem s at (suc k) (suc i) h =
    let x : (at + 1) + i ≡ at + suc i = omega arith in
    bytes_at_lem s (at + 1) k i (omega arith) ∙ ap (λ (n : ℕ). get_or s n 0) x

bytes_whole : (s : List ℕ) → bytes_at s 0 (length s) ≡ s
bytes_whole s =
    ext_get_or 0 (bytes_at s 0 (length s)) s (bytes_length s 0 (length s))
    (λ i h. let x : 0 + i ≡ i = omega arith in
    bytes_at_lem s 0 (length s) i (omega (arith, bytes_length s 0 (length s))) ∙ ap (λ (n : ℕ). get_or s n 0) x)

-- a work buffer behind which nothing changed, cleared
pub cleared_all : (was : List ℕ) {mid now : List ℕ} → Cleared mid now 0 work_room → Above was mid work_room
    → length now ≡ length was → work_room ≤ length was → now ≡ cleared was
cleared_all was {mid} {now} c above long room =
    front_back was now work_room room long (λ p h. c.high p (omega arith) ∙ above p h)
    ∙ ap (λ (l : List ℕ). l ++ drop work_room was)
    (ext_get_or 0 (cells now 0 work_room) (replicate work_room 0)
    (cells-length now 0 work_room ∙ sym (length-replicate {A = ℕ} work_room 0))
    (λ i h. let g : i < work_room = omega (arith, cells-length now 0 work_room) in
    cells_at now 0 work_room i g ∙ c.clear i g ∙ sym (get_or-replicate {A = ℕ} work_room i 0 0 g)))

module _ {chart : List ℕ} {nodes f c : ℕ} {chain : List ℕ} {fluent : ℕ} {work : List ℕ}
    (p : Lookable chart nodes f c chain fluent work) where
  abbrev pub look_table : Table
  look_table = record { rows = 1; nodes = nodes; fluents = f; characters = c; width = f + c }

  module _ {mid : List ℕ} (x : TableCopied chart 1 nodes work mid 0 f c) where
    pub look_table_lem : TableFits look_table mid
    look_table_lem = read_fits p.read p.room x

    pub look_follows : TableFits look_table mid × (0 < nodes) × (0 + length chain ≤ length chain)
        × Valid c (bytes_at chain 0 (length chain))
    look_follows = (look_table_lem, p.read.some, omega arith, subst (Valid c) (sym (bytes_whole chain)) p.valid)

    module _ {there : ℕ} (at : there ≡ walk (table_of look_table mid) 0 (bytes_at chain 0 (length chain)))
        (in_table : there < nodes) where
      look_value : (t : List Node) → NodesRead chart nodes f c t
          → get_or mid ((1 + there * (f + c)) + fluent) 0 ≡ get_or (meaning c t 0 chain) fluent 0
      look_value t r =
          sym (value-at look_table mid there fluent in_table p.there)
          ∙ ap (λ (l : List Node). get_or (node l there).values fluent 0) same
          ∙ ap (λ (i : ℕ). get_or (node t i).values fluent 0)
          (at ∙ ap (λ (l : List Node). walk l 0 (bytes_at chain 0 (length chain))) same
          ∙ ap (walk t 0) (bytes_whole chain))
          ∙ ap (λ (l : List ℕ). get_or l fluent 0) (sym (finds_walk c t chain 0 p.valid))
        where
          same : table_of look_table mid ≡ t
          same = read_same r x

      pub looked : {now : List ℕ} {v : ℕ} → v ≡ get_or mid ((1 + there * (f + c)) + fluent) 0
          → Cleared mid now 0 work_room
          → length now ≡ length work → Looked chart nodes f c chain fluent work now v
      looked e z long =
          record {
            value = λ t r. e ∙ look_value t r;
            work = cleared_all work z (λ q h. x.above q (omega (arith, read_small p.read))) long p.room;
          }
