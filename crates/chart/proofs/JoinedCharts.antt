-- Two charts loaded as one table: each row stands, its beliefs counted on, and means what it meant. Assumes nothing.
use Rattle.std.proofs.Common.{ℕ, ◌+◌, ◌*◌, ◌-◌, ◌<◌, ◌≤◌, ◌≡◌, refl, sym, ap, ◌∙◌, subst, List, add-zero, zero-mul}
use Rattle.std.proofs.Common.{add-mul, arith, length, get_or, ext_get_or}
use Rattle.std.proofs.Math.Logic.{by_cases}
use Rattle.std.proofs.Math.Decide.{dec_lt}
use Rattle.pack.specs.Syntax.{Node}
use Rattle.pack.specs.State.{node, nowhere, target, meaning, Closed}
use Rattle.pack.specs.Duties.Table.{cells, rows_at}
use Rattle.pack.specs.Grammar.{node_at}
use Rattle.pack.specs.Laws.CopiedRows.{NodeBytes, node_bytes_lem}
use Rattle.pack.specs.Laws.PartsFound.{many-length}
use Rattle.pack.specs.Laws.Accepted.{rows_stand, rows_end, nodes_closed}
use Rattle.pack.specs.Laws.Rows.{cells_at}
use Rattle.chart.specs.Laws.Built.{built, copied}
use Rattle.chart.specs.Duties.Out.{Shifts, shifted, RowsPut}
use Rattle.chart.specs.Duties.Look.{NodesRead}
use Rattle.chart.specs.Inner.Match.{Joinable, Joined}
use Rattle.chart.specs.Laws.Cells.{cells-length, row_in, rows_node}
use Rattle.chart.specs.Laws.LoadedNodes.{read_small}

-- the bytes of a chart's nodes
module _ {chart : List ℕ} {n f c : ℕ} {t : List Node} (r : NodesRead chart n f c t) where
  pub read_long : length t ≡ n
  read_long = many-length (node_at r.dimensions n) n chart 1 t (length chart) r.reads

  pub read_closed : Closed c t
  read_closed = subst (λ (k : ℕ). Closed k t) r.shaped.characters (nodes_closed r.dimensions n chart 1 t (length chart) r.reads)

  read_node : (j : ℕ) → j < n → (m : ℕ) × NodeBytes chart (1 + j * (f + c)) f c (node t j) m
  read_node j h = let g = rows_stand r.dimensions f c r.shaped n r.few chart n j 1 t (length chart) nowhere r.reads h in (g.end, node_bytes_lem r.dimensions f c r.shaped n r.few chart (1 + j * (f + c)) (node t j) g.end g.reads)

  pub read_values : (j : ℕ) → j < n → length (node t j).values ≡ f
  read_values j h = (read_node j h).1.values.long

  pub read_value : (j q : ℕ) → j < n → q < f → get_or chart (1 + j * (f + c) + q) 0 ≡ get_or (node t j).values q 0
  read_value j q h l = ((read_node j h).1.values.each 0 q l).0

  -- the nodes lie within the chart
  pub inside : 1 + n * (f + c) ≤ length chart
  inside = omega (arith, rows_end r.dimensions f c r.shaped n r.few chart n 1 t (length chart) r.reads)

  pub read_belief : (j d : ℕ) → j < n → d < c → (get_or chart (1 + j * (f + c) + f + d) 0 ≡ target t j d + 1) × (1 + j * (f + c) + f + d < length chart)
  read_belief j d h l = let (e, i) = (read_node j h).1.beliefs.each 0 d l in (omega (arith, e), i)

-- the nodes of a chart stand as rows k, k + 1, .. of the rows from 1 on, k added to each belief
module _ {src : List ℕ} {n f c : ℕ} {t : List Node} (r : NodesRead src n f c t) (now : List ℕ) (N k : ℕ) {a : ℕ} (at : a ≡ 1 + k * (f + c)) (few : k + n ≤ N)
    (values : (j q : ℕ) → j < n → q < f → get_or now (a + j * (f + c) + q) 0 ≡ get_or src (1 + j * (f + c) + q) 0)
    (beliefs : (j d : ℕ) → j < n → d < c → get_or now (a + j * (f + c) + f + d) 0 ≡ shifted src k 1 (1 + j * (f + c) + f + d)) where
  abbrev T : List Node
  T = rows_at now (f + c) f c 1 N

  spot : (j : ℕ) → 1 + (k + j) * (f + c) ≡ a + j * (f + c)
  spot j = omega (arith, at, add-mul k j (f + c))

  placed_value : (j : ℕ) → j < n → (node T (k + j)).values ≡ (node t j).values
  placed_value j h =
      ap (λ (x : Node). x.values) (rows_node now (f + c) f c 1 N (k + j) (omega arith)) ∙ ap (λ (p : ℕ). cells now p f) (spot j)
      ∙ ext_get_or 0 (cells now (a + j * (f + c)) f) (node t j).values (cells-length now (a + j * (f + c)) f ∙ sym (read_values r j h))
      (λ q l. let g : q < f = omega (arith, cells-length now (a + j * (f + c)) f) in cells_at now (a + j * (f + c)) f q g ∙ values j q h g ∙ read_value r j q h g)

  -- a belief's byte
  pub placed_byte : (j d : ℕ) → j < n → d < c → get_or now (1 + (k + j) * (f + c) + f + d) 0 ≡ k + target t j d
  placed_byte j d h l =
      let (e, i) = read_belief r j d h l in
      ap (λ (p : ℕ). get_or now (p + f + d) 0) (spot j) ∙ beliefs j d h l ∙ (let z : shifted src k 1 (1 + j * (f + c) + f + d) ≡ k + target t j d = omega (arith, e) in z)

  placed_belief : (j d : ℕ) → j < n → d < c → target T (k + j) d ≡ k + target t j d
  placed_belief j d h l =
      ap (λ (x : Node). get_or x.beliefs d 0) (rows_node now (f + c) f c 1 N (k + j) (omega arith)) ∙ cells_at now (1 + (k + j) * (f + c) + f) c d l ∙ placed_byte j d h l

  pub placed_means : meaning c T (k + 0) ≡ meaning c t 0
  placed_means = let long = read_long r in sym (built (copied c T) (record {
    real = λ i h. tt;
    values = λ i h. sym (placed_value i (omega arith));
    inside = λ i d h l. read_closed r i d h l;
    names = λ i d h l. sym (placed_belief i d (omega arith) l);
  }) 0 (omega (arith, r.some)))

  pub placed_below : (j d : ℕ) → j < n → d < c → get_or now (1 + (k + j) * (f + c) + f + d) 0 < k + n
  placed_below j d h l = omega (arith, placed_byte j d h l, read_closed r j d (omega (arith, read_long r)) l, read_long r)

-- both charts
module _ {first second work : List ℕ} {n m f c : ℕ} (p : Joinable first second work n m f c) where
  abbrev w : ℕ
  w = f + c

  pub join_room : (1 + n * w ≤ 961) × ((1 + n * w) + m * w ≤ 1921)
  join_room = (read_small p.read, omega (arith, read_small p.read, read_small p.read_other))

  pub join_inside : (1 + n * w ≤ length first) × (1 + m * w ≤ length second)
  join_inside = (inside p.read, inside p.read_other)

  pub join_shifts : (i d : ℕ) → i < n → d < c → Shifts first 0 1 (1 + i * w + f + d)
  join_shifts i d h l = let (e, g) = read_belief p.read i d h l in (omega (arith, e), omega (arith, e, read_closed p.read i d (omega (arith, read_long p.read)) l, read_long p.read, p.read.few))

  pub join_shifts_other : (i d : ℕ) → i < m → d < c → Shifts second n 1 (1 + i * w + f + d)
  join_shifts_other i d h l = let (e, g) = read_belief p.read_other i d h l in (omega (arith, e), omega (arith, e, read_closed p.read_other i d (omega (arith, read_long p.read_other)) l, read_long p.read_other, p.read_other.few, p.read.few))

  module _ {mid now : List ℕ} (x : RowsPut first work mid w f c 1 1 0 1 n) (y : RowsPut second mid now w f c 1 (1 + n * w) n 1 m) where
    values : (j q : ℕ) → j < n → q < f → get_or now (1 + j * w + q) 0 ≡ get_or first (1 + j * w + q) 0
    values j q h l = y.low (1 + j * w + q) (omega (arith, row_in n w j h)) ∙ x.values j q h l

    beliefs : (j d : ℕ) → j < n → d < c → get_or now (1 + j * w + f + d) 0 ≡ shifted first 0 1 (1 + j * w + f + d)
    beliefs j d h l = y.low (1 + j * w + f + d) (omega (arith, row_in n w j h)) ∙ x.beliefs j d h l

    here : 1 ≡ 1 + 0 * w
    here = omega (arith, zero-mul w)

    sound : (i d : ℕ) → i < n + m → d < c → get_or now (1 + i * w + f + d) 0 < n + m
    sound i d h l =
        by_cases (dec_lt i n)
        (λ g. let z : 0 + i ≡ i = omega arith in omega (arith, ap (λ (i : ℕ). get_or now (1 + i * w + f + d) 0) z, placed_below p.read now (n + m) 0 here (omega arith) values beliefs i d g l))
        (λ g. let z : n + (i - n) ≡ i = omega arith in omega (arith, ap (λ (i : ℕ). get_or now (1 + i * w + f + d) 0) z, placed_below p.read_other now (n + m) n refl (omega arith) y.values y.beliefs (i - n) d (omega arith) l))

    pub joined : Joined first second work now n m f c
    joined = record {
      sound = record { beliefs = sound };
      left = λ t r. placed_means r now (n + m) 0 here (omega arith) values beliefs;
      right = λ u r. ap (meaning c (rows_at now w f c 1 (n + m))) (sym (add-zero n)) ∙ placed_means r now (n + m) n refl (omega arith) y.values y.beliefs;
      high = λ q h. y.high q (omega (arith, join_room)) ∙ x.high q (omega (arith, join_room));
    }
