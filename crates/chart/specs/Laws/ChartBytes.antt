-- Rows written out are the chart's bytes, and nothing beyond them changes. Assumes nothing.
use Rattle.std.specs.Prelude.{◌≡◌, get_or, set}
use Rattle.std.proofs.Math.Path.{refl, sym, ap, ap₂}
use Rattle.std.proofs.Common.{◌∙◌, subst, add-zero, zero-mul, add-one, arith, length-append, length-drop}
use Rattle.std.proofs.Common.{get_or-append-add, get_or-drop, ext_get_or, List, [], ◌∷◌, ◌++◌, map, append_assoc}
use Rattle.std.proofs.Common.{append-nil, ℕ, zero, suc, ◌+◌, ◌*◌, ◌<◌, ◌≤◌, ◌-◌}
use Rattle.std.proofs.Math.Logic.{by_cases}
use Rattle.std.proofs.Math.Nat.{suc-mul}
use Rattle.std.proofs.Math.Decide.{dec_lt}
use Rattle.std.proofs.Math.ListN.{length, drop, get_or-append}
use Rattle.std.proofs.lemmas.List.{length-map}
use Rattle.std.proofs.Math.Seq.{get_or-set_same, get_or-set_other}
use Rattle.pack.specs.Syntax.{Node}
use Rattle.pack.specs.Layout.{number_bytes, list_bytes, node_bytes, chart_bytes, NodeFits, ChartFits}
use Rattle.pack.specs.Laws.Fits.{each_from, each_in, fits-node, values_small, plain_bytes, next_bytes, list_snoc}
use Rattle.chart.specs.Laws.Merged.{get_d_map}
use Rattle.pack.specs.Duties.Table.{cells, rows_at, Above}
use Rattle.chart.specs.Duties.Out.{RowsPut}
use Rattle.pack.specs.Laws.Rows.{cells_at, rows_length}
use Rattle.chart.specs.Laws.Cells.{cells-length, cells_none, cells_more}
use Rattle.chart.specs.Laws.Cells.{cells_same, rows_node, rows_none, rows_more}

-- a part and the part behind it
cells-append : (bytes : List ℕ) (a k m : ℕ) → cells bytes a (k + m) ≡ cells bytes a k ++ cells bytes (a + k) m
cells-append bytes a k zero =
    ap (cells bytes a) (add-zero k) ∙ sym (append-nil (cells bytes a k))
    ∙ ap (λ (l : List ℕ). cells bytes a k ++ l) (sym (cells_none bytes (a + k)))
cells-append bytes a k (suc m) =
    let one : k + suc m ≡ (k + m) + 1 = omega arith in
    let two : suc m ≡ m + 1 = sym (add-one m) in
    let here : a + (k + m) ≡ (a + k) + m = omega arith in
    ap (cells bytes a) one ∙ cells_more bytes a (k + m)
    ∙ ap₂ (λ (l : List ℕ) (p : ℕ). l ++ (get_or bytes p 0 ∷ [])) (cells-append bytes a k m) here
    ∙ append_assoc (cells bytes a k) (cells bytes (a + k) m) (get_or bytes ((a + k) + m) 0 ∷ [])
    ∙ ap (λ (l : List ℕ). cells bytes a k ++ l) (sym (cells_more bytes (a + k) m) ∙ ap (cells bytes (a + k)) (sym two))

-- a list by its first bytes and what was behind them
pub front_back : (was now : List ℕ) (n : ℕ) → n ≤ length was → length now ≡ length was → Above was now n
    → now ≡ cells now 0 n ++ drop n was
front_back was now n h long above =
    ext_get_or 0 now (cells now 0 n ++ drop n was)
    (omega (arith, length-append (cells now 0 n) (drop n was), cells-length now 0 n, length-drop n was)) at
  where
    at : (i : ℕ) → i < length now → get_or now i 0 ≡ get_or (cells now 0 n ++ drop n was) i 0
    at i l =
        by_cases (dec_lt i n)
        (λ k. sym (get_or-append (cells now 0 n) (drop n was) 0 i (omega (arith, cells-length now 0 n))
        ∙ cells_at now 0 n i k ∙ ap (λ (p : ℕ). get_or now p 0) (let z : 0 + i ≡ i = omega arith in z)))
        (λ k. let e : i ≡ length (cells now 0 n) + (i - n) = omega (arith, cells-length now 0 n) in
        let z : n + (i - n) ≡ i = omega arith in
        above i (omega arith) ∙ ap (λ (p : ℕ). get_or was p 0) (sym z) ∙ sym (get_or-drop n was (i - n) 0)
        ∙ sym (ap (λ (p : ℕ). get_or (cells now 0 n ++ drop n was) p 0) e
        ∙ get_or-append-add (cells now 0 n) (drop n was) (i - n) 0))

plus_one : (v : ℕ) → (v + 1) - 0 ≡ suc v
plus_one v = omega arith

module _ {src : List ℕ} (was : List ℕ) {now : List ℕ} {n w f c u : ℕ} (D : List ℕ) (slim : w ≡ f + c)
    (fluents : length D ≡ f) (small : (g : ℕ) → get_or D g 0 ≤ 128) (x : RowsPut src (set was 0 n) now w f c u 1 1 0 n)
    (some : 0 < length was)
    (fit : ChartFits c D (rows_at src w f c u n)) where
  -- row i as it is written
  row_bytes : (i : ℕ) → i < n
      → cells now (1 + i * w) w
      ≡ node_bytes (record { values = cells src (u + i * w) f; beliefs = cells src (u + i * w + f) c })
  row_bytes i h =
      let nd : Node = record { values = cells src (u + i * w) f; beliefs = cells src (u + i * w + f) c } in
      let long = rows_length src w f c u n in
      let ok : NodeFits c D (length (rows_at src w f c u n)) nd = subst (NodeFits c D (length (rows_at src w f c u n)))
      (rows_node src w f c u n i h) (fits-node c D (rows_at src w f c u n) fit i (omega arith)) in
      let values = plain_bytes nd.values (values_small D nd.values small ok.values) in
      let beliefs =
      next_bytes nd.beliefs (each_from (λ v. suc v < 128) 0 nd.beliefs
      (λ d l.
      omega (arith, each_in (λ b. b < length (rows_at src w f c u n)) 0 nd.beliefs ok.beliefs d l, fit.1))) in
      ap (cells now (1 + i * w)) slim ∙ cells-append now (1 + i * w) f c
      ∙ ap₂ ◌++◌ (cells_same src now (u + i * w) (1 + i * w) f (λ q l. x.values i q h l) ∙ sym values)
      (ext_get_or 0 (cells now (1 + i * w + f) c) (map suc nd.beliefs)
      (cells-length now (1 + i * w + f) c ∙ sym (length-map nd.beliefs suc ∙ cells-length src (u + i * w + f) c))
      (λ d l. let g : d < c = omega (arith, cells-length now (1 + i * w + f) c) in
      cells_at now (1 + i * w + f) c d g ∙ x.beliefs i d h g ∙ plus_one (get_or src (u + i * w + f + d) 0)
      ∙ ap suc (sym (cells_at src (u + i * w + f) c d g))
      ∙ sym (get_d_map suc nd.beliefs d (omega (arith, cells-length src (u + i * w + f) c))))
      ∙ sym beliefs)

  rows_bytes : (i : ℕ) → i ≤ n → cells now 1 (i * w) ≡ list_bytes node_bytes (rows_at src w f c u i)
  unfolding list_bytes
  rows_bytes zero h =
      ap (cells now 1) (zero-mul w) ∙ cells_none now 1 ∙ ap (list_bytes node_bytes) (sym (rows_none src w f c u))
  rows_bytes (suc i) h =
      let more : suc i * w ≡ i * w + w = suc-mul i w in
      ap (cells now 1) more ∙ cells-append now 1 (i * w) w ∙ ap₂ ◌++◌ (rows_bytes i (omega arith)) (row_bytes i h)
      ∙ sym (list_snoc node_bytes (rows_at src w f c u i)
      (record { values = cells src (u + i * w) f; beliefs = cells src (u + i * w + f) c }))
      ∙ ap (list_bytes node_bytes) (sym (ap (rows_at src w f c u) (sym (add-one i)) ∙ rows_more src w f c u i))

  -- the chart's bytes, and then what was there
  pub chart_out : 1 + n * w ≤ length was → length now ≡ length was
      → (now ≡ chart_bytes (rows_at src w f c u n) ++ drop (length (chart_bytes (rows_at src w f c u n))) was)
      × (length (chart_bytes (rows_at src w f c u n)) ≡ 1 + n * w)
  unfolding number_bytes
  chart_out room long =
      let size = rows_length src w f c u n in
      let few : n < 128 = omega (arith, fit.1) in
      let head : number_bytes (length (rows_at src w f c u n)) ≡ n ∷ [] = ap number_bytes size ∙ one_number n few in
      let front : cells now 0 (1 + n * w) ≡ chart_bytes (rows_at src w f c u n) =
      cells-append now 0 1 (n * w)
      ∙ ap₂ ◌++◌ (cells_more now 0 0
      ∙ ap₂ (λ (l : List ℕ) (v : ℕ). l ++ (v ∷ [])) (cells_none now 0)
      (x.low 0 (omega arith) ∙ get_or-set_same was 0 n 0 some)
      ∙ sym head) (rows_bytes n (omega arith)) in
      let count : length (chart_bytes (rows_at src w f c u n)) ≡ 1 + n * w = ap length (sym front)
      ∙ cells-length now 0 (1 + n * w) in (
        front_back was now (1 + n * w) room long (λ p h. x.high p h ∙ get_or-set_other was 0 p n 0 (omega arith))
            ∙ ap₂ (λ (l : List ℕ) (k : ℕ). l ++ drop k was) front (sym count),
        count,
      )
    where
      one_number : (v : ℕ) → v < 128 → number_bytes v ≡ v ∷ []
      one_number v h = rw (borrow.Author.Tests.lt-ltb v 128 h) refl
