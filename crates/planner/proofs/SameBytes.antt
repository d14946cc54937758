-- States that are written charts are the same exactly where their bytes are, and so are tables that are kept. Assumes nothing.
use Prim.Native.Nat.{ℕ, zero, suc, ◌+◌, ◌*◌, ◌-◌, ◌<◌}
use mathlib.Core.Path.{◌≡◌, sym, ap, ◌∙◌}
use mathlib.Core.Logic.{by_cases}
use mathlib.Core.List.{List}
use native.Mathlib.Decide.{dec_lt}
use native.Mathlib.Nat.{suc-mul}
use native.Mathlib.Omega.{arith}
use lib.ListN.{length, get_or}
use Rattle.pack.specs.Syntax.{Node}
use Rattle.pack.specs.State.{node}
use Rattle.pack.specs.Duties.Table.{cells, rows_at, table_of, state_of}
use Rattle.pack.specs.declared.table.Table.{Table}
use Rattle.pack.specs.Laws.Rows.{cells_at, rows_length}
use Rattle.chart.specs.Chart.{Written}
use Rattle.chart.specs.Laws.Unique.{unique}
use Rattle.chart.specs.Laws.Cells.{rows_node}
use Rattle.planner.specs.declared.limits.Context.{Context}
use Rattle.planner.specs.Inner.Lists.{slot_table}
use Rattle.planner.specs.Inner.Memory.{kept_at, kept_table, Before}

module _ (work : List ℕ) (w f c a b : ℕ) (wide : f + c ≡ w) where
  -- a row's bytes are its node's
  row_bytes : (n : ℕ) → rows_at work w f c a n ≡ rows_at work w f c b n → (i : ℕ) → i < n → (j : ℕ) → j < w → get_or work (a + i * w + j) 0 ≡ get_or work (b + i * w + j) 0
  row_bytes n e i l j g =
      let same : ◌≡◌ {A = Node} (record { values = cells work (a + i * w) f; beliefs = cells work (a + i * w + f) c }) (record { values = cells work (b + i * w) f; beliefs = cells work (b + i * w + f) c }) = sym (rows_node work w f c a n i l) ∙ ap (λ (t : List Node). node t i) e ∙ rows_node work w f c b n i l in
      by_cases (dec_lt j f)
      (λ k. sym (cells_at work (a + i * w) f j k) ∙ ap (λ (x : Node). get_or x.values j 0) same ∙ cells_at work (b + i * w) f j k)
      (λ k.
      let d : j - f < c = omega (arith, k, g, wide) in
      let here : a + i * w + j ≡ a + i * w + f + (j - f) = omega (arith, k) in
      let there : b + i * w + f + (j - f) ≡ b + i * w + j = omega (arith, k) in
      ap (λ (q : ℕ). get_or work q 0) here ∙ sym (cells_at work (a + i * w + f) c (j - f) d) ∙ ap (λ (x : Node). get_or x.beliefs (j - f) 0) same ∙ cells_at work (b + i * w + f) c (j - f) d ∙ ap (λ (q : ℕ). get_or work q 0) there)

  all_bytes : (n : ℕ) → ((i : ℕ) → i < n → (j : ℕ) → j < w → get_or work (a + i * w + j) 0 ≡ get_or work (b + i * w + j) 0) → (q : ℕ) → q < n * w → get_or work (a + q) 0 ≡ get_or work (b + q) 0
  all_bytes zero h q l = absurd (omega (arith, l))
  all_bytes (suc n) h q l = by_cases (dec_lt q (n * w))
      (λ k. all_bytes n (λ i g. h i (omega arith)) q k)
      (λ k.
      let here : a + q ≡ a + n * w + (q - n * w) = omega (arith, k) in
      let there : b + n * w + (q - n * w) ≡ b + q = omega (arith, k) in
      ap (λ (q : ℕ). get_or work q 0) here ∙ h n (omega arith) (q - n * w) (omega (arith, k, l, suc-mul n w)) ∙ ap (λ (q : ℕ). get_or work q 0) there)

module _ (h : Context) (work : List ℕ) (a b : ℕ) where
  -- equal tables in two slots have equal bytes, their counts among them
  pub table_bytes : table_of (slot_table h work a) work ≡ table_of (slot_table h work b) work → (q : ℕ) → q < 1 + get_or work a 0 * (h.fluents + h.characters) → get_or work (a + q) 0 ≡ get_or work (b + q) 0
  table_bytes e q l =
      let w = h.fluents + h.characters in
      let n = get_or work a 0 in
      let count : get_or work a 0 ≡ get_or work b 0 = sym (rows_length work w h.fluents h.characters (a + 1) n) ∙ ap (λ (t : List Node). length t) e ∙ rows_length work w h.fluents h.characters (b + 1) (get_or work b 0) in
      let e' : rows_at work w h.fluents h.characters (a + 1) n ≡ rows_at work w h.fluents h.characters (b + 1) n = e ∙ ap (λ (k : ℕ). rows_at work w h.fluents h.characters (b + 1) k) (sym count) in
      by_cases (dec_lt 0 q)
      (λ k.
      let here : a + q ≡ a + 1 + (q - 1) = omega (arith, k) in
      let there : b + 1 + (q - 1) ≡ b + q = omega (arith, k) in
      let wide : h.fluents + h.characters ≡ w = omega arith in
      ap (λ (q : ℕ). get_or work q 0) here ∙ all_bytes work w h.fluents h.characters (a + 1) (b + 1) wide n (row_bytes work w h.fluents h.characters (a + 1) (b + 1) wide n e') (q - 1) (omega (arith, k, l)) ∙ ap (λ (q : ℕ). get_or work q 0) there)
      (λ k.
      let here : a + q ≡ a = omega (arith, k) in
      let there : b ≡ b + q = omega (arith, k) in
      ap (λ (q : ℕ). get_or work q 0) here ∙ count ∙ ap (λ (q : ℕ). get_or work q 0) there)

  -- where both are written charts, the same state has the same bytes
  pub same_state_bytes : Written h.characters (table_of (slot_table h work a) work) → Written h.characters (table_of (slot_table h work b) work) → state_of (slot_table h work b) work 0 ≡ state_of (slot_table h work a) work 0
      → (q : ℕ) → q < 1 + get_or work a 0 * (h.fluents + h.characters) → get_or work (a + q) 0 ≡ get_or work (b + q) 0
  same_state_bytes x y e = table_bytes (unique h.characters (table_of (slot_table h work a) work) (table_of (slot_table h work b) work) x y (sym e))

-- a table has the bytes of the one that is kept at a block
pub named_bytes : (h : Context) {work : List ℕ} {t : Table} (n : ℕ) → Before h work t → get_or work (kept_at h n) 0 ≡ t.nodes → table_of (kept_table h work n) work ≡ table_of t work → (q : ℕ) → q < t.nodes * t.width → get_or work (t.rows + q) 0 ≡ get_or work (kept_at h n + 1 + q) 0
named_bytes h {work} {t} n b count equal q l =
    let w = h.fluents + h.characters in
    let wide : w ≡ t.width = ap (λ (f : ℕ). f + h.characters) b.fluents ∙ ap (λ (c : ℕ). t.fluents + c) b.characters ∙ b.wide in
    let table : rows_at work w h.fluents h.characters t.rows t.nodes ≡ table_of t work =
    ap (λ (f : ℕ). rows_at work w f h.characters t.rows t.nodes) b.fluents ∙ ap (λ (c : ℕ). rows_at work w t.fluents c t.rows t.nodes) b.characters ∙ ap (λ (k : ℕ). rows_at work k t.fluents t.characters t.rows t.nodes) wide in
    let same : rows_at work w h.fluents h.characters t.rows t.nodes ≡ rows_at work w h.fluents h.characters (kept_at h n + 1) t.nodes = table ∙ sym equal ∙ ap (λ (k : ℕ). rows_at work w h.fluents h.characters (kept_at h n + 1) k) count in
    let is : h.fluents + h.characters ≡ w = omega arith in
    all_bytes work w h.fluents h.characters t.rows (kept_at h n + 1) is t.nodes (row_bytes work w h.fluents h.characters t.rows (kept_at h n + 1) is t.nodes same) q (omega (arith, l, ap (λ (k : ℕ). t.nodes * k) wide))
