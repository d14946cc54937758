-- A table's rows from place 1 on, merged: where things lie, and that what is left is the written chart of what row 0 means. Assumes nothing.
use Rattle.std.proofs.Common.{ℕ, ◌+◌, ◌*◌, ◌<◌, ◌≤◌, ◌≡◌, refl, sym, ap, ◌∙◌, subst, List, ◌++◌, arith, length, drop}
use Rattle.std.proofs.Common.{set}
use Rattle.std.proofs.Math.Logic.{by_cases}
use Rattle.std.proofs.Math.Decide.{dec_lt}
use Rattle.pack.specs.Syntax.{Node}
use Rattle.pack.specs.State.{meaning, Closed}
use Rattle.pack.specs.Duties.Table.{rows_at}
use Rattle.pack.specs.Layout.{chart_bytes, ChartFits}
use Rattle.pack.specs.Duties.Copy.{TableCopied}
use Rattle.pack.specs.Laws.Rows.{rows_length}
use Rattle.chart.specs.Answers.{start_table}
use Rattle.chart.specs.Call.{work_room}
use Rattle.chart.specs.Duties.Numbers.{Copied, Sound}
use Rattle.chart.specs.Duties.Put.{Cleared, PartCopied}
use Rattle.chart.specs.Duties.Out.{RowsPut}
use Rattle.chart.specs.Duties.Classed.{class_at, Room, Classed, WrittenOut}
use Rattle.chart.specs.Duties.Level.{Parted}
use Rattle.chart.specs.Duties.Start.{Mergeable, Merged, Startable, StartPut}
use Rattle.chart.specs.States.{AtMost}
use Rattle.chart.specs.Laws.Merged.{classes, grows, no_more}
use Rattle.chart.specs.Laws.Tabled.{tabled-at}
use Rattle.chart.specs.Laws.Charted.{chart, few_rows}
use Rattle.chart.specs.Laws.Answers.{written_short, start_table_iff, fits_table, start_fits}
use Rattle.chart.specs.Laws.Cells.{rows_same, rows_most}
use Rattle.chart.specs.Laws.MergedRows.{ordered_sound, copied_out}
use Rattle.chart.specs.Laws.ChartBytes.{chart_out}
use Rattle.chart.specs.Laws.LoadedNodes.{read_small, read_same, merged_small}
use Rattle.chart.specs.Laws.LookedUp.{cleared_all}

module _ {was : List ℕ} {n w f c : ℕ} (p : Mergeable was n w f c) where
  -- fewer rows are smaller
  small : (k : ℕ) → k ≤ n → k * w ≤ 960
  small k h = omega (arith, rows_most h p.slim, p.few)

  module _ {mid : List ℕ} {k : ℕ} (x : Copied was mid n w f c 1 1024 1100 0 k) (long : length mid ≡ length was) where
    module _ {mid' : List ℕ} {count : ℕ} (y : Parted mid mid' k w f c 1100 2100 2200 2300 32 count) (long' : length mid' ≡ length mid) where
      -- the rows are where they were
      same_table : rows_at mid' w f c 1100 k ≡ rows_at mid w f c 1100 k
      same_table = rows_same mid mid' w f c 1100 1100 k p.wide (λ q h. y.low (1100 + q) (omega (arith, small k x.few)))

      -- at most 32 rows are at most 32 classes
      pub merge_classed : Classed mid' k w f c 1100 2200 × (classes (class_at mid' 2200) k ≡ count)
      merge_classed = by_cases (dec_lt 32 count) (λ h. absurd (y.many h few_states)) (λ h. y.few (omega arith))
        where
          few_states : AtMost 32 c (meaning c (rows_at mid' w f c 1100 k) 0)
          few_states =
              let t = rows_at mid' w f c 1100 k in
              let size = rows_length mid' w f c 1100 k in
              let closed : Closed c t = subst (Closed c) (sym same_table) x.ordered.closed in
              let pos : 0 < length t = omega (arith, x.some) in
              let written = chart (tabled-at c t closed 0 pos) in
              (few_rows written 32).1 (omega (arith, written_short c written.rows t written.written closed pos written.means, x.few, p.few))

      pub merge_room : Room mid' k w f c 1100 2200 2400
      merge_room = record { wide = p.wide; source = omega (arith, small k x.few); classes = omega (arith, x.few, p.few); most = k; below = λ i l. omega (arith, grows (class_at mid' 2200) i k l, no_more (class_at mid' 2200) k merge_classed.0.numbered); target = omega (arith, small k x.few, p.room) }

      -- where each row is one, the rows are copied
      pub merge_copied : k ≤ count → {now : List ℕ} → PartCopied mid' now 1100 2400 (k * w) → WrittenOut mid' now k w f c 1100 2400 k
      merge_copied h z = copied_out merge_classed.0 (omega (arith, merge_classed.1)) p.wide z

      pub merge_merged : {now : List ℕ} {r : ℕ} → WrittenOut mid' now k w f c 1100 2400 r → Merged was now n w f c r
      merge_merged {now} {r} z = record {
        starts = (z.written, z.means ∙ ap (λ (t : List Node). meaning c t 0) same_table ∙ x.means);
        few = omega (arith, z.few, x.few);
        high = λ q h. z.high q (omega (arith, small r (omega (arith, z.few, x.few)))) ∙ y.high q (omega (arith, x.few, p.few)) ∙ x.high q (omega (arith, small n (omega arith)));
      }

-- The chart of a pack's nodes
module _ {pack : List ℕ} {first nodes f c : ℕ} {chart-was work : List ℕ} (p : Startable pack first nodes f c chart-was work) where
  abbrev domains : List ℕ
  domains = p.read.dimensions.domains

  module _ {mid : List ℕ} (x : TableCopied pack first nodes work mid 0 f c) where
    module _ {mid' : List ℕ} {r : ℕ} (y : Merged mid mid' nodes (f + c) f c r) (long' : length mid' ≡ length mid) where
      chart_is : start_table c p.table ≡ rows_at mid' (f + c) f c 2400 r
      chart_is = (start_table_iff c p.table (fits_table c domains p.table p.fit) (rows_at mid' (f + c) f c 2400 r)).0 (y.starts.0, y.starts.1 ∙ ap (λ (t : List Node). meaning c t 0) (read_same p.read x))

      pub start_writes : ((r < 256) × (f + c ≤ f + c) × (f + c ≤ f + c) × (2400 + r * (f + c) ≤ length mid') × (1 + r * (f + c) ≤ length chart-was)) × Sound mid' r (f + c) f c 2400
      start_writes = ((omega (arith, y.few, p.read.few), omega arith, omega arith, omega (arith, merged_small p.read y, p.has_work_room, x.long), omega (arith, merged_small p.read y, p.has_chart_room)), ordered_sound y.starts.0.ordered)

      pub start_put : {chart-now work-now : List ℕ} {n : ℕ} → (n ≡ 1 + r * (f + c)) × RowsPut mid' (set chart-was 0 r) chart-now (f + c) f c 2400 1 1 0 r → length chart-now ≡ length chart-was
          → Cleared mid' work-now 0 work_room → length work-now ≡ length work → StartPut c p.table chart-was chart-now work work-now n
      start_put {chart-now} {work-now} {n} (e, z) long'' clear longer =
          let fit : ChartFits c domains (rows_at mid' (f + c) f c 2400 r) = subst (ChartFits c domains) chart_is (start_fits c domains p.table p.fit) in
          let (out, size) = chart_out chart-was domains refl p.read.shaped.fluents p.read.shaped.small.sizes z (omega (arith, p.has_chart_room)) fit (omega (arith, merged_small p.read y, p.has_chart_room)) long'' in
          record {
            answer = e ∙ sym size ∙ ap (λ (t : List Node). length (chart_bytes t)) (sym chart_is);
            result = out ∙ ap (λ (t : List Node). chart_bytes t ++ drop (length (chart_bytes t)) chart-was) (sym chart_is);
            scratch = cleared_all work clear (λ q h. y.high q (omega arith) ∙ x.above q (omega (arith, read_small p.read))) longer p.has_work_room;
          }
