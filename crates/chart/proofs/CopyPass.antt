-- The copy of a table: the pass whose slots are the source's rows. Assumes nothing.
use Rattle.std.proofs.Common.{◌≡◌, sym, ◌∙◌, ap, List, ℕ, suc, ◌+◌, ◌*◌, ◌<◌, ◌≤◌, max, arith, length, get_or}
use Rattle.pack.specs.Syntax.{Node}
use Rattle.pack.specs.State.{node, meaning}
use Rattle.pack.specs.State.{target}
use Rattle.chart.specs.Laws.Built.{copied}
use Rattle.pack.specs.Duties.Table.{cells, rows_at, Below, Above}
use Rattle.chart.specs.Duties.Numbers.{key_at, Given, RowFilled, Laid, Sound, Copied}
use Rattle.pack.specs.Laws.Rows.{cells_at}
use Rattle.chart.specs.Laws.Cells.{cells_same, row_in, rows_node, rows_same}
use Rattle.chart.specs.Laws.PassRows.{Going, going_start, going_row, going_end}

pub laid_same : {was now : List ℕ} {n w f c s m t : ℕ} → Laid was n w f c s m t → length now ≡ length was → Laid now n w f c s m t
laid_same l e = record { few = l.few; wide = l.wide; source = l.source; scratch = l.scratch; target = omega (arith, l.target) }

pub sound_same : {was now : List ℕ} {n w f c s m t : ℕ} → Laid was n w f c s m t → Sound was n w f c s → Below was now m → Sound now n w f c s
sound_same {n = n} {w = w} {f = f} {s = s} l d low = record {
  beliefs = λ i k h g. omega (arith, low (s + i * w + f + k) (omega (arith, row_in n w i h, l)), d.beliefs i k h g);
}

pub record Copying (was now : List ℕ) (n w f c s m t x i count : ℕ) : Type 0 where
  pub laid : Laid now n w f c s m t
  pub sound : Sound now n w f c s
  pub first : key_at was m n 0 ≡ x
  pub going : Going c (λ x. Unit {0}) (λ x. (node (rows_at was w f c s n) x).values) (target (rows_at was w f c s n)) (λ x. x) was now m n t w f i count

pub copying_start : {old was : List ℕ} {n w f c s m t x root count : ℕ} → Laid was n w f c s m t → Sound was n w f c s → Given old was m n 0 x root → count ≡ max 0 (suc root) → Copying was was n w f c s m t x 0 count
copying_start {was = was} {n} {w} {f} {c} {s} {m} {t} {x} {root} l d g e =
    let one : max 0 (suc root) ≡ 1 = omega (arith, g.next) in
    let zero : root ≡ 0 = omega (arith, g.next) in record {
      laid = l;
      sound = d;
      first = rw zero at g.key;
      going = rw (e ∙ one) (going_start c (λ x. Unit {0}) (λ x. (node (rows_at was w f c s n) x).values) (target (rows_at was w f c s n)) (λ x. x) was m n t w f (rw one at g.numbering) tt);
    }

pub copying_row : {was old now : List ℕ} {n w f c s m t root i count more : ℕ} → Copying was old n w f c s m t root i count → i < count
    → RowFilled old now m n count more (t + i * w) w f c (cells old (s + key_at old m n i * w) f) (λ d. get_or old (s + key_at old m n i * w + f + d) 0) → length now ≡ length old
    → Copying was now n w f c s m t root (i + 1) more
copying_row {was} {old} {now} {n} {w} {f} {c} {s} {m} {t} {root} {i} {count} {more} p h r e =
    let g = p.going in
    let x = key_at old m n i in
    let l = p.laid in
    let lx : x < n = g.numbering.there i h in
    let place = row_in n w x lx in
    let row = rows_node was w f c s n x lx in record {
      laid = laid_same l e;
      sound = sound_same l p.sound r.low;
      first = p.first;
      going = going_row c (λ x. Unit {0}) (λ x. (node (rows_at was w f c s n) x).values) (target (rows_at was w f c s n)) (λ x. x) was old now m n t w f i count more _ _ l.scratch l.wide g h r
          (cells_same was old (s + x * w) (s + x * w) f (λ q lq. g.low (s + x * w + q) (omega (arith, l))) ∙ sym (ap (λ (n : Node). n.values) row))
          (λ d ld. g.low (s + x * w + f + d) (omega (arith, l)) ∙ sym (cells_at was (s + x * w + f) c d ld) ∙ sym (ap (λ (n : Node). get_or n.beliefs d 0) row))
          (λ d ld. tt);
    }

pub copying_end : {entry was now : List ℕ} {n w f c s m t x i count : ℕ} → Copying was now n w f c s m t x i count → count ≤ i → Below entry was m → Above entry was (m + n + n) → Copied entry now n w f c s m t x count
copying_end {entry} {was} {now} {n} {w} {f} {c} {s} {m} {t} {x} {i} {count} p h low high =
    let g = p.going in
    let l = p.laid in
    let (ordered, means) = going_end c (λ x. Unit {0}) (λ x. (node (rows_at was w f c s n) x).values) (target (rows_at was w f c s n)) (λ x. x) (meaning c (rows_at was w f c s n)) (copied c (rows_at was w f c s n)) was now m n t w f i count g h in record {
      some = g.some;
      few = g.room;
      ordered = ordered;
      means = means ∙ ap (meaning c (rows_at was w f c s n)) p.first ∙ ap (λ (r : List Node). meaning c r x) (rows_same entry was w f c s s n l.wide (λ q lq. low (s + q) (omega (arith, l))));
      low = λ q lq. g.low q lq ∙ low q lq;
      high = λ q lq. g.high q lq ∙ high q (omega (arith, l));
    }
