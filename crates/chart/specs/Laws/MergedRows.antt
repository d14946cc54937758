-- Writing the merged table: beliefs by class, a row, the rows of the new classes. Assumes nothing.
use Rattle.std.specs.Prelude.{◌≡◌, refl}
use Rattle.std.proofs.Common.{sym, ◌∙◌, suc-mul, arith, ext_get_or, List, map, ℕ, ◌+◌, ◌*◌, ◌<◌, ◌≤◌, below_more}
use Rattle.std.proofs.Math.Path.{ap, subst}
use Rattle.std.proofs.Math.Logic.{by_cases}
use Rattle.std.proofs.Math.Decide.{dec_lt}
use Rattle.std.proofs.Math.Numerals.{add-one}
use Rattle.std.proofs.Math.ListN.{length, get_or}
use Rattle.std.proofs.lemmas.List.{length-map}
use Rattle.pack.specs.Syntax.{Node}
use Rattle.pack.specs.State.{node, meaning}
use Rattle.chart.specs.Chart.{Ordered, Written}
use Rattle.chart.specs.Laws.Unique.{some}
use Rattle.chart.specs.Laws.Merged.{classes, get_d_map, Numbered, no_more, all_apart, grows, Merged, merged, kept}
use Rattle.pack.specs.Duties.Table.{cells, rows_at, Below, Above}
use Rattle.chart.specs.Duties.Put.{PartCopied}
use Rattle.chart.specs.Duties.Numbers.{Sound}
use Rattle.chart.specs.Duties.Classed.{class_at, ClassPut, Room, Classed, WrittenOut}
use Rattle.pack.specs.Laws.Rows.{cells_at, rows_length}
use Rattle.chart.specs.Laws.Cells.{cells-length, cells_same, row_in, rows_node, rows_same}

-- one row more
times_next : (n w : ℕ) → (n + 1) * w ≡ n * w + w
times_next n w = ap (λ (y : ℕ). y * w) (omega arith) ∙ suc-mul n w

-- row j of the source, the first of its class, stands written
pub record Stands (was now : List ℕ) (w f c t k u j : ℕ) : Type 0 where
  pub values : (q : ℕ) → q < f → get_or now (u + class_at was k j * w + q) 0 ≡ get_or was (t + j * w + q) 0
  pub beliefs : (d : ℕ) → d < c
      → get_or now (u + class_at was k j * w + f + d) 0 ≡ class_at was k (get_or was (t + j * w + f + d) 0)

-- the rows of the classes of the rows below i are written
pub record Writing (was now : List ℕ) (n w f c t k u i count : ℕ) : Type 0 where
  pub counted : count ≡ classes (class_at was k) i
  pub few : count ≤ i
  pub rows : (j : ℕ) → j < i → class_at was k j ≡ classes (class_at was k) j → Stands was now w f c t k u j
  pub low : Below was now u
  pub high : Above was now (u + count * w)

pub writing_none : (was : List ℕ) (n w f c t k u : ℕ) → Writing was was n w f c t k u 0 0
unfolding classes
writing_none was n w f c t k u =
    record {
      counted = refl;
      few = omega arith;
      rows = λ j l. absurd (omega arith);
      low = λ p l. refl;
      high = λ p l. refl;
    }

module _ {was old now : List ℕ} {n w f c t k u i count r : ℕ} (room : Room was n w f c t k u)
    (sound : Sound was n w f c t) (num : Numbered (class_at was k) n) (l : i < n)
    (g : Writing was old n w f c t k u i count) (p : ClassPut old now w f c t k u i count r) where
  abbrev cls : ℕ → ℕ
  cls = class_at was k

  same : class_at old k i ≡ cls i
  same = g.low (k + i) (omega (arith, room))

  again : cls i < count → Writing was now n w f c t k u (i + 1) r
  unfolding classes
  again h =
      let (e, q) = p.again (omega (arith, same)) in
      subst (λ (b : List ℕ). Writing was b n w f c t k u (i + 1) r) (sym q) (record {
        counted = rw add-one (omega (arith, g.counted));
        few = omega (arith, g.few);
        rows = below_more (λ j. cls j ≡ classes cls j → Stands was old w f c t k u j) i g.rows
            (λ x. absurd (omega (arith, g.counted)));
        low = g.low;
        high = λ x lx. g.high x (omega (arith, lx, ap (λ (y : ℕ). y * w) e));
      })

  new : count ≤ cls i → Writing was now n w f c t k u (i + 1) r
  unfolding classes
  new h =
      let (e, q) = p.new (omega (arith, same)) in
      let here : cls i ≡ count = omega (arith, num i l, g.counted) in
      let wider : r * w ≡ count * w + w = ap (λ (y : ℕ). y * w) e ∙ times_next count w in
      let from = row_in n w i l in record {
        counted = rw add-one (omega (arith, g.counted));
        few = omega (arith, g.few);
        rows = below_more (λ j. cls j ≡ classes cls j → Stands was now w f c t k u j) i
            (λ j lj first. let s = g.rows j lj first in
            let place = row_in count w (cls j) (omega (arith, g.counted, grows cls j i lj)) in record {
              values = λ x lx. q.low (u + cls j * w + x) (omega (arith, room)) ∙ s.values x lx;
              beliefs = λ d ld. q.low (u + cls j * w + f + d) (omega (arith, room)) ∙ s.beliefs d ld;
            })
            (λ first. record {
              values = λ x lx.
                  ap (λ (y : ℕ). get_or now (u + y * w + x) 0) here ∙ q.values x lx
                  ∙ g.low (t + i * w + x) (omega (arith, room));
              beliefs = λ d ld.
                  ap (λ (y : ℕ). get_or now (u + y * w + f + d) 0) here ∙ q.beliefs d ld
                  ∙ ap (class_at old k) (g.low (t + i * w + f + d) (omega (arith, room)))
                  ∙ g.low (k + get_or was (t + i * w + f + d) 0) (omega (arith, room, sound.beliefs i d l ld));
            });
        low = λ x lx. q.low x (omega arith) ∙ g.low x lx;
        high = λ x lx. q.high x (omega (arith, room.wide, wider, lx)) ∙ g.high x (omega (arith, wider, lx));
      }

  pub writing_more : Writing was now n w f c t k u (i + 1) r
  writing_more = by_cases (dec_lt (cls i) count) again (λ h. new (omega arith))

-- all rows are read
module _ {was now : List ℕ} {n w f c t k u count : ℕ} (d : Classed was n w f c t k)
    (g : Writing was now n w f c t k u n count) where
  abbrev source : List Node
  source = rows_at was w f c t n

  abbrev target : List Node
  target = rows_at now w f c u count

  long : length source ≡ n
  long = rows_length was w f c t n

  row : (i : ℕ) → i < n → class_at was k i ≡ classes (class_at was k) i
      → node target (class_at was k i)
      ≡ record { values = (node source i).values; beliefs = map (class_at was k) (node source i).beliefs }
  row i l first =
      let s = g.rows i l first in
      let b = u + class_at was k i * w in
      let a = t + i * w in
      let x : cells now b f ≡ cells was a f = cells_same was now a b f s.values in
      let y : cells now (b + f) c ≡ map (class_at was k) (cells was (a + f) c) =
      ext_get_or 0 (cells now (b + f) c) (map (class_at was k) (cells was (a + f) c))
      (cells-length now (b + f) c
      ∙ sym (length-map (cells was (a + f) c) (class_at was k) ∙ cells-length was (a + f) c))
      (λ j h. let lj : j < c = omega (arith, h, cells-length now (b + f) c) in
      cells_at now (b + f) c j lj ∙ s.beliefs j lj
      ∙ sym (get_d_map (class_at was k) (cells was (a + f) c) j (omega (arith, cells-length was (a + f) c))
      ∙ ap (class_at was k) (cells_at was (a + f) c j lj))) in
      let z : ◌≡◌ {A = Node} (record { values = cells now b f; beliefs = cells now (b + f) c })
      (record { values = cells was a f; beliefs = map (class_at was k) (cells was (a + f) c) }) = λ i.
      record { values = x i; beliefs = y i } in
      rows_node now w f c u count (class_at was k i) (omega (arith, g.counted, grows (class_at was k) i n l)) ∙ z
      ∙ ap (λ (m : Node). record { values = m.values; beliefs = map (class_at was k) m.beliefs })
      (sym (rows_node was w f c t n i l))

  joined : Merged c source (class_at was k) target
  joined = record {
    ordered = d.ordered;
    exact = λ i j li lj. d.exact i j (omega (arith, long)) (omega (arith, long));
    numbered = λ i li. d.numbered i (omega (arith, long));
    long = rows_length now w f c u count ∙ g.counted ∙ ap (classes (class_at was k)) (sym long);
    rows = λ i li first. row i (omega (arith, long)) first;
  }

  pub written_out : WrittenOut was now n w f c t u count
  unfolding classes
  written_out = record {
    few = g.few;
    written = merged c source (class_at was k) target joined;
    means =
        let pos : 0 < length source = some source d.ordered.whole in
        let zero : class_at was k 0 ≡ 0 = omega (arith, d.numbered 0 (omega (arith, long))) in
        ap (meaning c target) (sym zero) ∙ kept c source (class_at was k) target joined 0 pos;
    low = g.low;
    high = g.high;
  }

-- the beliefs of ordered rows name rows
pub ordered_sound : {bytes : List ℕ} {n w f c t : ℕ} → Ordered c (rows_at bytes w f c t n) → Sound bytes n w f c t
ordered_sound {bytes} {n} {w} {f} {c} {t} o = record {
  beliefs = λ i d l ld.
      let long = rows_length bytes w f c t n in
      omega (
        arith,
        long,
        o.closed i d (omega (arith, long)) ld,
        ap (λ (m : Node). get_or m.beliefs d 0) (rows_node bytes w f c t n i l),
        cells_at bytes (t + i * w + f) c d ld,
      );
}

pub room_same : {was now : List ℕ} {n w f c t k u : ℕ} → Room was n w f c t k u → length now ≡ length was
    → Below was now u → Room now n w f c t k u
room_same {k = k} r e low =
    record {
      wide = r.wide;
      source = r.source;
      classes = r.classes;
      most = r.most;
      below = λ i l. omega (arith, r.below i l, low (k + i) (omega (arith, l, r.classes)));
      target = omega (arith, r.target);
    }

pub sound_below : {was now : List ℕ} {n w f c t k u : ℕ} → Room was n w f c t k u → Sound was n w f c t
    → Below was now u → Sound now n w f c t
sound_below {n = n} {w = w} {f = f} {t = t} r d low = record {
  beliefs = λ i q h g. omega (arith, low (t + i * w + f + q) (omega (arith, row_in n w i h, r)), d.beliefs i q h g);
}

-- Where each row is a class of its own, the rows are the written chart as they stand
module _ {bytes : List ℕ} {n w f c t k : ℕ} (x : Classed bytes n w f c t k)
    (all : n ≤ classes (class_at bytes k) n) where
  pub classed_apart : Written c (rows_at bytes w f c t n)
  classed_apart = record { ordered = x.ordered; apart = apart }
    where
      own : (i : ℕ) → i < n → class_at bytes k i ≡ i
      own = all_apart (class_at bytes k) n x.numbered (omega (arith, no_more (class_at bytes k) n x.numbered))

      apart : (i j : ℕ) → i < j → j < length (rows_at bytes w f c t n)
          → meaning c (rows_at bytes w f c t n) i ≡ meaning c (rows_at bytes w f c t n) j → ⊥
      apart i j h l e =
          let hj : j < n = omega (arith, rows_length bytes w f c t n) in
          let hi : i < n = omega arith in
          omega (arith, own i hi, own j hj, (x.exact i j hi hj).1 e)

  -- and so they are where they are copied to
  pub copied_out : {now : List ℕ} {u : ℕ} → f + c ≤ w → PartCopied bytes now t u (n * w)
      → WrittenOut bytes now n w f c t u n
  copied_out {now} {u} wide y =
      let rows = rows_same bytes now w f c t u n wide y.part in
      record {
        few = omega arith;
        written = subst (Written c) (sym rows) classed_apart;
        means = ap (λ (T : List Node). meaning c T 0) rows;
        low = y.low;
        high = y.high;
      }
