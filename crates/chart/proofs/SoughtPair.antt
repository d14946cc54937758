-- Pairs gone through in the order met, up to the first whose rows have other values. Assumes nothing.
use Rattle.std.proofs.Common.{◌≡◌, refl, sym, ◌∙◌, ap, subst, List, ℕ, ◌+◌, ◌*◌, ◌<◌, ◌≤◌, arith, length}
use Rattle.std.proofs.Math.Logic.{by_cases}
use Rattle.std.specs.Prelude.{Some, None}
use Rattle.std.proofs.Math.Decide.{dec_lt}
use Rattle.pack.specs.Syntax.{Node}
use Rattle.pack.specs.State.{node}
use Rattle.pack.specs.Duties.Table.{rows_at, Below, Above}
use Rattle.chart.specs.Laws.Bridge.{val}
use Rattle.chart.specs.Laws.Breadth.{met-row, met-first, met_none}
use Rattle.chart.specs.Duties.Numbers.{Sound}
use Rattle.chart.specs.Duties.Level.{FirstNot, SameByte}
use Rattle.chart.specs.Inner.Pairs.{left_at, right_at, Paired, Pairs, PairsIn, Followed, Sought}
use Rattle.chart.specs.Laws.Cells.{row_in}
use Rattle.chart.proofs.PartitionLevels.{same_rows, still_sound, values_byte, byte_values}
use Rattle.chart.proofs.MetPairs.{entries_most}

-- The entries below `done` are of rows with the same values, and all their characters are followed
pub record Seeking (was now : List ℕ) (n w f c t m q count done : ℕ) : Type 0 where
  pub within : done ≤ count
  pub pairs : Pairs (rows_at was w f c t n) (left_at was q 0) (right_at was q 0) now n c m q count done 0
  pub roots : (left_at now q 0 ≡ left_at was q 0) × (right_at now q 0 ≡ right_at was q 0)
  pub same : (e : ℕ) → e < done → (node (rows_at was w f c t n) (left_at now q e)).values ≡ (node (rows_at was w f c t n) (right_at now q e)).values
  pub low : Below was now m
  pub high : Above was now (q + 20480)

-- the same under another name
pairs_as : {T T' : List Node} {r r' s s' : ℕ} {bytes : List ℕ} {n c m q count done d : ℕ} → T ≡ T' → r ≡ r' → s ≡ s' → Pairs T r s bytes n c m q count done d → Pairs T' r' s' bytes n c m q count done d
pairs_as {T} {T'} {r} {r'} {s} {s'} {bytes} {n} {c} {m} {q} {count} {done} {d} a b e g =
    subst (λ (T : List Node). Pairs T r' s' bytes n c m q count done d) a (subst (λ (r : ℕ). Pairs T r s' bytes n c m q count done d) b (subst (λ (s : ℕ). Pairs T r s bytes n c m q count done d) e g))

module _ {was : List ℕ} {n w f c t m q : ℕ} (l : Paired was n w f c t m q) (sound : Sound was n w f c t) {now : List ℕ} {count done : ℕ} (g : Seeking was now n w f c t m q count done) where
  abbrev T : List Node
  T = rows_at was w f c t n

  rows : rows_at now w f c t n ≡ T
  rows = same_rows l.wide l.source sound now g.low

  pub seeking_paired : length now ≡ length was → Paired now n w f c t m q
  seeking_paired long = record { few = l.few; wide = l.wide; narrow = l.narrow; source = l.source; marks = l.marks; room = omega (arith, l.room) }

  pub seeking_sound : Sound now n w f c t
  seeking_sound = still_sound l.wide l.source sound now g.low

  pub seeking_pairs : PairsIn now n w f c t m q count done 0
  seeking_pairs = pairs_as (sym rows) (sym g.roots.0) (sym g.roots.1) g.pairs

  module _ (there : done < count) where
    inside : (left_at now q done < n) × (right_at now q done < n)
    inside = g.pairs.inside done there

    pub seeking_few : done < 4096
    seeking_few = omega (arith, entries_most l.few g.pairs)

    -- the entry, and the values of its rows, lie within the buffer
    pub seeking_place : length now ≡ length was → (q + done * 5 + 2 ≤ length now) × (t + left_at now q done * w + f ≤ length now) × (t + right_at now q done * w + f ≤ length now)
    seeking_place long =
        (omega (arith, seeking_few, l.room), omega (arith, row_in n w (left_at now q done) inside.0, l), omega (arith, row_in n w (right_at now q done) inside.1, l))

    abbrev Same : ℕ → Type 0
    Same = SameByte now (t + left_at now q done * w) (t + right_at now q done * w)

    pub seeking_other : {k : ℕ} → FirstNot Same f k → Sought was now n w f c t m q (Some (done, k))
    seeking_other {k} z = record {
      found = (record { count = count; pairs = g.pairs; there = there; first = met-first g.pairs.met g.within g.same there differ }, z);
      low = g.low;
      high = g.high;
    }
      where
        differ : (node T (left_at now q done)).values ≡ (node T (right_at now q done)).values → ⊥
        differ e = z.here ((values_byte now n w f c t (left_at now q done) (right_at now q done) inside.0 inside.1 (subst (λ (U : List Node). val c U (left_at now q done) ≡ val c U (right_at now q done)) (sym rows) e)).byte k z.within)

    module _ (z : (j : ℕ) → j < f → Same j) where
      pub seeking_more : {now' : List ℕ} {next : ℕ} → Followed now now' n w f c t m q done count next → Seeking was now' n w f c t m q next (done + 1)
      seeking_more {now'} {next} p = record {
        within = omega (arith, p.more);
        pairs = let y = pairs_as rows g.roots.0 g.roots.1 p.pairs in record { met = met-row y.met refl; inside = y.inside; marked = y.marked; listed = y.listed; distinct = y.distinct };
        roots = let (a, b) = p.kept 0 (omega arith) in (a ∙ g.roots.0, b ∙ g.roots.1);
        same = λ e i. let (a, b) = p.kept e (omega arith) in ap (λ (x : ℕ). (node T x).values) a ∙ alike e i ∙ ap (λ (x : ℕ). (node T x).values) (sym b);
        low = λ j i. p.low j i ∙ g.low j i;
        high = λ j i. p.high j i ∙ g.high j i;
      }
        where
          here : (node T (left_at now q done)).values ≡ (node T (right_at now q done)).values
          here = subst (λ (U : List Node). val c U (left_at now q done) ≡ val c U (right_at now q done)) rows (byte_values now n w f c t (left_at now q done) (right_at now q done) inside.0 inside.1 (record { byte = z }))

          alike : (e : ℕ) → e < done + 1 → (node T (left_at now q e)).values ≡ (node T (right_at now q e)).values
          alike e i = by_cases (dec_lt e done) (λ b. g.same e b) (λ b. let y : done ≡ e = omega arith in subst (λ (e : ℕ). (node T (left_at now q e)).values ≡ (node T (right_at now q e)).values) y here)

  pub seeking_none : count ≤ done → Sought was now n w f c t m q None
  seeking_none h = record { found = met_none g.pairs.met g.within g.same h; low = g.low; high = g.high }
