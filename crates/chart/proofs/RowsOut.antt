-- Writing out: one byte more, one row more, and that the rows written out are the chart's bytes. Assumes nothing.
use Rattle.std.proofs.Common.{◌≡◌, refl, sym, ◌∙◌, ap, subst, List, ℕ, ◌+◌, ◌*◌, ◌<◌, ◌≤◌, suc-mul, add-one, arith}
use Rattle.std.proofs.Common.{length, get_or, set, get_or-set_same, get_or-set_other, below_more}
use Rattle.std.proofs.Math.Logic.{by_cases}
use Rattle.std.proofs.Math.Decide.{dec_lt}
use Rattle.chart.specs.Duties.Out.{shifted, PartPut, RowPutIn, RowsPut}
use Rattle.chart.specs.Laws.Cells.{row_in}

pub put_none : (src was : List ℕ) (from to more less : ℕ) → PartPut src was was from to 0 more less
put_none src was from to more less = record { part = λ q h. absurd (omega arith); low = λ p h. refl; high = λ p h. refl }

pub put_more : {src was now : List ℕ} {from to k more less : ℕ} → PartPut src was now from to k more less → to + k < length now → PartPut src was (set now (to + k) (shifted src more less (from + k))) from to (k + 1) more less
put_more {src} {was} {now} {from} {to} {k} {more} {less} c l = let v = shifted src more less (from + k) in record {
  part = below_more (λ q. get_or (set now (to + k) v) (to + q) 0 ≡ shifted src more less (from + q)) k (λ q h. get_or-set_other now (to + k) (to + q) v 0 (omega arith) ∙ c.part q h) (get_or-set_same now (to + k) v 0 l);
  low = λ p h. get_or-set_other now (to + k) p v 0 (omega arith) ∙ c.low p h;
  high = λ p h. get_or-set_other now (to + k) p v 0 (omega arith) ∙ c.high p (omega arith);
}

-- the values as they are, then the beliefs
pub put_row : {src was mid now : List ℕ} {from to f c more less : ℕ} → PartPut src was mid from to f 0 0 → PartPut src mid now (from + f) (to + f) c more less → RowPutIn src was now from to f c more less
put_row {src} {from = from} {to = to} a b = record {
  values = λ q h. let e : shifted src 0 0 (from + q) ≡ get_or src (from + q) 0 = omega arith in b.low (to + q) (omega arith) ∙ a.part q h ∙ e;
  beliefs = b.part;
  low = λ p h. b.low p (omega arith) ∙ a.low p h;
  high = λ p h. b.high p h ∙ a.high p (omega arith);
}

pub rows_next : {src was now now' : List ℕ} {w f c from to more less i : ℕ} → f + c ≤ w → w ≤ f + c → RowsPut src was now w f c from to more less i → RowPutIn src now now' (from + i * w) (to + i * w) f c more less
    → RowsPut src was now' w f c from to more less (i + 1)
rows_next {src} {was} {now} {now'} {w} {f} {c} {from} {to} {more} {less} {i} wide slim g x = record {
  values = λ j q l h. by_cases (dec_lt j i)
      (λ k. x.low (to + j * w + q) (omega (arith, row_in i w j k)) ∙ g.values j q k h)
      (λ k. let e : j ≡ i = omega arith in subst (λ (j : ℕ). get_or now' (to + j * w + q) 0 ≡ get_or src (from + j * w + q) 0) (sym e) (x.values q h));
  beliefs = λ j d l h. by_cases (dec_lt j i)
      (λ k. x.low (to + j * w + f + d) (omega (arith, row_in i w j k)) ∙ g.beliefs j d k h)
      (λ k. let e : j ≡ i = omega arith in subst (λ (j : ℕ). get_or now' (to + j * w + f + d) 0 ≡ shifted src more less (from + j * w + f + d)) (sym e) (x.beliefs d h));
  low = λ p l. x.low p (omega arith) ∙ g.low p l;
  high = λ p l. let m : (i + 1) * w ≡ i * w + w = ap (λ (k : ℕ). k * w) (add-one i) ∙ suc-mul i w in x.high p (omega arith) ∙ g.high p (omega arith);
}
