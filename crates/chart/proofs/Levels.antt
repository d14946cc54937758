-- One level of the partition over the bytes: rows held against the leading rows of the classes so far, and one row more. Assumes nothing.
use Rattle.std.proofs.Common.{◌≡◌, refl, sym, ◌∙◌, ap, subst, ◌↔◌, List, ℕ, ◌+◌, ◌*◌, ◌<◌, ◌≤◌, arith, get_or, length}
use Rattle.std.proofs.Math.Logic.{by_cases}
use Rattle.std.proofs.Math.Decide.{dec_lt}
use Rattle.pack.specs.Duties.Table.{Below, Above, Between}
use Rattle.chart.specs.Duties.Numbers.{Sound}
use Rattle.chart.specs.Duties.Classed.{class_at}
use Rattle.chart.specs.Duties.Level.{Placed, SameValues, Alike, RowOk, Against, Levels, Finer, Sorted, RowClassed}
use Rattle.chart.specs.Duties.Level.{Leveled}
use Rattle.chart.specs.Laws.Cells.{row_in}
use Rattle.chart.proofs.Classes.{Equivalence, finer_above, sorted_none, sorted_row}
use Rattle.chart.proofs.ValueClasses.{values_equivalence, values_same}

-- of the first `count` classes none below q has a leading row that is alike to row i
pub record NoneBelow (bytes : List ℕ) (w f c t k r count i q : ℕ) : Type 0 where
  pub none : (p : ℕ) → p < count → p < q → Alike bytes w f c t k (get_or bytes (r + p) 0) i → ⊥

-- `Alike` is an equivalence
pub alike_equivalence : (bytes : List ℕ) (w f c t k : ℕ) → Equivalence (Alike bytes w f c t k)
alike_equivalence bytes w f c t k = record {
  self = λ a. record { values = (values_equivalence bytes w f t).self a; beliefs = λ d h. refl };
  back = λ x. record { values = (values_equivalence bytes w f t).back x.values; beliefs = λ d h. sym (x.beliefs d h) };
  on = λ x y. record { values = (values_equivalence bytes w f t).on x.values y.values; beliefs = λ d h. x.beliefs d h ∙ y.beliefs d h };
}

module _ {was : List ℕ} (now : List ℕ) {n w f c t a k r : ℕ} (l : Levels was n w f c t a k r) (sound : Sound was n w f c t) (low : Below was now a) (mid : Between was now (a + n) r) where
  -- bytes of row i are as they were
  row_byte : (i : ℕ) → i < n → (p : ℕ) → p < w → get_or now (t + i * w + p) 0 ≡ get_or was (t + i * w + p) 0
  row_byte i h p g = low (t + i * w + p) (omega (arith, row_in n w i h, l.source))

  -- and so are the old classes
  class_byte : (x : ℕ) → x < n → class_at now k x ≡ class_at was k x
  class_byte x h = mid (k + x) (omega (arith, l.new)) (omega (arith, l.old))

  -- and the class of what row i believes
  belief_class : (i : ℕ) → i < n → (d : ℕ) → d < c → class_at now k (get_or now (t + i * w + f + d) 0) ≡ class_at was k (get_or was (t + i * w + f + d) 0)
  belief_class i h d g =
      let z : t + i * w + f + d ≡ t + i * w + (f + d) = omega arith in
      let e : get_or now (t + i * w + f + d) 0 ≡ get_or was (t + i * w + f + d) 0 = ap (λ (p : ℕ). get_or now p 0) z ∙ row_byte i h (f + d) (omega (arith, l.wide)) ∙ ap (λ (p : ℕ). get_or was p 0) (sym z) in
      ap (λ (x : ℕ). class_at now k x) e ∙ class_byte (get_or was (t + i * w + f + d) 0) (sound.beliefs i d h g)

  -- so rows have the same values where they had
  same_values : (i j : ℕ) → i < n → j < n → SameValues now w f t i j ↔ SameValues was w f t i j
  same_values i j hi hj = values_same n (omega (arith, l.wide)) l.source low i j hi hj

  -- and are alike where they were
  pub alike_same : (i j : ℕ) → i < n → j < n → Alike now w f c t k i j ↔ Alike was w f c t k i j
  alike_same i j hi hj = (
    λ x. record {
      values = same.0 x.values;
      beliefs = λ d h. sym (belief_class i hi d h) ∙ x.beliefs d h ∙ belief_class j hj d h;
    },
    λ x. record {
      values = same.1 x.values;
      beliefs = λ d h. belief_class i hi d h ∙ x.beliefs d h ∙ sym (belief_class j hj d h);
    },
  )
    where
      same : SameValues now w f t i j ↔ SameValues was w f t i j
      same = same_values i j hi hj

-- The rows below i are classed
pub record Leveling (was now : List ℕ) (n w f c t a k r i count : ℕ) : Type 0 where
  pub within : i ≤ n
  pub fewer : count ≤ i
  pub sorted : Sorted (Alike was w f c t k) (class_at now a) (λ q. get_or now (r + q) 0) i count
  pub low : Below was now a
  pub mid : Between was now (a + n) r
  pub high : Above was now (r + n)

pub leveling_none : (was : List ℕ) (n w f c t a k r : ℕ) → Leveling was was n w f c t a k r 0 0
leveling_none was n w f c t a k r = record { within = omega arith; fewer = omega arith; sorted = sorted_none _ _ _; low = λ p l. refl; mid = λ p l h. refl; high = λ p l. refl }

module _ {was now : List ℕ} {n w f c t a k r i count : ℕ} (l : Levels was n w f c t a k r) (sound : Sound was n w f c t) (finer : Finer was n w f c t k) (long : length now ≡ length was) (g : Leveling was now n w f c t a k r i count) where
  row_ok : (j : ℕ) → j < n → RowOk now w f c t k j
  row_ok j h = record {
    inside = omega (arith, row_in n w j h, l.source, l.new, l.old, l.leads, long);
    class = omega (arith, l.old, l.leads, long);
    beliefs = λ d p. let z : t + j * w + f + d ≡ t + j * w + (f + d) = omega arith in
        let e : get_or now (t + j * w + f + d) 0 ≡ get_or was (t + j * w + f + d) 0 = ap (λ (p : ℕ). get_or now p 0) z ∙ row_byte now l sound g.low g.mid j h (f + d) (omega (arith, l.wide)) ∙ ap (λ (p : ℕ). get_or was p 0) (sym z) in
        omega (arith, e, sound.beliefs j d h p, l.old, l.leads, long);
  }

  -- the classes so far have no lower numbers than the old ones
  no_lower : (j : ℕ) → j < i → class_at was k j ≤ class_at now a j
  no_lower = finer_above (class_at was k) (class_at now a) i (λ j h. finer.numbered j (omega (arith, g.within))) g.sorted.numbered
      (λ x y hx hy e. finer.same x y (omega (arith, g.within)) (omega (arith, g.within)) ((g.sorted.same x y hx hy).0 e))

  pub leveling_against : i < n → Against now w f c t k r count i
  leveling_against h = record {
    wide = l.wide;
    room = omega (arith, g.fewer, l.leads, long);
    row = row_ok i h;
    leads = λ q p. row_ok (get_or now (r + q) 0) (omega (arith, (g.sorted.led q p).0));
    finer = λ q p x.
        let lj : get_or now (r + q) 0 < n = omega (arith, (g.sorted.led q p).0) in
        class_byte now l sound g.low g.mid (get_or now (r + q) 0) lj ∙ finer.same (get_or now (r + q) 0) i lj h ((alike_same now l sound g.low g.mid (get_or now (r + q) 0) i lj h).0 x)
        ∙ sym (class_byte now l sound g.low g.mid i h);
    values = λ q p x.
        let j = get_or now (r + q) 0 in
        let lj : j < n = omega (arith, (g.sorted.led q p).0) in
        (same_values now l sound g.low g.mid j i lj h).1 (finer.values j i lj h (sym (class_byte now l sound g.low g.mid j lj) ∙ x ∙ class_byte now l sound g.low g.mid i h));
    since = λ q p x.
        let (lj, e) = g.sorted.led q p in
        let z : class_at was k (get_or now (r + q) 0) ≡ class_at was k i = finer.same (get_or now (r + q) 0) i (omega arith) h ((alike_same now l sound g.low g.mid (get_or now (r + q) 0) i (omega arith) h).0 x) in
        omega (arith, no_lower (get_or now (r + q) 0) lj, e, z, class_byte now l sound g.low g.mid i h);
  }

  pub leveling_row : i < n → {now' : List ℕ} {more : ℕ} → RowClassed now now' w f c t a k r i count more → Leveling was now' n w f c t a k r (i + 1) more
  leveling_row h {now'} {more} x = record {
    within = omega arith;
    fewer = by_cases (dec_lt x.class count) (λ p. omega (arith, x.old p, g.fewer)) (λ p. omega (arith, (x.new (omega arith)).0, g.fewer));
    sorted = sorted_row (alike_equivalence was w f c t k) (class_at now' a) (λ q. get_or now' (r + q) 0) g.sorted x.classed x.led place x.here x.old x.new;
    low = λ p z. x.low p z ∙ g.low p z;
    mid = λ p z y. x.mid p (omega arith) y ∙ g.mid p z y;
    high = λ p z. x.high p (omega (arith, g.fewer)) ∙ g.high p z;
  }
    where
      -- the leading row of class q against i, as the bytes were
      then : (q : ℕ) → q < count → Alike now w f c t k (get_or now (r + q) 0) i ↔ Alike was w f c t k (get_or now (r + q) 0) i
      then q p = alike_same now l sound g.low g.mid (get_or now (r + q) 0) i (omega (arith, (g.sorted.led q p).0)) h

      place : Placed (Alike was w f c t k) (λ q. get_or now (r + q) 0) count i x.class
      place = record { within = x.is.within; known = λ p. (then x.class p).0 (x.is.known p); fresh = λ z q p u. x.is.fresh z q p ((then q p).1 u) }

  pub leveling_end : n ≤ i → Leveled was now n w f c t a k r count
  leveling_end h = let e : i ≡ n = omega (arith, g.within) in
      record { sorted = subst (λ (i : ℕ). Sorted (Alike was w f c t k) (class_at now a) (λ q. get_or now (r + q) 0) i count) e g.sorted; fewer = omega (arith, g.fewer); low = g.low; mid = g.mid; high = g.high }
