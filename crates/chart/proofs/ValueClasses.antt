-- The first level of the partition over the bytes: rows of the same values have the same mark, and are looked for among the leading rows of that mark. Assumes nothing.
use Rattle.std.proofs.Common.{◌≡◌, refl, sym, ◌∙◌, ap, subst, ◌↔◌, List, ℕ, suc, ◌+◌, ◌*◌, ◌%◌, ◌<◌, ◌≤◌, arith, get_or}
use Rattle.std.proofs.Common.{length, set, length-set, get_or-set_same, get_or-set_other}
use Rattle.std.proofs.Math.Logic.{by_cases}
use Rattle.std.specs.Prelude.{Bool, Some, None}
use Rattle.std.specs.Bool.{Decides}
use Rattle.std.proofs.Math.Decide.{dec_lt}
use Rattle.pack.specs.Duties.Table.{Below, Above}
use Rattle.chart.specs.Duties.Classed.{class_at}
use Rattle.chart.specs.Duties.Level.{Found, Placed, SameByte, SameValues, Levels, Sorted}
use Rattle.chart.specs.Laws.Sums.{sum_same}
use Rattle.chart.specs.Inner.Values.{hash_of, lead_mark, Last, Chain, Chained, Valuable, RowValued}
use Rattle.chart.specs.Laws.Cells.{row_in}
use Rattle.chart.proofs.Classes.{Equivalence, decides_as, placed_found, placed_next, sorted_none, sorted_row}

-- `SameValues` is an equivalence
pub values_equivalence : (bytes : List ℕ) (w f t : ℕ) → Equivalence (SameValues bytes w f t)
values_equivalence bytes w f t = record {
  self = λ a. record { byte = λ q h. refl };
  back = λ x. record { byte = λ q h. sym (x.byte q h) };
  on = λ x y. record { byte = λ q h. x.byte q h ∙ y.byte q h };
}

-- bytes of row i are as they were
row_byte : (was now : List ℕ) (n w t : ℕ) {f a : ℕ} → f ≤ w → t + n * w ≤ a → Below was now a → (i : ℕ) → i < n → (q : ℕ) → q < f → get_or now (t + i * w + q) 0 ≡ get_or was (t + i * w + q) 0
row_byte was now n w t wide source low i h q g = low (t + i * w + q) (omega (arith, row_in n w i h))

-- so rows have the same values where they had
pub values_same : {was now : List ℕ} (n : ℕ) {w f t a : ℕ} → f ≤ w → t + n * w ≤ a → Below was now a → (i j : ℕ) → i < n → j < n → SameValues now w f t i j ↔ SameValues was w f t i j
values_same {was} {now} n {w} {t = t} wide source low i j hi hj = (
  λ x. record { byte = λ q h. sym (row_byte was now n w t wide source low i hi q h) ∙ x.byte q h ∙ row_byte was now n w t wide source low j hj q h },
  λ x. record { byte = λ q h. row_byte was now n w t wide source low i hi q h ∙ x.byte q h ∙ sym (row_byte was now n w t wide source low j hj q h) },
)

-- the same bytes have the same mark
pub mark_same : (bytes bytes' : List ℕ) (a b f : ℕ) → ((q : ℕ) → q < f → get_or bytes (a + q) 0 ≡ get_or bytes' (b + q) 0) → hash_of bytes a f ≡ hash_of bytes' b f
mark_same bytes bytes' a b f h = ap (λ (s : ℕ). s % 131) (sum_same 2 bytes' bytes b a f h)

-- rows held against each other byte by byte
pub same_decides : {bytes : List ℕ} {w f t i j : ℕ} {r : Bool} → Decides r ((q : ℕ) → q < f → SameByte bytes (t + i * w) (t + j * w) q)
    → Decides r (SameValues bytes w f t i j)
same_decides d = decides_as (λ b. record { byte = b }) (λ s. s.byte) d

-- Looking along the classes of one mark: from class q on none has a leading row with the values of row i
pub record Looking (bytes : List ℕ) (w f t r i count q : ℕ) : Type 0 where
  pub within : q ≤ count
  pub has : (p : ℕ) → q ≡ suc p → lead_mark bytes w f t r p ≡ hash_of bytes (t + i * w) f
  pub others : (p : ℕ) → q ≤ p → p < count → SameValues bytes w f t (get_or bytes (r + p) 0) i → ⊥

module _ {bytes : List ℕ} {w f t a r i count last : ℕ} (x : Chain bytes w f t a r i count last) where
  pub looking_start : Looking bytes w f t r i count last
  looking_start = record {
    within = x.ends.within;
    has = x.ends.has;
    others = λ p h l s. x.ends.others p h l (mark_same bytes bytes (t + get_or bytes (r + p) 0 * w) (t + i * w) f s.byte);
  }

  module _ {q p : ℕ} (g : Looking bytes w f t r i count q) (e : q ≡ suc p) where
    pub looking_next : {j m : ℕ} → j ≡ get_or bytes (r + p) 0 → (SameValues bytes w f t j i → ⊥) → m ≡ get_or bytes (a + p) 0 → Looking bytes w f t r i count m
    looking_next {j} {m} z n y =
        let before : Last (lead_mark bytes w f t r) p (lead_mark bytes w f t r p) m = subst (Last (lead_mark bytes w f t r) p (lead_mark bytes w f t r p)) (sym y) (x.nexts p (omega (arith, g.within))) in
        record {
          within = omega (arith, before.within, g.within);
          has = λ u v. before.has u v ∙ g.has p e;
          others = λ u h l s. by_cases (dec_lt u p)
              (λ b. before.others u h b (mark_same bytes bytes (t + get_or bytes (r + u) 0 * w) (t + i * w) f s.byte ∙ sym (g.has p e)))
              (λ b. by_cases (dec_lt p u)
              (λ k. g.others u (omega arith) l s)
              (λ k. let v : u ≡ p = omega arith in n (subst (λ (j : ℕ). SameValues bytes w f t j i) (ap (λ (u : ℕ). get_or bytes (r + u) 0) v ∙ sym z) s)));
        }

-- the last of a mark, by other marks that are the same
last_as : {mark mark' : ℕ → ℕ} {m b x : ℕ} → Last mark m b x → ((p : ℕ) → p < m → mark' p ≡ mark p) → Last mark' m b x
last_as l e = record { within = l.within; has = λ p z. e p (omega (arith, l.within)) ∙ l.has p z; others = λ p h g z. l.others p h g (sym (e p g) ∙ z) }

-- one class more: it is the last of its mark
last_new : (mark : ℕ → ℕ) (m : ℕ) {b : ℕ} → mark m ≡ b → Last mark (m + 1) b (m + 1)
last_new mark m e = record { within = omega arith; has = λ p z. let u : p ≡ m = omega arith in ap mark u ∙ e; others = λ p h g. absurd (omega arith) }

-- and of another mark the last is as before
last_more : {mark : ℕ → ℕ} {m b x : ℕ} → Last mark m b x → (mark m ≡ b → ⊥) → Last mark (m + 1) b x
last_more {mark} {m} l n = record {
  within = omega (arith, l.within);
  has = l.has;
  others = λ p h g z. by_cases (dec_lt p m) (λ k. l.others p h k z) (λ k. let u : p ≡ m = omega arith in n (ap mark (sym u) ∙ z));
}

module _ {was : List ℕ} {n w f t a k r i count : ℕ} (v : Valuable was n w f t a k r i count) where
  pub row_inside : (j : ℕ) → j < n → t + j * w + f ≤ length was
  row_inside j h = omega (arith, row_in n w j h, v.wide, v.source, v.nexts, v.classes, v.room)

  -- bytes below a, the leading rows and what stands for each class are as they were
  module _ (now : List ℕ) (low : Below was now a) (led : (q : ℕ) → q < count → get_or now (r + q) 0 ≡ get_or was (r + q) 0) (kept : (q : ℕ) → q < count → get_or now (a + q) 0 ≡ get_or was (a + q) 0) {heads : List ℕ} (x : Chained was heads w f t a r count) where
    row_mark : (j : ℕ) → j < n → hash_of now (t + j * w) f ≡ hash_of was (t + j * w) f
    row_mark j h = mark_same now was (t + j * w) (t + j * w) f (λ q l. row_byte was now n w t v.wide v.source low j h q l)

    lead_mark_lem : (q : ℕ) → q < count → lead_mark now w f t r q ≡ lead_mark was w f t r q
    lead_mark_lem q h = ap (λ (j : ℕ). hash_of now (t + j * w) f) (led q h) ∙ row_mark (get_or was (r + q) 0) (omega (arith, v.leads q h, v.row))

    old_next : (q : ℕ) → q < count → Last (lead_mark now w f t r) q (lead_mark now w f t r q) (get_or now (a + q) 0)
    old_next q h = subst (Last (lead_mark now w f t r) q (lead_mark now w f t r q)) (sym (kept q h))
        (subst (λ (b : ℕ). Last (lead_mark now w f t r) q b (get_or was (a + q) 0)) (sym (lead_mark_lem q h)) (last_as (x.nexts q h) (λ p l. lead_mark_lem p (omega arith))))

    old_head : (b : ℕ) → b < 131 → Last (lead_mark now w f t r) count b (get_or heads b 0)
    old_head b h = last_as (x.heads_last b h) lead_mark_lem

    pub chained_same : Chained now heads w f t a r count
    chained_same = record { marks = x.marks; heads_last = old_head; nexts = old_next }

    -- row i leads one class more
    pub chained_more : {b : ℕ} → b < 131 → b ≡ hash_of was (t + i * w) f → get_or now (r + count) 0 ≡ i → get_or now (a + count) 0 ≡ get_or heads b 0 → Chained now (set heads b (count + 1)) w f t a r (count + 1)
    chained_more {b} h e lead next = record {
      marks = length-set heads b (count + 1) ∙ x.marks;
      heads_last = λ b' h'. by_cases (dec_lt b' b) (λ l. other b' h' (λ z. omega arith)) (λ l. by_cases (dec_lt b b') (λ m. other b' h' (λ z. omega arith)) (λ m. same b' (omega arith)));
      nexts = λ q l. by_cases (dec_lt q count) (old_next q) (λ m. let z : count ≡ q = omega arith in subst (λ (q : ℕ). Last (lead_mark now w f t r) q (lead_mark now w f t r q) (get_or now (a + q) 0)) z newest);
    }
      where
        mark : lead_mark now w f t r count ≡ b
        mark = ap (λ (j : ℕ). hash_of now (t + j * w) f) lead ∙ row_mark i v.row ∙ sym e

        newest : Last (lead_mark now w f t r) count (lead_mark now w f t r count) (get_or now (a + count) 0)
        newest = subst (Last (lead_mark now w f t r) count (lead_mark now w f t r count)) (sym next) (subst (λ (m : ℕ). Last (lead_mark now w f t r) count m (get_or heads b 0)) (sym mark) (old_head b h))

        same : (b' : ℕ) → b ≡ b' → Last (lead_mark now w f t r) (count + 1) b' (get_or (set heads b (count + 1)) b' 0)
        same b' z = subst (λ (b' : ℕ). Last (lead_mark now w f t r) (count + 1) b' (get_or (set heads b (count + 1)) b' 0)) z
            (subst (Last (lead_mark now w f t r) (count + 1) b) (sym (get_or-set_same heads b (count + 1) 0 (omega (arith, x.marks)))) (last_new (lead_mark now w f t r) count mark))

        other : (b' : ℕ) → b' < 131 → (b' ≡ b → ⊥) → Last (lead_mark now w f t r) (count + 1) b' (get_or (set heads b (count + 1)) b' 0)
        other b' h' z = subst (Last (lead_mark now w f t r) (count + 1) b') (sym (get_or-set_other heads b b' (count + 1) 0 z)) (last_more (old_head b' h') (λ y. z (sym y ∙ mark)))

  module _ {heads : List ℕ} (x : Chained was heads w f t a r count) where
    -- What `value_row` stores
    pub valued_old : {q : ℕ} → Found (SameValues was w f t) (λ p. get_or was (r + p) 0) count i (Some q) → RowValued was (set was (k + i) q) heads w f t a k r i count count
    valued_old {q} found = let h = found.0 in record {
      class = q;
      is = placed_found found;
      here = get_or-set_same was (k + i) q 0 (omega (arith, v));
      old = λ _. refl;
      new = λ z. absurd (omega arith);
      classed = λ j l. get_or-set_other was (k + i) (k + j) q 0 (omega arith);
      led = led;
      chained = chained_same (set was (k + i) q) low led (λ p l. get_or-set_other was (k + i) (a + p) q 0 (omega (arith, v))) x;
      low = low;
      high = λ p l. get_or-set_other was (k + i) p q 0 (omega (arith, v));
    }
      where
        low : Below was (set was (k + i) q) a
        low p l = get_or-set_other was (k + i) p q 0 (omega (arith, v))

        led : (p : ℕ) → p < count → get_or (set was (k + i) q) (r + p) 0 ≡ get_or was (r + p) 0
        led p l = get_or-set_other was (k + i) (r + p) q 0 (omega (arith, v))

    pub valued_new : Found (SameValues was w f t) (λ p. get_or was (r + p) 0) count i None → {b last : ℕ} → b < 131 → b ≡ hash_of was (t + i * w) f → last ≡ get_or heads b 0
        → RowValued was (set (set (set was (k + i) count) (r + count) i) (a + count) last) (set heads b (count + 1)) w f t a k r i count (count + 1)
    valued_new none {b} {last} hb e z = record {
      class = count;
      is = placed_next none;
      here = third (k + i) (omega (arith, v)) ∙ second (k + i) (omega (arith, v)) ∙ get_or-set_same was (k + i) count 0 (omega (arith, v));
      old = λ l. absurd (omega arith);
      new = λ _. (refl, lead);
      classed = λ j l. kept (k + j) (omega (arith, v)) (omega (arith, v)) (omega arith);
      led = led;
      chained = chained_more now low led (λ p l. kept (a + p) (omega arith) (omega (arith, v)) (omega (arith, v))) x hb e lead (next ∙ z);
      low = low;
      high = λ p l. kept p (omega (arith, v)) (omega arith) (omega (arith, v));
    }
      where
        one : List ℕ
        one = set was (k + i) count

        two : List ℕ
        two = set one (r + count) i

        now : List ℕ
        now = set two (a + count) last

        third : (p : ℕ) → (p ≡ a + count → ⊥) → get_or now p 0 ≡ get_or two p 0
        third p n = get_or-set_other two (a + count) p last 0 n

        second : (p : ℕ) → (p ≡ r + count → ⊥) → get_or two p 0 ≡ get_or one p 0
        second p n = get_or-set_other one (r + count) p i 0 n

        kept : (p : ℕ) → (p ≡ a + count → ⊥) → (p ≡ r + count → ⊥) → (p ≡ k + i → ⊥) → get_or now p 0 ≡ get_or was p 0
        kept p x y z = third p x ∙ second p y ∙ get_or-set_other was (k + i) p count 0 z

        low : Below was now a
        low p l = kept p (omega arith) (omega (arith, v)) (omega (arith, v))

        led : (p : ℕ) → p < count → get_or now (r + p) 0 ≡ get_or was (r + p) 0
        led p l = kept (r + p) (omega (arith, v)) (omega arith) (omega (arith, v))

        lead : get_or now (r + count) 0 ≡ i
        lead = third (r + count) (omega (arith, v)) ∙ get_or-set_same one (r + count) i 0 (omega (arith, v, length-set was (k + i) count))

        next : get_or now (a + count) 0 ≡ last
        next = get_or-set_same two (a + count) last 0 (omega (arith, v, length-set one (r + count) i, length-set was (k + i) count))

-- The rows below i are classed by their values
pub record Valuing (was now heads : List ℕ) (n w f t a k r i count : ℕ) : Type 0 where
  pub within : i ≤ n
  pub fewer : count ≤ i
  pub sorted : Sorted (SameValues was w f t) (class_at now k) (λ q. get_or now (r + q) 0) i count
  pub chained : Chained now heads w f t a r count
  pub low : Below was now a
  pub high : Above was now (r + n)

pub valuing_none : (was heads : List ℕ) (n w f t a k r : ℕ) → length heads ≡ 131 → ((b : ℕ) → b < 131 → get_or heads b 0 ≡ 0) → Valuing was was heads n w f t a k r 0 0
valuing_none was heads n w f t a k r long zeros = record {
  within = omega arith;
  fewer = omega arith;
  sorted = sorted_none _ _ _;
  chained = record {
    marks = long;
    heads_last = λ b h. record { within = omega (arith, zeros b h); has = λ p z. absurd (omega (arith, zeros b h)); others = λ p z l. absurd (omega arith) };
    nexts = λ q h. absurd (omega arith);
  };
  low = λ p l. refl;
  high = λ p l. refl;
}

module _ {was now heads : List ℕ} {n w f c t a k r i count : ℕ} (l : Levels was n w f c t a k r) (long : length now ≡ length was) (g : Valuing was now heads n w f t a k r i count) where
  pub valuing_row : i < n → {now' heads' : List ℕ} {more : ℕ} → RowValued now now' heads' w f t a k r i count more → Valuing was now' heads' n w f t a k r (i + 1) more
  valuing_row h {now'} {heads'} {more} x = record {
    within = omega arith;
    fewer = by_cases (dec_lt x.class count) (λ p. omega (arith, x.old p, g.fewer)) (λ p. omega (arith, (x.new (omega arith)).0, g.fewer));
    sorted = sorted_row (values_equivalence was w f t) (class_at now' k) (λ q. get_or now' (r + q) 0) g.sorted x.classed x.led place x.here x.old x.new;
    chained = x.chained;
    low = λ p z. x.low p z ∙ g.low p z;
    high = λ p z. x.high p (omega (arith, g.fewer)) ∙ g.high p z;
  }
    where
      -- the leading row of class q against i, as the bytes were
      then : (q : ℕ) → q < count → SameValues now w f t (get_or now (r + q) 0) i ↔ SameValues was w f t (get_or now (r + q) 0) i
      then q p = values_same n (omega (arith, l.wide)) l.source g.low (get_or now (r + q) 0) i (omega (arith, (g.sorted.led q p).0)) h

      place : Placed (SameValues was w f t) (λ q. get_or now (r + q) 0) count i x.class
      place = record { within = x.is.within; known = λ p. (then x.class p).0 (x.is.known p); fresh = λ z q p u. x.is.fresh z q p ((then q p).1 u) }
