-- The partition over the bytes, level by level: each level tells apart what chains one longer do, and where the next has no more classes, or all rows are told apart, it is what the rows mean. Assumes nothing.
use Rattle.std.proofs.Common.{◌≡◌, refl, sym, ◌∙◌, ap, subst, ◌↔◌, List, ℕ, suc, ◌+◌, ◌*◌, ◌<◌, ◌≤◌, arith, get_or}
use Rattle.std.proofs.Common.{length, ext_get_or}
use mathlib.Core.Logic.Iff
use Rattle.pack.specs.Syntax.{Node}
use Rattle.pack.specs.State.{target, meaning, Closed}
use Rattle.chart.specs.States.{AtMost}
use Rattle.chart.specs.Chart.{Ordered}
use Rattle.chart.specs.Laws.Merged.{classes, Numbered, no_more, all_apart, grows, first}
use Rattle.chart.specs.Laws.Bridge.{val, exact, coarse, many}
use Rattle.chart.specs.Laws.Moore as moore
use Rattle.pack.specs.Duties.Table.{cells, rows_at, Below, Above}
use Rattle.chart.specs.Duties.Put.{PartCopied}
use Rattle.chart.specs.Duties.Numbers.{Sound}
use Rattle.chart.specs.Duties.Classed.{class_at}
use Rattle.chart.specs.Duties.Level.{SameValues, Alike, Levels, Finer, Leveled, Parted}
use Rattle.chart.specs.Inner.Values.{Valued}
use Rattle.pack.specs.Laws.Rows.{cells_at, rows_length}
use Rattle.chart.specs.Laws.Cells.{cells-length, row_in, rows_node, rows_same}
use Rattle.chart.proofs.Classes.{classes_same}
use Rattle.chart.specs.Laws.MergedRows.{ordered_sound}

-- Over a table: class numbers `key` that are exact at a depth, and those of the next level
module _ (C : ℕ) (T : List Node) where
  -- exact for chains shorter than k
  abbrev pub Exactly : ℕ → (ℕ → ℕ) → Type 0
  Exactly k key = moore.Exact C (val C T) (target T) (length T) k key

  -- rows i and j have the same values, and believe in rows of the same number
  abbrev pub Next : (ℕ → ℕ) → ℕ → ℕ → Type 0
  Next key i j = (val C T i ≡ val C T j) × ((d : ℕ) → d < C → key (target T i d) ≡ key (target T j d))

module _ (C : ℕ) (T : List Node) (closed : Closed C T) where
  -- classes of equal values are exact for the empty chain
  pub exactly_values : (key : ℕ → ℕ) → ((i j : ℕ) → i < length T → j < length T → (key i ≡ key j) ↔ (val C T i ≡ val C T j)) → Exactly C T 1 key
  exactly_values key h = moore.exact_suc C (val C T) (target T) (length T) closed 0 (λ i. 0) key (moore.exact_zero C (val C T) (target T) (length T)) (λ i j li lj. Iff.trans (h i j li lj) (λ x. (x, λ d l. refl), λ x. x.0))

  pub exactly_as : (k : ℕ) (key key' : ℕ → ℕ) → ((i : ℕ) → i < length T → key' i ≡ key i) → Exactly C T k key → Exactly C T k key'
  exactly_as k key key' h e i j li lj = (λ x. (e i j li lj).0 (sym (h i li) ∙ x ∙ h j lj), λ s. h i li ∙ (e i j li lj).1 s ∙ sym (h j lj))

  pub exactly_next : (k : ℕ) (key key' : ℕ → ℕ) → Exactly C T k key → ((i j : ℕ) → i < length T → j < length T → (key' i ≡ key' j) ↔ Next C T key i j) → Exactly C T (suc k) key'
  exactly_next k key key' e h = moore.exact_suc C (val C T) (target T) (length T) closed k key key' e h

  -- rows that agree on values and on the classes of beliefs agree on shorter chains, and so are of one class
  pub next_finer : (k : ℕ) (key : ℕ → ℕ) → Exactly C T k key → (i j : ℕ) → i < length T → j < length T → Next C T key i j → key i ≡ key j
  next_finer k key e i j li lj x =
      let deeper = (moore.same_suc C (val C T) (target T) k i j).1 (x.0, λ d h. (e (target T i d) (target T j d) (closed i d li h) (closed j d lj h)).0 (x.1 d h)) in
      (e i j li lj).1 (λ ch l. deeper ch (omega arith))

  -- no more classes one level on: then they are what the rows mean
  pub stops : (k : ℕ) (key key' : ℕ → ℕ) → Exactly C T k key → Exactly C T (suc k) key' → (count : ℕ) → Numbered key (length T) → classes key (length T) ≡ count → ((i : ℕ) → i < length T → key' i < count)
      → (i j : ℕ) → i < length T → j < length T → (key i ≡ key j) ↔ (meaning C T i ≡ meaning C T j)
  stops k key key' e e' count num met below =
      exact C T closed k key e (moore.stop_count C (val C T) (target T) (length T) closed k key key' e e' count
      (λ q h. let (r, lr, z, _) = first key (length T) num q (omega arith) in (r, lr, z)) below)

-- Over the bytes: rows are alike exactly where the table says so
module _ (bytes : List ℕ) (n w f c t : ℕ) where
  abbrev pub table_at : List Node
  table_at = rows_at bytes w f c t n

  values_at_lem : (i : ℕ) → i < n → val c table_at i ≡ cells bytes (t + i * w) f
  values_at_lem i h = ap (λ (m : Node). m.values) (rows_node bytes w f c t n i h)

  pub target_at : (i d : ℕ) → i < n → d < c → target table_at i d ≡ get_or bytes (t + i * w + f + d) 0
  target_at i d h l = ap (λ (m : Node). get_or m.beliefs d 0) (rows_node bytes w f c t n i h) ∙ cells_at bytes (t + i * w + f) c d l

  pub sound_closed : Sound bytes n w f c t → Closed c table_at
  sound_closed s i d h l = let e = rows_length bytes w f c t n in let hi : i < n = omega arith in omega (arith, e, target_at i d hi l, s.beliefs i d hi l)

  -- the same values are the same bytes
  pub values_byte : (i j : ℕ) → i < n → j < n → val c table_at i ≡ val c table_at j → SameValues bytes w f t i j
  values_byte i j hi hj e = record { byte = λ q h. sym (cells_at bytes (t + i * w) f q h) ∙ ap (λ (v : List ℕ). get_or v q 0) (sym (values_at_lem i hi) ∙ e ∙ values_at_lem j hj) ∙ cells_at bytes (t + j * w) f q h }

  -- and the same bytes are the same values
  pub byte_values : (i j : ℕ) → i < n → j < n → SameValues bytes w f t i j → val c table_at i ≡ val c table_at j
  byte_values i j hi hj x =
      values_at_lem i hi ∙ ext_get_or 0 (cells bytes (t + i * w) f) (cells bytes (t + j * w) f) (cells-length bytes (t + i * w) f ∙ sym (cells-length bytes (t + j * w) f))
      (λ q h. let g : q < f = omega (arith, cells-length bytes (t + i * w) f) in cells_at bytes (t + i * w) f q g ∙ x.byte q g ∙ sym (cells_at bytes (t + j * w) f q g))
      ∙ sym (values_at_lem j hj)

  pub alike_next : (k i j : ℕ) → i < n → j < n → Alike bytes w f c t k i j ↔ Next c table_at (class_at bytes k) i j
  alike_next k i j hi hj = (
    λ x. (
      byte_values i j hi hj x.values,
      λ d h. ap (class_at bytes k) (target_at i d hi h) ∙ x.beliefs d h ∙ ap (class_at bytes k) (sym (target_at j d hj h)),
    ),
    λ y. record {
      values = values_byte i j hi hj y.0;
      beliefs = λ d h. ap (class_at bytes k) (sym (target_at i d hi h)) ∙ y.1 d h ∙ ap (class_at bytes k) (target_at j d hj h);
    },
  )

pub levels_same : {was now : List ℕ} {n w f c t a k r : ℕ} → Levels was n w f c t a k r → length now ≡ length was → Levels now n w f c t a k r
levels_same l e = record { few = l.few; wide = l.wide; source = l.source; new = l.new; old = l.old; leads = omega (arith, l.leads) }

-- The classes from k on are exact at some depth
pub record Parting (was : List ℕ) (n w f c t : ℕ) (now : List ℕ) (a k r limit count : ℕ) : Type 0 where
  pub depth : ℕ
  pub exactly : Exactly c (table_at was n w f c t) depth (class_at now k)
  pub numbered : Numbered (class_at now k) n
  pub met : classes (class_at now k) n ≡ count
  pub few : count ≤ limit
  -- the first level was by values
  pub deep : 0 < depth
  pub low : Below was now a
  pub high : Above was now (r + n)

-- Levels over rows that stay as they were
module _ {was : List ℕ} {n w f c t a : ℕ} (wide : f + c ≤ w) (source : t + n * w ≤ a) (s : Sound was n w f c t) where
  abbrev pub table_was : List Node
  table_was = table_at was n w f c t

  pub table_closed : Closed c table_was
  table_closed = sound_closed was n w f c t s

  pub table_long : length table_was ≡ n
  table_long = rows_length was w f c t n

  -- the rows are as they were
  pub same_rows : (now : List ℕ) → Below was now a → table_at now n w f c t ≡ table_was
  same_rows now low = rows_same was now w f c t t n wide (λ p h. low (t + p) (omega arith))

  pub still_sound : (now : List ℕ) → Below was now a → Sound now n w f c t
  still_sound now low = record { beliefs = λ i d h g. omega (arith, s.beliefs i d h g, low (t + i * w + f + d) (omega (arith, row_in n w i h))) }

  alike_at : (k : ℕ) (now : List ℕ) → Below was now a → (i j : ℕ) → i < n → j < n → Alike now w f c t k i j ↔ Next c table_was (class_at now k) i j
  alike_at k now low i j hi hj = subst (λ (U : List Node). Alike now w f c t k i j ↔ Next c U (class_at now k) i j) (same_rows now low) (alike_next now n w f c t k i j hi hj)

  -- the classes of equal values
  pub valued_exact : (k : ℕ) {r count : ℕ} {now : List ℕ} → Valued was now n w f t a k r count → Exactly c table_was 1 (class_at now k)
  valued_exact k {now = now} x = exactly_values c table_was table_closed (class_at now k) (λ i j hi hj.
      let li : i < n = omega (arith, table_long) in
      let lj : j < n = omega (arith, table_long) in
      Iff.trans (x.sorted.same i j li lj) (byte_values was n w f c t i j li lj, values_byte was n w f c t i j li lj))

  -- what a level asks of the classes before it
  pub level_finer : (depth k : ℕ) {now : List ℕ} → Exactly c table_was depth (class_at now k) → 0 < depth → Numbered (class_at now k) n → Below was now a → Finer now n w f c t k
  level_finer depth k {now} e deep num low = record {
    values = λ i j hi hj x. values_byte now n w f c t i j hi hj
        (subst (λ (U : List Node). val c U i ≡ val c U j) (sym (same_rows now low)) (shallow i j (omega (arith, table_long)) (omega (arith, table_long)) deep x));
    numbered = num;
    same = λ i j hi hj x. next_finer c table_was table_closed depth (class_at now k) e i j (omega (arith, table_long)) (omega (arith, table_long)) ((alike_at k now low i j hi hj).0 x);
  }
    where
      -- rows of one class have the same values
      shallow : (i j : ℕ) → i < length table_was → j < length table_was → 0 < depth → class_at now k i ≡ class_at now k j → val c table_was i ≡ val c table_was j
      shallow i j hi hj h x = let s = (e i j hi hj).0 x in ((moore.same_suc c (val c table_was) (target table_was) 0 i j).0 (λ ch l. s ch (omega arith))).0

  -- and what it gives: one deeper
  pub level_exact : (depth k : ℕ) {b r next : ℕ} {now now' : List ℕ} → Exactly c table_was depth (class_at now k) → Below was now a → Leveled now now' n w f c t b k r next → Exactly c table_was (suc depth) (class_at now' b)
  level_exact depth k {b} {now = now} {now' = now'} e low x = exactly_next c table_was table_closed depth (class_at now k) (class_at now' b) e
      (λ i j hi hj. Iff.trans (x.sorted.same i j (omega (arith, table_long)) (omega (arith, table_long))) (alike_at k now low i j (omega (arith, table_long)) (omega (arith, table_long))))

module _ {was : List ℕ} {n w f c t a k r : ℕ} (l : Levels was n w f c t a k r) (o : Ordered c (rows_at was w f c t n)) where
  abbrev T : List Node
  T = table_at was n w f c t

  sound : Sound was n w f c t
  sound = ordered_sound o

  long : length T ≡ n
  long = rows_length was w f c t n

  -- more classes than `limit` that are exact at a depth
  too_many : {now : List ℕ} (b depth limit count : ℕ) → Exactly c T depth (class_at now b) → Numbered (class_at now b) n → classes (class_at now b) n ≡ count → limit < count → Below was now a → Above was now (r + n) → Parted was now n w f c t a k r limit count
  too_many {now} b depth limit count e num met h low high = record {
    few = λ z. absurd (omega arith);
    many = λ _ y. many c T o (class_at now b) (λ i p. num i (omega (arith, long))) (coarse c T depth (class_at now b) e) limit
        (omega (arith, met, ap (classes (class_at now b)) long)) (subst (λ (U : List Node). AtMost limit c (meaning c U 0)) (same_rows l.wide l.source sound now low) y);
    low = low;
    high = high;
  }

  module _ {now : List ℕ} {count : ℕ} (x : Valued was now n w f t a k r count) where
    pub valued-many : {limit : ℕ} → limit < count → Parted was now n w f c t a k r limit count
    valued-many {limit} h = too_many k 1 limit count (valued_exact l.wide l.source sound k x) x.sorted.numbered x.sorted.met h x.low x.high

    rows_valued : table_at now n w f c t ≡ T
    rows_valued = same_rows l.wide l.source sound now x.low

    pub ordered_valued : Ordered c (rows_at now w f c t n)
    ordered_valued = subst (Ordered c) (sym rows_valued) o

    -- from there on the levels begin
    pub parting_start : {limit : ℕ} → count ≤ limit → Parting now n w f c t now a k r limit count
    parting_start h = record {
      depth = 1;
      exactly = subst (λ (U : List Node). Exactly c U 1 (class_at now k)) (sym rows_valued) (valued_exact l.wide l.source sound k x);
      numbered = x.sorted.numbered;
      met = x.sorted.met;
      few = h;
      deep = omega arith;
      low = λ p q. refl;
      high = λ p q. refl;
    }

    -- what they leave was left of the bytes before
    pub parted_since : {now' : List ℕ} {limit more : ℕ} → Parted now now' n w f c t a k r limit more → Parted was now' n w f c t a k r limit more
    parted_since p = record { few = p.few; many = p.many; low = λ q h. p.low q h ∙ x.low q h; high = λ q h. p.high q h ∙ x.high q h }

  module _ {now : List ℕ} {limit count : ℕ} (g : Parting was n w f c t now a k r limit count) where
    pub parting_finer : Finer now n w f c t k
    parting_finer = level_finer l.wide l.source sound g.depth k g.exactly g.deep g.numbered g.low

    pub parting_sound : Sound now n w f c t
    parting_sound = still_sound l.wide l.source sound now g.low

    -- all rows are told apart: what they mean is too
    pub parting_apart : n ≤ count → Parted was now n w f c t a k r limit count
    parting_apart h = record {
      few = λ _. (record { ordered = subst (Ordered c) (sym rows) o; exact = λ i j hi hj. (λ e. ap (meaning c (table_at now n w f c t)) (sym (own i hi) ∙ e ∙ own j hj), apart i j hi hj); numbered = g.numbered }, g.met);
      many = λ z. absurd (omega (arith, g.few));
      low = g.low;
      high = g.high;
    }
      where
        rows : table_at now n w f c t ≡ T
        rows = same_rows l.wide l.source sound now g.low

        own : (i : ℕ) → i < n → class_at now k i ≡ i
        own = all_apart (class_at now k) n g.numbered (omega (arith, g.met, no_more (class_at now k) n g.numbered))

        apart : (i j : ℕ) → i < n → j < n → meaning c (table_at now n w f c t) i ≡ meaning c (table_at now n w f c t) j → class_at now k i ≡ class_at now k j
        apart i j hi hj e = coarse c T g.depth (class_at now k) g.exactly i j (omega (arith, long)) (omega (arith, long)) (subst (λ (U : List Node). meaning c U i ≡ meaning c U j) rows e)

    module _ {now' : List ℕ} {next : ℕ} (x : Leveled now now' n w f c t a k r next) where
      low' : Below was now' a
      low' p h = x.low p h ∙ g.low p h

      high' : Above was now' (r + n)
      high' p h = x.high p h ∙ g.high p h

      -- the new classes are exact one deeper
      deeper : Exactly c T (suc g.depth) (class_at now' a)
      deeper = level_exact l.wide l.source sound g.depth k g.exactly g.low x

      rows' : table_at now' n w f c t ≡ T
      rows' = same_rows l.wide l.source sound now' low'

      -- the old ones are still there
      old_classes : (i : ℕ) → i < n → class_at now' k i ≡ class_at now k i
      old_classes i h = x.mid (k + i) (omega (arith, l.new)) (omega (arith, l.old))

      pub parting_many : limit < next → Parted was now' n w f c t a k r limit next
      parting_many h = too_many a (suc g.depth) limit next deeper x.sorted.numbered x.sorted.met h low' high'

      pub parting_done : next ≤ count → Parted was now' n w f c t a k r limit count
      parting_done h = record {
        few = λ _. (
          record {
            ordered = subst (Ordered c) (sym rows') o;
            exact = λ i j hi hj. subst (λ (U : List Node). (class_at now' k i ≡ class_at now' k j) ↔ (meaning c U i ≡ meaning c U j)) (sym rows')
                (stops c T o.closed g.depth (class_at now' k) (class_at now' a)
                (exactly_as c T o.closed g.depth (class_at now k) (class_at now' k) (λ i p. old_classes i (omega (arith, long))) g.exactly) deeper count
                (λ i p. numbered' i (omega (arith, long))) (ap (classes (class_at now' k)) long ∙ met')
                (λ i p. omega (arith, x.sorted.met, grows (class_at now' a) i n (omega (arith, long)))) i j (omega (arith, long)) (omega (arith, long)));
            numbered = numbered';
          },
          met',
        );
        many = λ z. absurd (omega (arith, g.few));
        low = low';
        high = high';
      }
        where
          met' : classes (class_at now' k) n ≡ count
          met' = classes_same (class_at now k) (class_at now' k) n old_classes ∙ g.met

          numbered' : Numbered (class_at now' k) n
          numbered' i p = omega (arith, old_classes i p, g.numbered i p, classes_same (class_at now k) (class_at now' k) i (λ j q. old_classes j (omega arith)))

      pub parting_more : next ≤ limit → {now'' : List ℕ} → PartCopied now' now'' a k n → Parting was n w f c t now'' a k r limit next
      parting_more h {now''} y = record {
        depth = suc g.depth;
        exactly = exactly_as c T o.closed (suc g.depth) (class_at now' a) (class_at now'' k) (λ i p. y.part i (omega (arith, long))) deeper;
        numbered = λ i p. omega (arith, y.part i p, x.sorted.numbered i p, classes_same (class_at now' a) (class_at now'' k) i (λ j q. y.part j (omega arith)));
        met = classes_same (class_at now' a) (class_at now'' k) n (λ i p. y.part i p) ∙ x.sorted.met;
        few = h;
        deep = omega arith;
        low = λ p q. y.low p (omega (arith, l.new)) ∙ low' p q;
        high = λ p q. y.high p (omega (arith, l.old)) ∙ high' p q;
      }
