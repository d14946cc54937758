-- The pass over bytes: beliefs named one after the other, rows filled one after the other. Assumes nothing.
use Rattle.std.specs.Prelude.{◌≡◌, refl, List, [], ◌∷◌, ◌++◌, ℕ, suc, ◌+◌, ◌*◌, ◌<◌, ◌≤◌, max, length, get_or, set}
use Rattle.std.proofs.Common.{sym, ◌∙◌, ap, ap₂, subst, ⊎_elim, arith, get_or-set_same, get_or-set_other, below_more}
use Rattle.pack.specs.State.{State}
use Rattle.pack.specs.Syntax.{Node}
use Rattle.pack.specs.State.{meaning}
use Rattle.chart.specs.Laws.Built.{Family, built}
use Rattle.chart.specs.Chart.{meets, Fresh, met, Ordered}
use Rattle.chart.specs.Laws.Unique.{named}
use Rattle.chart.specs.Laws.Merged.{meets_up, meets_in}
use Rattle.chart.specs.Laws.Pass.{numbered, Pass, pass_start, pass_row, pass_count, pass_end}
use Rattle.pack.specs.Duties.Table.{cells, rows_at, Below, Above}
use Rattle.chart.specs.Duties.Numbers.{key_at, Numbering, Given, Named, RowFilled}
use Rattle.pack.specs.Laws.Rows.{cells_at, rows_length}
use Rattle.chart.specs.Laws.Cells.{cells-length, cells_none, cells_more, cells_same}
use Rattle.chart.specs.Laws.Cells.{row_in, rows_none, rows_more, rows_same}
use Rattle.chart.specs.Laws.Numbering.{few, numbering_same}

meets_more : (k : ℕ) (bs : List ℕ) (b : ℕ) → meets k (bs ++ (b ∷ [])) ≡ max (meets k bs) (suc b)
unfolding meets
meets_more k [] b = refl
meets_more k (x ∷ bs) b = meets_more (max k (suc x)) bs b

fresh_more : (k : ℕ) (bs : List ℕ) (b : ℕ) → Fresh k bs → b ≤ meets k bs → Fresh k (bs ++ (b ∷ []))
unfolding meets Fresh
fresh_more k [] b f h = (h, tt)
fresh_more k (x ∷ bs) b f h = (f.0, fresh_more (max k (suc x)) bs b f.1 h)

-- Naming beliefs
pub named_none : (was : List ℕ) (m size count to : ℕ) (slots : ℕ → ℕ) → Numbering was m size count
    → Named was was m size count count to 0 slots
unfolding meets Fresh
named_none was m size count to slots n = record {
  numbering = n;
  fresh = rw cells_none tt;
  more_met = rw cells_none refl;
  names = λ d l. absurd (omega arith);
  below = λ d l. absurd (omega arith);
  kept = λ i l. refl;
  low = λ p l. refl;
  mid = λ p l h. refl;
  high = λ p l. refl;
}

-- one more: `mid` is the buffer once the slot has its number r
module _ {was old mid : List ℕ} {m size count more met to k r x : ℕ} {slots : ℕ → ℕ}
    (n : Named was old m size count more to k slots) (g : Given old mid m size more x r)
    (e : x ≡ slots k) (q : met ≡ max more (suc r)) (after : m + size + size ≤ to) (fits : to + k < length mid) where
  abbrev now : List ℕ
  now = set mid (to + k) r

  other : (p : ℕ) → (p ≡ to + k → ⊥) → get_or now p 0 ≡ get_or mid p 0
  other p ne = get_or-set_other mid (to + k) p r 0 ne

  here : get_or now (to + k) 0 ≡ r
  here = get_or-set_same mid (to + k) r 0 fits

  before : (q : ℕ) → q < k → get_or now (to + q) 0 ≡ get_or old (to + q) 0
  before q l = other (to + q) (λ q. omega arith) ∙ g.high (to + q) (omega arith)

  few_more : more ≤ size
  few_more = few old m size more n.numbering

  key : (i : ℕ) → i < size → key_at now m size i ≡ key_at mid m size i
  key i l = other (m + size + i) (λ q. omega arith)

  below_met : (d : ℕ) → d < k → get_or old (to + d) 0 < more
  below_met d l =
      omega (
        arith,
        n.more_met,
        cells_at old to k d l,
        meets_in count (cells old to k) d (omega (arith, cells-length old to k)),
      )

  same_cells : cells now to k ≡ cells old to k
  same_cells = cells_same old now to to k before

  cells_now : cells now to (k + 1) ≡ cells old to k ++ (r ∷ [])
  cells_now = cells_more now to k ∙ ap₂ (λ l x. l ++ (x ∷ [])) same_cells here

  pub named_more : Named was now m size count met to (k + 1) slots
  named_more = record {
    numbering = rw q
        (numbering_same mid now m size (max more (suc r)) g.numbering (λ p a b. other p (λ q. omega arith)));
    fresh = subst (Fresh count) (sym cells_now)
        (fresh_more count (cells old to k) r n.fresh (omega (arith, n.more_met, g.next)));
    more_met = ap (meets count) cells_now ∙ meets_more count (cells old to k) r ∙ ap (λ x. max x (suc r)) n.more_met
        ∙ sym q;
    names = below_more (λ d. key_at now m size (get_or now (to + d) 0) ≡ slots d) k
        (λ d l. ap (key_at now m size) (before d l) ∙ key (get_or old (to + d) 0) (n.below d l)
        ∙ g.kept (get_or old (to + d) 0) (below_met d l) ∙ n.names d l)
        (ap (key_at now m size) here ∙ key r g.few ∙ g.key ∙ e);
    below = below_more (λ d. get_or now (to + d) 0 < size) k (λ d l. omega (arith, before d l, n.below d l))
        (omega (arith, here, g.few));
    kept = λ i l. let up : count ≤ more = omega (arith, meets_up count (cells old to k), n.more_met) in
        key i (omega (arith, few_more)) ∙ g.kept i (omega arith) ∙ n.kept i l;
    low = λ p l. other p (λ q. omega arith) ∙ g.low p l ∙ n.low p l;
    mid = λ p a b. other p (λ q. omega arith) ∙ g.high p a ∙ n.mid p a b;
    high = λ p a. other p (λ q. omega arith) ∙ g.high p (omega arith) ∙ n.high p (omega arith);
  }

-- A row: its values, then its beliefs
module _ {was mid now : List ℕ} {m size count more to f c : ℕ} {slots : ℕ → ℕ} where
  pub row_filled : (w : ℕ) (values : List ℕ) (slots' : ℕ → ℕ) → cells mid to f ≡ values → Below was mid to
      → Above was mid (to + w) → Named mid now m size count more (to + f) c slots
      → ((d : ℕ) → d < c → slots d ≡ slots' d)
      → m + size + size ≤ to → f + c ≤ w → count ≤ size → RowFilled was now m size count more to w f c values slots'
  row_filled w values slots' holds low high n e after wide room = record {
    holds = cells_same mid now to to f (λ q l. n.mid (to + q) (omega arith) (omega arith)) ∙ holds;
    numbering = n.numbering;
    fresh = n.fresh;
    more_met = n.more_met;
    names = λ d l. n.names d l ∙ e d l;
    kept = λ i l. n.kept i l ∙ low (m + size + i) (omega arith);
    low = λ q l. n.low q l ∙ low q (omega arith);
    mid = λ q a b. n.mid q a (omega arith) ∙ low q b;
    high = λ q a. n.high q (omega arith) ∙ high q (omega arith);
  }

-- The pass: rows below i are filled, `count` numbers are given; `of` says which member of the family a slot stands for
module _ (C : ℕ) {K : Type 0} (Real : K → Type 0) (val : K → List ℕ) (next : K → ℕ → K) (of : ℕ → K) where
  pub record Going (was now : List ℕ) (m size t w f i count : ℕ) : Type 0 where
    pub pass : Pass C Real val next (rows_at now w f C t i) (λ k. of (key_at now m size k))
    pub count_met : numbered (rows_at now w f C t i) ≡ count
    pub numbering : Numbering now m size count
    pub root : key_at now m size 0 ≡ key_at was m size 0
    pub some : 0 < count
    pub room : count ≤ size
    pub reach : i ≤ count
    pub low : Below was now m
    pub high : Above was now (t + size * w)

  pub going_start : (was : List ℕ) (m size t w f : ℕ) → Numbering was m size 1 → Real (of (key_at was m size 0))
      → Going was was m size t w f 0 1
  unfolding met
  going_start was m size t w f n r = record {
    pass = rw rows_none (pass_start C Real val next (λ k. of (key_at was m size k)) r);
    count_met = rw rows_none refl;
    numbering = n;
    root = refl;
    some = omega arith;
    room = few was m size 1 n;
    reach = omega arith;
    low = λ p l. refl;
    high = λ p l. refl;
  }

  module _ (was old now : List ℕ) (m size t w f i count more : ℕ) (values : List ℕ) (slots : ℕ → ℕ)
      (after : m + size + size ≤ t) (wide : f + C ≤ w) (g : Going was old m size t w f i count) (l : i < count)
      (r : RowFilled old now m size count more (t + i * w) w f C values slots)
      (holds : values ≡ val (of (key_at old m size i)))
      (names : (d : ℕ) → d < C → of (slots d) ≡ next (of (key_at old m size i)) d)
      (real : (d : ℕ) → d < C → Real (next (of (key_at old m size i)) d)) where
    abbrev rows : List Node
    rows = rows_at old w f C t i

    abbrev row : Node
    row = record { values = cells now (t + i * w) f; beliefs = cells now (t + i * w + f) C }

    long : length rows ≡ i
    long = rows_length old w f C t i

    rows_now : rows_at now w f C t (i + 1) ≡ rows ++ (row ∷ [])
    rows_now = rows_more now w f C t i
        ∙ ap (λ l. l ++ (row ∷ []))
        (rows_same old now w f C t t i wide (λ p h. r.mid (t + p) (omega arith) (omega arith)))

    met_now : meets (numbered rows) row.beliefs ≡ more
    met_now = ap (λ k. meets k row.beliefs) g.count_met ∙ r.more_met

    up : count ≤ more
    up = omega (arith, r.more_met, meets_up count row.beliefs)

    real_now : (k : ℕ) → k < more → Real (of (key_at now m size k))
    real_now k h =
        ⊎_elim (λ (h : k < count).
        subst (λ (x : ℕ). Real (of x)) (sym (r.kept k h)) (g.pass.real k (omega (arith, g.count_met))))
        (λ (x : (d : ℕ) × (d < length row.beliefs) × (get_or row.beliefs d 0 ≡ k)).
        let d = x.0 in
        let ld : d < C = omega (arith, x.1, cells-length now (t + i * w + f) C) in
        let e : get_or now (t + i * w + f + d) 0 ≡ k = sym (cells_at now (t + i * w + f) C d ld) ∙ x.2 in
        subst Real (sym (ap of (ap (key_at now m size) (sym e) ∙ r.names d ld) ∙ names d ld)) (real d ld))
        (named k count row.beliefs r.fresh (omega (arith, r.more_met)))

    pub going_row : Going was now m size t w f (i + 1) more
    going_row = record {
      pass = subst (λ (t : List Node). Pass C Real val next t (λ k. of (key_at now m size k))) (sym rows_now)
          (pass_row C Real val next rows row (λ k. of (key_at old m size k)) (λ k. of (key_at now m size k)) g.pass
          (λ k h. ap of (r.kept k (omega (arith, g.count_met))))
          (λ k h. real_now k (omega (arith, met_now)))
          (omega (arith, long, g.count_met))
          (r.holds ∙ holds ∙ ap (λ (k : ℕ). val (of (key_at old m size k))) (sym long))
          (cells-length now (t + i * w + f) C)
          (subst (λ (k : ℕ). Fresh k row.beliefs) (sym g.count_met) r.fresh)
          (λ d ld. ap (λ x. of (key_at now m size x)) (cells_at now (t + i * w + f) C d ld) ∙ ap of (r.names d ld)
          ∙ names d ld ∙ ap (λ (k : ℕ). next (of (key_at old m size k)) d) (sym long)));
      count_met = ap numbered rows_now ∙ pass_count C Real val next rows row ∙ met_now;
      numbering = r.numbering;
      root = r.kept 0 g.some ∙ g.root;
      some = omega (arith, up, g.some);
      room = few now m size more r.numbering;
      reach = omega (arith, up);
      low = λ p h. r.low p h ∙ g.low p h;
      high = λ p h. let x = row_in size w i (omega (arith, g.room)) in r.high p (omega arith) ∙ g.high p h;
    }

  pub going_end : (sem : K → State) → Family C Real sem val next → (was now : List ℕ) (m size t w f i count : ℕ)
      → Going was now m size t w f i count → count ≤ i
      → Ordered C (rows_at now w f C t count)
      × (meaning C (rows_at now w f C t count) 0 ≡ sem (of (key_at was m size 0)))
  going_end sem fam was now m size t w f i count g h =
      let e : i ≡ count = omega (arith, g.reach) in
      let (rows, ordered) = pass_end C Real val next (rows_at now w f C t i) (λ k. of (key_at now m size k)) g.pass
      (g.count_met ∙ sym e ∙ sym (rows_length now w f C t i)) in
      rw (sym e)
      (ordered, built fam rows 0 (omega (arith, rows_length now w f C t i, g.some)) ∙ ap (λ x. sem (of x)) g.root)
