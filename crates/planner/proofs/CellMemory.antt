-- Cells: where they lie, that what is found in one is true, and what putting something into one leaves. Assumes nothing.
use Prim.Native.Nat.{ℕ, ◌+◌, ◌*◌, ◌-◌, ◌/◌, ◌%◌, ◌<◌, ◌≤◌}
use mathlib.Core.Path.{◌≡◌, refl, sym, ap, ◌∙◌, subst}
use mathlib.Core.Logic.{◌≢◌, ◌⊎◌, inl, inr, ⊎_elim, by_cases}
use mathlib.Core.List.{List}
use native.Mathlib.Decide.{ℕ_discrete, dec_lt}
use native.Mathlib.Nat.{div-add-mod, mod-lt, mul-le-mul_right}
use native.Mathlib.Omega.{arith}
use lib.ListN.{get_or, set}
use lib.Seq.{get_or-set_other}
use Rattle.pack.specs.Syntax.{Theory}
use Rattle.pack.specs.Duties.Table.{state_of}
use Rattle.chart.specs.Duties.Put.{PartCopied}
use Rattle.transition.specs.Duties.Stage.{scratch_at}
use Rattle.planner.specs.declared.limits.Context.{Context}
use Rattle.planner.specs.declared.entry.Key.{Key}
use Rattle.planner.specs.Inner.Lists.{slot_table}
use Rattle.planner.specs.Inner.Memory.{Laid, id_at, taken_at, heads_at, links_at, steps_at, Fact, Memory, Before, Spent, CellFact, Cells, cell_size, cell_at, Bucket, table_sum, bucket_at, rank_at, Holds, FoundIn, CellPut, CellKept, KeyPut, Recalled, Remembered}
use Rattle.planner.proofs.Chains.{table_moved, grown_same}
use Rattle.planner.proofs.TrueMemory.{fact_same, fact_none, key_same, rows_mean, stride_on, cell_same, memory_but}

module _ (h : Context) where
  abbrev w : ℕ
  w = h.fluents + h.characters

  -- a cell is small
  pub size_most : Laid h → cell_size h ≤ 248
  size_most laid = omega (arith, laid.narrow)

  -- one of a bucket's cells lies before the scratch
  pub way_in : {a : ℕ} → Bucket h a → {i : ℕ} → i < 4 → a + i * cell_size h + cell_size h ≤ scratch_at
  way_in {a} b {i} l = let few : i ≤ 3 = omega (arith, l) in omega (arith, b.room, mul-le-mul_right (cell_size h) few)

  pub way_at : {a : ℕ} (b : Bucket h a) (i : ℕ) → a + i * cell_size h ≡ cell_at h (4 * b.number + i)
  way_at b i = omega (arith, b.is)

  -- there are buckets
  some_buckets : Laid h → 0 < (scratch_at - steps_at h) / (4 * cell_size h)
  some_buckets laid =
      let size = 4 * cell_size h in
      let room = scratch_at - steps_at h in
      let n = room / size in
      let rest : room % size < size = mod-lt room (omega arith) in
      by_cases (dec_lt 0 n) (λ l. l) (λ l. let none : n ≡ 0 = omega (arith, l) in absurd (omega (arith, div-add-mod room size, rest, ap (λ (k : ℕ). size * k) none, laid.blocks, laid.room, size_most laid)))

  -- the one that a number leads to
  pub bucket_placed : Laid h → (x : ℕ) → Bucket h (steps_at h + 4 * cell_size h * (x % ((scratch_at - steps_at h) / (4 * cell_size h))))
  bucket_placed laid x =
      let size = 4 * cell_size h in
      let room = scratch_at - steps_at h in
      let n = room / size in
      let few : x % n < n = mod-lt x (some_buckets laid) in
      record { number = x % n; is = omega arith; room = omega (arith, stride_on size {i = x % n} {j = n} few, div-add-mod room size, laid.room) }

  -- by a size and a place that were worked out
  pub record Reckoned (x size tables : ℕ) : Type 0 where
    pub some : 0 < (scratch_at - tables) / size
    pub room : tables + size * (x % ((scratch_at - tables) / size)) + size ≤ scratch_at
    pub is : tables + size * (x % ((scratch_at - tables) / size)) ≡ steps_at h + 4 * cell_size h * (x % ((scratch_at - steps_at h) / (4 * cell_size h)))

  pub reckoned : Laid h → (x : ℕ) {size tables : ℕ} → size ≡ 4 * cell_size h → tables ≡ steps_at h → Reckoned x size tables
  reckoned laid x {size} {tables} e f =
      subst (λ (s : ℕ). Reckoned x s tables) (sym e) (subst (Reckoned x (4 * cell_size h)) (sym f) (record { some = some_buckets laid; room = (bucket_placed laid x).room; is = refl }))

  -- two cells lie apart
  cell_apart : {i n : ℕ} → i ≢ n → (q : ℕ) → cell_at h i ≤ q → q < cell_at h i + cell_size h → (q < cell_at h n) ⊎ (cell_at h n + cell_size h ≤ q)
  cell_apart {i} {n} e q l g = by_cases (dec_lt i n) (λ k. inl (omega (arith, g, stride_on (cell_size h) {i = i} {j = n} k))) (λ k. inr (omega (arith, l, stride_on (cell_size h) {i = n} {j = i} (omega (arith, k, e)))))

  -- what a cell of a bucket holds of a table is true of what that means
  pub held_fact : {th : Theory} {K limit slot a i : ℕ} {work : List ℕ} {k : Key} → Memory th K h limit work → Spent h work → Bucket h a → i < 4 → Holds h work slot (a + i * cell_size h) k → Fact th K (get_or work (a + i * cell_size h) 0) k (state_of (slot_table h work slot) work)
  held_fact {th} {K} {limit} {slot} {a} {i} {work} {k} m sp b l x =
      let here = way_at b i in
      let most = way_in b l in
      let f = m.cells sp (4 * b.number + i) (omega (arith, here, most)) (subst (λ (q : ℕ). 0 < get_or work q 0) here x.some) in
      let f' = subst (CellFact th K h work) (sym here) f in
      fact_same th K refl x.key (rows_mean h.characters x.same) f'.fact

  -- only one cell changes
  module _ (was now : List ℕ) (n : ℕ) (other : (q : ℕ) → (q < cell_at h n) ⊎ (cell_at h n + cell_size h ≤ q) → get_or now q 0 ≡ get_or was q 0) where
    low : (q : ℕ) → q < steps_at h → get_or now q 0 ≡ get_or was q 0
    low q l = other q (inl (omega (arith, l)))

    spent_was : Spent h now → Spent h was
    spent_was sp = record { once = omega (arith, sp.once, low (h.memory + 49) (omega arith)); none = sym (low (taken_at h) (omega arith)) ∙ sp.none }

    one-cells : {th : Theory} {K : ℕ} → (Cells th K h was → Spent h was → 0 < get_or now (cell_at h n) 0 → CellFact th K h now (cell_at h n)) → Cells th K h was → Cells th K h now
    one-cells {th} {K} new c sp i l z = by_cases (ℕ_discrete i n)
        (λ e. subst (λ (i : ℕ). CellFact th K h now (cell_at h i)) (sym e) (new c (spent_was sp) (subst (λ (i : ℕ). 0 < get_or now (cell_at h i) 0) e z)))
        (λ e.
        let same : (q : ℕ) → cell_at h i ≤ q → q < cell_at h i + cell_size h → get_or now q 0 ≡ get_or was q 0 = λ q g u. other q (cell_apart e q g u) in
        let e0 = same (cell_at h i) (omega arith) (omega arith) in
        cell_same h (cell_at h i) (λ q g u _. same q g u) (c (spent_was sp) i l (omega (arith, e0, z))))

    one_memory : {th : Theory} {K limit : ℕ} → Spent h was → limit ≤ h.memory → (Cells th K h was → Spent h was → 0 < get_or now (cell_at h n) 0 → CellFact th K h now (cell_at h n)) → Memory th K h limit was → Memory th K h limit now
    one_memory sp few new m =
        let taken = low (taken_at h) (omega arith) in
        let sp' : Spent h now = record { once = omega (arith, sp.once, low (h.memory + 49) (omega arith)); none = taken ∙ sp.none } in
        memory_but h
        (grown_same h
        (record { taken = omega (arith, taken); within = λ l. omega (arith, ap (λ (k : ℕ). h.block * k) taken, l); tables = λ q l g. absurd (omega (arith, l, g, ap (λ (k : ℕ). h.block * k) sp.none)) })
        (λ b l. low (heads_at h + b) (omega (arith, l))) (λ k l. low (links_at h + k) (omega (arith, l))))
        (λ q l. low q (omega (arith, l, few))) (λ i l. inl (low (id_at h (h.stride * i + 1)) (omega arith))) (λ i l un. absurd (un sp')) (λ i l un. absurd (un sp')) ((λ _. sp'), one-cells new) m

  module _ (was now : List ℕ) (slot mark : ℕ) (k : Key) {a i : ℕ} (sp : Spent h was) (bucket : Bucket h a) (l : i < 4) where
    abbrev n : ℕ
    n = 4 * bucket.number + i

    here : a + i * cell_size h ≡ cell_at h n
    here = way_at bucket i

    -- nothing that is asked of changes
    pub remembered_rank : ((q : ℕ) → q ≢ a + i * cell_size h + 6 → get_or now q 0 ≡ get_or was q 0) → Remembered h (slot_table h was slot) mark k was now
    remembered_rank other = record {
      only = record { low = λ q g. other q (λ e. omega (arith, e, g, here)); high = λ q g. other q (λ e. omega (arith, e, g, way_in bucket l)) };
      memory = λ th K limit few s m f. one_memory was now n (λ q x. other q (λ e. ⊎_elim (λ z. omega (arith, z, e, here)) (λ z. omega (arith, z, e, here)) x)) sp few
          (λ c sp z.
          let e0 = other (cell_at h n) (λ e. omega (arith, e, here)) in
          cell_same h (cell_at h n) (λ q _ _ u. other q (λ e. u (e ∙ ap (λ (q : ℕ). q + 6) here))) (c sp n (omega (arith, here, way_in bucket l)) (omega (arith, e0, z)))) m;
    }

    -- a table of few rows is put into the cell
    pub remembered_cell : get_or was slot 0 ≤ 6 → CellPut h slot (a + i * cell_size h) mark k was now → Remembered h (slot_table h was slot) mark k was now
    remembered_cell few put = record {
      only = record { low = λ q g. put.low q (omega (arith, g, here)); high = λ q g. put.high q (omega (arith, g, way_in bucket l)) };
      memory = λ th K limit less s m f. one_memory was now n (λ q x. ⊎_elim (λ z. put.low q (omega (arith, z, here))) (λ z. put.high q (omega (arith, z, here))) x) sp less
          (λ c sp z.
          let first : a + i * cell_size h + 7 + 0 ≡ a + i * cell_size h + 7 = omega arith in
          let none : slot + 0 ≡ slot = omega arith in
          let count : get_or now (a + i * cell_size h + 7) 0 ≡ get_or was slot 0 = ap (λ (q : ℕ). get_or now q 0) (sym first) ∙ put.part 0 (omega arith) ∙ ap (λ (q : ℕ). get_or was q 0) none in
          subst (CellFact th K h now) here
          (record { few = omega (arith, count, few); fact = fact_same th K (sym put.marked) (sym put.key) (rows_mean h.characters (sym (table_moved h was now slot (a + i * cell_size h + 7) put.part))) f })) m;
    }

  -- what is found in a bucket is true
  pub recalled_cell : {slot r : ℕ} {work : List ℕ} {k : Key} → Laid h → Spent h work → FoundIn h work slot k r → Recalled h (slot_table h work slot) k work work r
  recalled_cell {slot} {r} {work} {k} laid sp f = record {
    only = record { low = λ q l. refl; high = λ q l. refl };
    told = λ p K limit few s m. (
      m,
      by_cases (dec_lt 0 r)
          (λ l. let (i, less, x, e) = f.found l in subst (λ (r : ℕ). Fact p K r k (state_of (slot_table h work slot) work)) e (held_fact m sp (bucket_placed laid (table_sum h work slot + k.who % 8 * 37 + k.number % 32 * 5 + k.nesting % 4)) less x))
          (λ l. let none : 0 ≡ r = omega (arith, l) in subst (λ (r : ℕ). Fact p K r k (state_of (slot_table h work slot) work)) none (fact_none p K k (state_of (slot_table h work slot) work))),
    );
  }

  -- the mark and the key, the rank, and the table
  module _ (slot rank : ℕ) {was put now : List ℕ} {at mark n : ℕ} {k : Key} (b : Before h was (slot_table h was slot)) (few : get_or was slot 0 ≤ 6) (from : h.memory ≤ at) (key : KeyPut was put at mark k) (copied : PartCopied (set put (at + 6) rank) now slot (at + 7) n) (size : n ≡ 1 + get_or (set put (at + 6) rank) slot 0 * w) where
    ranked : (q : ℕ) → q ≢ at + 6 → get_or (set put (at + 6) rank) q 0 ≡ get_or put q 0
    ranked q e = get_or-set_other put (at + 6) q rank 0 e

    byte : (d : ℕ) → d < 6 → get_or now (at + d) 0 ≡ get_or put (at + d) 0
    byte d l = copied.low (at + d) (omega (arith, l)) ∙ ranked (at + d) (λ e. omega (arith, e, l))

    below : (q : ℕ) → q < at → get_or (set put (at + 6) rank) q 0 ≡ get_or was q 0
    below q l = ranked q (λ e. omega (arith, e, l)) ∙ key.low q l

    count : get_or (set put (at + 6) rank) slot 0 ≡ get_or was slot 0
    count = below slot (omega (arith, b.before, from))

    long : n ≡ 1 + get_or was slot 0 * w
    long = size ∙ ap (λ (c : ℕ). 1 + c * w) count

    pub cell_put : CellPut h slot at mark k was now
    cell_put = record {
      marked = copied.low at (omega arith) ∙ ranked at (λ e. omega (arith, e)) ∙ key.marked;
      key = key_same (byte 1 (omega arith)) (byte 2 (omega arith)) (byte 3 (omega arith)) (omega (arith, byte 4 (omega arith), byte 5 (omega arith))) ∙ key.key;
      part = λ i l. copied.part i (omega (arith, l, long)) ∙ below (slot + i) (omega (arith, l, b.before, from));
      low = λ q l. copied.low q (omega (arith, l)) ∙ below q l;
      high = λ q l. copied.high q (omega (arith, l, long, mul-le-mul_right w few)) ∙ ranked q (λ e. omega (arith, e, l)) ∙ key.high q (omega (arith, l));
    }

  -- four cells, one after the other
  pub four : (P : ℕ → Type 0) → P 0 → P 1 → P 2 → P 3 → (i : ℕ) → i < 4 → P i
  four P a b c d i l = by_cases (ℕ_discrete i 0) (λ e. subst P (sym e) a) (λ n0. by_cases (ℕ_discrete i 1) (λ e. subst P (sym e) b) (λ n1. by_cases (ℕ_discrete i 2) (λ e. subst P (sym e) c) (λ n2. subst P (let e : 3 ≡ i = omega (arith, l, n0, n1, n2) in e) d)))

  -- none of the bucket's cells is empty
  pub kept_higher : (was : List ℕ) (at : ℕ) {now : List ℕ} {slot mark a : ℕ} {k : Key} → a ≡ bucket_at h was slot k → ((i : ℕ) → i < 4 → rank_at was at ≤ rank_at was (a + i * cell_size h)) → 0 < rank_at was at → CellKept h slot mark k was now
  kept_higher was at e least some = record { stands = λ _ _ _ i l none. absurd (omega (arith, least i l, ap (λ (a : ℕ). rank_at was (a + i * cell_size h)) e, none, some)) }

  -- one is filled
  pub kept_put : {was now : List ℕ} {slot mark a j : ℕ} {k : Key} → Before h was (slot_table h was slot) → h.memory ≤ a → a ≡ bucket_at h was slot k → j < 4 → CellPut h slot (a + j * cell_size h) mark k was now → CellKept h slot mark k was now
  kept_put {was} {now} {slot} {mark} {a} {j} {k} b from e l put =
      let at = a + j * cell_size h in
      let here : at ≡ bucket_at h was slot k + j * cell_size h = ap (λ (a : ℕ). a + j * cell_size h) e in
      let slotted = table_moved h was now slot slot (λ i g. put.low (slot + i) (omega (arith, g, b.before, from))) in
      record {
        stands = λ _ _ some i few none. (
          j,
          l,
          subst (λ (q : ℕ). Holds h now slot q k) here (record { some = omega (arith, put.marked, some); key = put.key; same = table_moved h was now slot (at + 7) put.part ∙ sym slotted }),
          ap (λ (q : ℕ). get_or now q 0) (sym here) ∙ put.marked,
        );
      }
