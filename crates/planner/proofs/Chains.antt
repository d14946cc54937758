-- Chains of ids: what leaves them as they are, what an id in front of one adds, and that a table that is kept is found
-- under one id. Assumes nothing.
use Prim.Native.Nat.{ℕ, zero, suc, ◌+◌, ◌*◌, ◌%◌, ◌<◌, ◌≤◌}
use mathlib.Core.Path.{◌≡◌, refl, sym, ap, ◌∙◌, subst}
use mathlib.Core.Logic.{◌≢◌, ◌⊎◌, inl, inr, ⊎_elim, by_cases}
use mathlib.Core.List.{List}
use native.Mathlib.Decide.{ℕ_discrete, dec_le}
use native.Mathlib.Nat.{mod-lt, mul-le-mul_left}
use native.Mathlib.Omega.{arith}
use lib.ListN.{length, get_or}
use Rattle.pack.specs.Syntax.{Node}
use Rattle.pack.specs.Duties.Table.{rows_at, table_of}
use Rattle.pack.specs.declared.table.Table.{Table}
use Rattle.pack.specs.Laws.Rows.{rows_length}
use Rattle.chart.specs.Laws.Cells.{rows_same}
use Rattle.chart.specs.Laws.Sums.{sum_of, sum_same}
use Rattle.transition.specs.Duties.Stage.{scratch_at}
use Rattle.planner.specs.declared.limits.Context.{Context}
use Rattle.planner.specs.Inner.Lists.{slot_table}
use Rattle.planner.specs.Inner.Memory.{taken_at, heads_at, steps_at, links_at, tables_at, kept_at, kept_table, Inside, head_at, Behind, OnChain, Alike, HasId, Chained, Before, FoundOn, Linked}
use Rattle.planner.proofs.SameBytes.{named_bytes}

-- tables that are kept stay as they are
pub record Wider (h : Context) (was now : List ℕ) : Type 0 where
  pub taken : get_or was (taken_at h) 0 ≤ get_or now (taken_at h) 0
  pub within : tables_at h + h.block * get_or was (taken_at h) 0 ≤ scratch_at → tables_at h + h.block * get_or now (taken_at h) 0 ≤ scratch_at
  pub tables : (q : ℕ) → tables_at h ≤ q → q < tables_at h + h.block * get_or was (taken_at h) 0 → get_or now q 0 ≡ get_or was q 0

-- and so do the chains that they stand on
pub record Grown (h : Context) (was now : List ℕ) : Type 0 where
  pub wider : Wider h was now
  pub chains : Chained h was → Chained h now
  pub listed : (b n : ℕ) → b < 127 → OnChain h was (heads_at h + b) n → OnChain h now (heads_at h + b) n

module _ (h : Context) where
  abbrev w : ℕ
  w = h.fluents + h.characters

  -- the hash of the table at a block
  abbrev pub hash_at : List ℕ → ℕ → ℕ
  hash_at work n = sum_of 5 work (kept_at h n + 1) (get_or work (kept_at h n) 0 * w) % 127

  -- what is met behind an id, where the links of lower ids stay
  behind_same : (was now : List ℕ) (top : ℕ) → ((m : ℕ) → m < top → get_or now (links_at h + m) 0 ≡ get_or was (links_at h + m) 0) → (n k m : ℕ) → m < top → Behind h was n k m → Behind h now n k m
  unfolding Behind
  behind_same was now top e n zero m l x = x
  behind_same was now top e n (suc k) m l x =
      (omega (arith, e m l, x.0), subst (Behind h now n k) (sym (e m l)) (behind_same was now top e n k (get_or was (links_at h + m) 0) (omega (arith, x.0, l)) x.1))

  -- nothing is met behind 0
  pub behind_none : (work : List ℕ) (n k m : ℕ) → 0 < n → m ≡ 0 → Behind h work n k m → ⊥
  unfolding Behind
  behind_none work n zero m some e x = omega (arith, some, e, x)
  behind_none work n (suc k) m some e x = omega (arith, e, x.0)

  -- an id is met at itself, or one link further
  pub behind_here : (work : List ℕ) (n : ℕ) → Behind h work n zero n
  unfolding Behind
  behind_here work n = refl

  pub behind_more : (work : List ℕ) (n k m : ℕ) → get_or work (links_at h + m) 0 < m → Behind h work n k (get_or work (links_at h + m) 0) → Behind h work n (suc k) m
  unfolding Behind
  behind_more work n k m falls x = (falls, x)

  pub behind_on : (work : List ℕ) (n k m : ℕ) → Behind h work n k m → (m ≡ n) ⊎ ((get_or work (links_at h + m) 0 < m) × ((j : ℕ) × Behind h work n j (get_or work (links_at h + m) 0)))
  unfolding Behind
  behind_on work n zero m x = inl x
  behind_on work n (suc k) m x = inr (x.0, (k, x.1))

  -- the next one on a chain
  behind_next : (work : List ℕ) (n k m : ℕ) → get_or work (links_at h + n) 0 < n → Behind h work n k m → Behind h work (get_or work (links_at h + n) 0) (suc k) m
  unfolding Behind
  behind_next work n zero m falls x =
      let same = ap (λ (m : ℕ). get_or work (links_at h + m) 0) x in (omega (arith, same, falls, x), same)
  behind_next work n (suc k) m falls x = (x.0, behind_next work n k (get_or work (links_at h + m) 0) falls x.1)

  pub chain_next : {work : List ℕ} {at n : ℕ} → get_or work (links_at h + n) 0 < n → 0 < get_or work (links_at h + n) 0 → OnChain h work at n → OnChain h work at (get_or work (links_at h + n) 0)
  chain_next {work = work} {at = at} {n = n} falls some x = record { some = some; low = x.low; links = suc x.links; behind = behind_next work n x.links (get_or work at 0) falls x.behind }

  -- a chain stays where its head and the links of lower ids do
  pub chain_same : {was now : List ℕ} (top : ℕ) → ((m : ℕ) → m < top → get_or now (links_at h + m) 0 ≡ get_or was (links_at h + m) 0) → {at n : ℕ} → get_or now at 0 ≡ get_or was at 0 → get_or was at 0 < top → OnChain h was at n → OnChain h now at n
  chain_same {was = was} {now = now} top e {at = at} {n = n} same l x = record {
    some = x.some;
    low = omega (arith, same, x.low);
    links = x.links;
    behind = subst (Behind h now n x.links) (sym same) (behind_same was now top e n x.links (get_or was at 0) l x.behind);
  }

  pub chain_none : {work : List ℕ} {at n : ℕ} → get_or work at 0 ≡ 0 → OnChain h work at n → ⊥
  chain_none {work = work} {at = at} {n = n} e x = behind_none work n x.links (get_or work at 0) x.some e x.behind

  -- the table of an id begins no earlier than the tables
  pub kept_from : (n : ℕ) → 0 < n → tables_at h ≤ kept_at h n
  kept_from n l = let one : 1 ≤ n = omega (arith, l) in omega (arith, mul-le-mul_left h.block one)

  -- tables of the same bytes
  pub table_moved : (was now : List ℕ) (a b : ℕ) → ((i : ℕ) → i < 1 + get_or was a 0 * w → get_or now (b + i) 0 ≡ get_or was (a + i) 0) → table_of (slot_table h now b) now ≡ table_of (slot_table h was a) was
  table_moved was now a b f =
      let x : b ≡ b + 0 = omega arith in
      let y : a + 0 ≡ a = omega arith in
      let count : get_or now b 0 ≡ get_or was a 0 = ap (λ (q : ℕ). get_or now q 0) x ∙ f 0 (omega arith) ∙ ap (λ (q : ℕ). get_or was q 0) y in
      ap (λ (n : ℕ). rows_at now w h.fluents h.characters (b + 1) n) count
      ∙ rows_same was now w h.fluents h.characters (a + 1) (b + 1) (get_or was a 0) (omega arith)
      (λ q l. let x : b + 1 + q ≡ b + (1 + q) = omega arith in let y : a + (1 + q) ≡ a + 1 + q = omega arith in ap (λ (q : ℕ). get_or now q 0) x ∙ f (1 + q) (omega arith) ∙ ap (λ (q : ℕ). get_or was q 0) y)

  -- tables that are kept, where these stay
  module _ {was now : List ℕ} (g : Wider h was now) where
    kept_byte : {n : ℕ} → Inside h was n → (i : ℕ) → i < 1 + get_or was (kept_at h n) 0 * w → get_or now (kept_at h n + i) 0 ≡ get_or was (kept_at h n + i) 0
    kept_byte {n} k i l = g.tables (kept_at h n + i) (omega (arith, kept_from n k.some)) (omega (arith, k.inside, l))

    pub inside_count : {n : ℕ} → Inside h was n → get_or now (kept_at h n) 0 ≡ get_or was (kept_at h n) 0
    inside_count {n} k = g.tables (kept_at h n) (kept_from n k.some) (omega (arith, k.inside))

    pub inside_grown : {n : ℕ} → Inside h was n → Inside h now n
    inside_grown {n} k = record {
      some = k.some;
      few = omega (arith, inside_count k, k.few);
      inside = subst (λ (c : ℕ). kept_at h n + 1 + c * w ≤ tables_at h + h.block * get_or now (taken_at h) 0) (sym (inside_count k)) (omega (arith, k.inside, mul-le-mul_left h.block g.taken));
    }

    pub inside_table : {n : ℕ} → Inside h was n → table_of (kept_table h now n) now ≡ table_of (kept_table h was n) was
    inside_table {n} k = table_moved was now (kept_at h n) (kept_at h n) (kept_byte k)

    pub inside_hash : {n : ℕ} → Inside h was n → hash_at now n ≡ hash_at was n
    inside_hash {n} k =
        ap (λ (c : ℕ). sum_of 5 now (kept_at h n + 1) (c * w) % 127) (inside_count k)
        ∙ ap (λ (s : ℕ). s % 127) (sum_same 5 was now (kept_at h n + 1) (kept_at h n + 1) (get_or was (kept_at h n) 0 * w) (λ q l. let x : kept_at h n + 1 + q ≡ kept_at h n + (1 + q) = omega arith in ap (λ (q : ℕ). get_or now q 0) x ∙ kept_byte k (1 + q) (omega (arith, l)) ∙ ap (λ (q : ℕ). get_or was q 0) (sym x)))

    pub alike_grown : {t t' : Table} {n : ℕ} → t.nodes ≡ t'.nodes → table_of t' now ≡ table_of t was → Alike h was t n → Alike h now t' n
    alike_grown c e x = record { inside = inside_grown x.inside; count = inside_count x.inside ∙ x.count ∙ c; same = inside_table x.inside ∙ x.same ∙ sym e }

    -- chains whose bytes stay
    module _ (heads : (b : ℕ) → b < 127 → get_or now (heads_at h + b) 0 ≡ get_or was (heads_at h + b) 0) (links : (m : ℕ) → m < 256 → get_or now (links_at h + m) 0 ≡ get_or was (links_at h + m) 0) where
      pub chain_on : (b n : ℕ) → b < 127 → OnChain h was (heads_at h + b) n → OnChain h now (heads_at h + b) n
      chain_on b n l x = chain_same 256 links (heads b l) x.low x

      pub chain_back : (b n : ℕ) → b < 127 → OnChain h now (heads_at h + b) n → OnChain h was (heads_at h + b) n
      chain_back b n l x = chain_same 256 (λ m g. sym (links m g)) (sym (heads b l)) x.low x

      pub grown_same : Grown h was now
      grown_same = record {
        wider = g;
        listed = chain_on;
        chains = λ c. record {
          heads = λ b l. omega (arith, heads b l, c.heads b l, g.taken);
          tables = λ b n l x. let (k, e) = c.tables b n l (chain_back b n l x) in (inside_grown k, inside_hash k ∙ e);
          once = λ b m n l x y e.
              let x' = chain_back b m l x in
              let y' = chain_back b n l y in
              c.once b m n l x' y' (sym (inside_table (c.tables b m l x').0) ∙ e ∙ inside_table (c.tables b n l y').0);
        };
      }

  -- chains and tables stay
  pub grown_by : {was now : List ℕ} → get_or now (taken_at h) 0 ≡ get_or was (taken_at h) 0 → ((q : ℕ) → heads_at h ≤ q → q < steps_at h → get_or now q 0 ≡ get_or was q 0) → ((q : ℕ) → tables_at h ≤ q → get_or now q 0 ≡ get_or was q 0) → Grown h was now
  grown_by e f g =
      grown_same (record { taken = omega (arith, e); within = λ l. omega (arith, ap (λ (k : ℕ). h.block * k) e, l); tables = λ q l _. g q l })
      (λ b l. f (heads_at h + b) (omega arith) (omega (arith, l))) (λ m l. f (links_at h + m) (omega arith) (omega (arith, l)))

  -- where nothing is known no chain has an id
  pub chained_none : {now : List ℕ} → ((q : ℕ) → heads_at h ≤ q → q < steps_at h → get_or now q 0 ≡ 0) → Chained h now
  chained_none {now = now} f =
      let none : (b n : ℕ) → b < 127 → OnChain h now (heads_at h + b) n → ⊥ = λ b n l x. chain_none (f (heads_at h + b) (omega arith) (omega (arith, l))) x in
      record {
        heads = λ b l. omega (arith, f (heads_at h + b) (omega arith) (omega (arith, l)));
        tables = λ b n l x. absurd (none b n l x);
        once = λ b m n l x. absurd (none b m l x);
      }

  module _ {work : List ℕ} {t : Table} (b : Before h work t) where
    -- a table at a block has the hash of that table
    pub alike_hash : (n : ℕ) → get_or work (kept_at h n) 0 ≡ t.nodes → table_of (kept_table h work n) work ≡ table_of t work → hash_at work n ≡ sum_of 5 work t.rows (t.nodes * t.width) % 127
    alike_hash n count same =
        let wide : w ≡ t.width = ap (λ (f : ℕ). f + h.characters) b.fluents ∙ ap (λ (c : ℕ). t.fluents + c) b.characters ∙ b.wide in
        let size : get_or work (kept_at h n) 0 * w ≡ t.nodes * t.width = ap (λ (c : ℕ). c * w) count ∙ ap (λ (k : ℕ). t.nodes * k) wide in
        ap (λ (k : ℕ). sum_of 5 work (kept_at h n + 1) k % 127) size ∙ ap (λ (s : ℕ). s % 127) (sum_same 5 work work t.rows (kept_at h n + 1) (t.nodes * t.width) (λ q l. sym (named_bytes h n b count same q l)))

    abbrev mark : ℕ
    mark = sum_of 5 work t.rows (t.nodes * t.width) % 127

    mark_few : mark < 127
    mark_few = mod-lt (sum_of 5 work t.rows (t.nodes * t.width)) (omega arith)

    -- the id of a table stands on the chain of the table
    pub id_listed : {n : ℕ} → HasId h work t n → OnChain h work (heads_at h + mark) n
    id_listed {n} x = subst (λ (b : ℕ). OnChain h work (heads_at h + b) n) (alike_hash n x.count x.same) x.kept.listed

    -- there is only one
    pub id_once : Chained h work → {m n : ℕ} → HasId h work t m → HasId h work t n → m ≡ n
    id_once c {m} {n} x y = c.once mark m n mark_few (id_listed x) (id_listed y) (x.same ∙ sym y.same)

    module _ {at r : ℕ} (here : at ≡ head_at h work t.rows (t.nodes * t.width)) (f : FoundOn h work t at r) where
      pub found_id : 0 < r → HasId h work t r
      found_id z = record {
        kept = record {
          inside = (f.alike z).inside;
          listed = subst (λ (b : ℕ). OnChain h work (heads_at h + b) r) (sym (alike_hash r (f.alike z).count (f.alike z).same)) (subst (λ (a : ℕ). OnChain h work a r) here (f.listed z));
        };
        count = (f.alike z).count;
        same = (f.alike z).same;
      }

      -- it is found where it is kept
      pub found_exact : Chained h work → (n : ℕ) → HasId h work t n → r ≡ n
      found_exact c n x = by_cases (ℕ_discrete r 0)
          (λ z. absurd (f.none z n (subst (λ (a : ℕ). OnChain h work a n) (sym here) (id_listed x)) (record { inside = x.kept.inside; count = x.count; same = x.same })))
          (λ z. id_once c (found_id (omega (arith, z))) x)

  -- an id in front of a chain
  module _ {mid now : List ℕ} {at b id : ℕ} (few : b < 127) (here : at ≡ heads_at h + b) (small : id < 256) (some : 0 < id) (l : Linked h at id mid now) where
    -- all else stays
    linked_other : (q : ℕ) → q < heads_at h → get_or now q 0 ≡ get_or mid q 0
    linked_other q g = l.others q (λ z. omega (arith, z, g, here)) (λ z. omega (arith, z, g))

    pub linked_wider : Wider h mid now
    linked_wider =
        let taken = linked_other (taken_at h) (omega arith) in
        record {
          taken = omega (arith, taken);
          within = λ z. omega (arith, ap (λ (k : ℕ). h.block * k) taken, z);
          tables = λ q g _. l.others q (λ z. omega (arith, z, g, here, few)) (λ z. omega (arith, z, g, small));
        }

    links_below : (m : ℕ) → m < id → get_or now (links_at h + m) 0 ≡ get_or mid (links_at h + m) 0
    links_below m g = l.others (links_at h + m) (λ z. omega (arith, z, here, few)) (λ z. omega (arith, z, g))

    heads_other : (b' : ℕ) → b' < 127 → b' ≢ b → get_or now (heads_at h + b') 0 ≡ get_or mid (heads_at h + b') 0
    heads_other b' g n = l.others (heads_at h + b') (λ z. n (omega (arith, z, here))) (λ z. omega (arith, z, g))

    -- all chains began before it
    module _ (before : (b' : ℕ) → b' < 127 → get_or mid (heads_at h + b') 0 < id) where
      head_before : get_or mid at 0 < id
      head_before = let e = ap (λ (a : ℕ). get_or mid a 0) here in omega (arith, e, before b few)

      pub linked_on : (b' n : ℕ) → b' < 127 → OnChain h mid (heads_at h + b') n → OnChain h now (heads_at h + b') n
      linked_on b' n g x = by_cases (ℕ_discrete b' b)
          (λ e.
          let x' : OnChain h mid at n = subst (λ (a : ℕ). OnChain h mid a n) (ap (λ (b : ℕ). heads_at h + b) e ∙ sym here) x in
          let y : OnChain h now at n = record {
            some = x.some;
            low = omega (arith, l.head, small);
            links = suc x'.links;
            behind = subst (Behind h now n (suc x'.links)) (sym l.head) (behind_more now n x'.links id (omega (arith, l.link, head_before))
                (subst (Behind h now n x'.links) (sym l.link) (behind_same mid now id links_below n x'.links (get_or mid at 0) head_before x'.behind)));
          } in
          subst (λ (a : ℕ). OnChain h now a n) (here ∙ sym (ap (λ (b : ℕ). heads_at h + b) e)) y)
          (λ e. chain_same id links_below (heads_other b' g e) (before b' g) x)

      pub linked_back : (b' n : ℕ) → b' < 127 → OnChain h now (heads_at h + b') n → ((n ≡ id) × (b' ≡ b)) ⊎ OnChain h mid (heads_at h + b') n
      linked_back b' n g x = by_cases (ℕ_discrete b' b)
          (λ e.
          let back = ap (λ (b : ℕ). heads_at h + b) e ∙ sym here in
          let x' : OnChain h now at n = subst (λ (a : ℕ). OnChain h now a n) back x in
          ⊎_elim (λ z. inl (sym z ∙ l.head, e))
          (λ (falls, (k, y)).
          let next : get_or now (links_at h + get_or now at 0) 0 ≡ get_or mid at 0 = ap (λ (m : ℕ). get_or now (links_at h + m) 0) l.head ∙ l.link in
          let z : OnChain h mid at n = record {
            some = x.some;
            low = omega (arith, head_before, small);
            links = k;
            behind = behind_same now mid id (λ m g. sym (links_below m g)) n k (get_or mid at 0) head_before (subst (Behind h now n k) next y);
          } in
          inr (subst (λ (a : ℕ). OnChain h mid a n) (sym back) z))
          (behind_on now n x'.links (get_or now at 0) x'.behind))
          (λ e. inr (chain_same id (λ m g. sym (links_below m g)) (sym (heads_other b' g e)) (let same = heads_other b' g e in omega (arith, same, before b' g)) x))

      -- the table there is t, has the chain's hash, and stood on it under no other id
      module _ {t : Table} {was : List ℕ} (b₁ : Before h now t) (rows : table_of t now ≡ table_of t was) (new : Alike h now t id) (hash : sum_of 5 now t.rows (t.nodes * t.width) % 127 ≡ b) (none : (n : ℕ) → OnChain h was at n → ¬ Alike h was t n)
          (old : Chained h was) (older : (b' n : ℕ) → b' < 127 → OnChain h mid (heads_at h + b') n → OnChain h was (heads_at h + b') n × (get_or mid (kept_at h n) 0 ≡ get_or was (kept_at h n) 0) × (table_of (kept_table h mid n) mid ≡ table_of (kept_table h was n) was)) where
        -- an id of before has another table
        linked_other_table : Chained h mid → (n : ℕ) → OnChain h mid (heads_at h + b) n → table_of (kept_table h now id) now ≡ table_of (kept_table h now n) now → ⊥
        linked_other_table c n x e =
            let (on, count, table) = older b n few x in
            let same : table_of (kept_table h was n) was ≡ table_of t was = sym table ∙ sym (inside_table linked_wider (c.tables b n few x).0) ∙ sym e ∙ new.same ∙ rows in
            let nodes : get_or was (kept_at h n) 0 ≡ t.nodes = sym (rows_length was w h.fluents h.characters (kept_at h n + 1) (get_or was (kept_at h n) 0)) ∙ ap (λ (T : List Node). length T) same ∙ rows_length was t.width t.fluents t.characters t.rows t.nodes in
            none n (subst (λ (a : ℕ). OnChain h was a n) (sym here) on) (record { inside = (old.tables b n few on).0; count = nodes; same = same })

        pub linked_chained : Chained h mid → Chained h now
        linked_chained c = record {
          heads = λ b' g. by_cases (ℕ_discrete b' b)
              (λ e.
              let first : get_or now (heads_at h + b') 0 ≡ id = ap (λ (b : ℕ). get_or now (heads_at h + b) 0) e ∙ ap (λ (a : ℕ). get_or now a 0) (sym here) ∙ l.head in
              by_cases (dec_le id (get_or now (taken_at h) 0)) (λ k. omega (arith, first, k))
              (λ k. let over : get_or now (taken_at h) 0 + 1 ≤ id = omega (arith, k) in absurd (omega (arith, new.inside.inside, mul-le-mul_left h.block over, b₁.laid.room))))
              (λ e. let same = heads_other b' g e in omega (arith, same, c.heads b' g, linked_wider.taken));
          tables = λ b' n g x. ⊎_elim
              (λ (i, e). (subst (Inside h now) (sym i) new.inside, ap (hash_at now) i ∙ alike_hash b₁ id new.count new.same ∙ hash ∙ sym e))
              (λ y. let (k, e) = c.tables b' n g y in (inside_grown linked_wider k, inside_hash linked_wider k ∙ e)) (linked_back b' n g x);
          once = λ b' m n g x y e. ⊎_elim
              (λ (i, z). ⊎_elim (λ (j, _). i ∙ sym j) (λ y'. absurd (linked_other_table c n (subst (λ (b : ℕ). OnChain h mid (heads_at h + b) n) z y') (ap (λ (m : ℕ). table_of (kept_table h now m) now) (sym i) ∙ e))) (linked_back b' n g y))
              (λ x'. ⊎_elim (λ (j, z). absurd (linked_other_table c m (subst (λ (b : ℕ). OnChain h mid (heads_at h + b) m) z x') (ap (λ (m : ℕ). table_of (kept_table h now m) now) (sym j) ∙ sym e)))
              (λ y'. c.once b' m n g x' y' (sym (inside_table linked_wider (c.tables b' m g x').0) ∙ e ∙ inside_table linked_wider (c.tables b' n g y').0)) (linked_back b' n g y))
              (linked_back b' m g x);
        }

        pub linked_grown : Grown h mid now
        linked_grown = record { wider = linked_wider; chains = linked_chained; listed = linked_on }
