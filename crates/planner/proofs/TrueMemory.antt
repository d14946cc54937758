-- The memory: what is read from it is true, and what is put down leaves it so. Assumes nothing.
use Prim.Native.Nat.{ℕ, ◌+◌, ◌*◌, ◌-◌, ◌/◌, ◌%◌, ◌<◌, ◌≤◌}
use mathlib.Core.Path.{◌≡◌, refl, sym, ap, ◌∙◌, subst}
use mathlib.Core.Bool.{Bool, true, false}
use mathlib.Core.Logic.{◌≢◌, ◌⊎◌, inl, inr, ⊎_elim, by_cases}
use mathlib.Core.List.{List}
use native.Mathlib.Decide.{ℕ_discrete, dec_le}
use native.Mathlib.Nat.{div-add-mod, mod-lt, mul-le-mul_left, mul-le-mul_right}
use native.Mathlib.Omega.{arith}
use lib.ListN.{length, get_or, set, length-set}
use lib.Seq.{get_or-set_same, get_or-set_other}
use Rattle.pack.specs.Syntax.{Node, Theory}
use Rattle.pack.specs.State.{State, meaning}
use Rattle.pack.specs.Reading.{pick}
use Rattle.pack.specs.Duties.Table.{rows_at, table_of, state_of}
use Rattle.pack.specs.declared.table.Table.{Table}
use Rattle.chart.specs.Chart.{Starts}
use Rattle.transition.specs.Happening.{Plays}
use Rattle.transition.specs.Duties.Stage.{scratch_at}
use Rattle.chart.specs.Duties.Put.{Cleared, PartCopied}
use Rattle.chart.specs.Laws.Sums.{sum_of, sum_same}
use Rattle.chart.specs.Laws.Cells.{rows_same, rows_most}
use Rattle.planner.specs.declared.limits.Context.{Context}
use Rattle.planner.specs.declared.entry.Key.{Key}
use Rattle.planner.specs.Inner.Lists.{slot_table}
use Rattle.std.specs.Prelude.{Option, Some, None}
use Rattle.planner.specs.Inner.Memory.{Names, Laid, id_at, taken_at, heads_at, head_at, steps_at, facts_at, links_at, tables_at, kept_at, kept_table, Behind, OnChain, Kept, Alike, HasId, StepFact, Fact, key_at, SlotEntry, StepEntry, FactEntry, Memory, slot_id, entry_at, step_at, Place, Before, InSlot, Fits, Only, Unasked, FoundOn, Linked, Placed, Stored, Interning, Identified, Storable, Spent, Roomy, CellFact, Cells, cell_at, cell_size, KeyPut, FactRead, FactKnown, Recalls, Notes, Recalled, Remembered, StepRead, StepKnown, StepPut, Noted, Slot, Again, LeftNoted}
use Rattle.planner.proofs.Chains.{Wider, Grown, kept_from, table_moved, inside_count, inside_table, inside_grown, inside_hash, alike_grown, chain_back, chain_none, grown_same, grown_by, chained_none, alike_hash, id_listed, id_once, found_id, found_exact, linked_wider, linked_grown, behind_here}

-- a mark that says nothing
pub fact_none : (th : Theory) (K : ℕ) (k : Key) (s : ℕ → State) → Fact th K 0 k s
fact_none th K k s = record { no = λ e. absurd (omega (arith, e)); yes = λ e. absurd (omega (arith, e)); none = λ e. absurd (omega (arith, e)); unexplained = λ e. absurd (omega (arith, e)); explained = λ e. absurd (omega (arith, e)) }

-- a flag that is not set
pub unset : {A : Type 0} → false ≡ true → A
unset e = let z : ◌≡◌ {A = ℕ} 0 1 = ap (λ (b : Bool). pick b 1 0) e in absurd (omega arith)

-- a flag that is
pub set_not : {A : Type 0} → true ≡ false → A
set_not e = let z : ◌≡◌ {A = ℕ} 1 0 = ap (λ (b : Bool). pick b 1 0) e in absurd (omega arith)

-- no id is kept as 0
pub unnamed : (P : ℕ → Type 0) {id : Option ℕ} → id ≡ None → P 0 → Names id P
unnamed P e x = subst (λ (id : Option ℕ). Names id P) (sym e) (tt, x)

-- one that may be copied, where it is there
pub again_kept : {h : Context} {work : List ℕ} {id : Option ℕ} {n : ℕ} → id ≡ Some n → Names id (λ id. (id < 256) × (0 < id → Kept h work id)) → (n < 256) × Kept h work n
again_kept {h} {work} is x =
    let (some, (small, kept)) = subst (λ (id : Option ℕ). Names id (λ id. (id < 256) × (0 < id → Kept h work id))) is x in
    (small, kept some)

-- keys of the same numbers
pub key_same : {w w' n n' l l' b b' : ℕ} → w ≡ w' → n ≡ n' → l ≡ l' → b ≡ b' → ◌≡◌ {A = Key} (record { who = w; nesting = n; number = l; base = b }) (record { who = w'; nesting = n'; number = l'; base = b' })
key_same e f g h = λ j. record { who = e j; nesting = f j; number = g j; base = h j }

-- six bytes put down
module _ (was : List ℕ) (a m w n l b : ℕ) (room : a + 6 ≤ length was) where
  whole : b % 256 + 256 * (b / 256) ≡ b
  whole = omega (arith, div-add-mod b 256)

-- a fact of the same mark, key and state
pub fact_same : (th : Theory) (K : ℕ) {m m' : ℕ} {k k' : Key} {s s' : ℕ → State} → m ≡ m' → k ≡ k' → s ≡ s' → Fact th K m k s → Fact th K m' k' s'
fact_same th K {m} {m'} {k} {k'} {s} {s'} e f g x = subst (λ (m : ℕ). Fact th K m k' s') e (subst (λ (k : Key). Fact th K m k s') f (subst (λ (s : ℕ → State). Fact th K m k s) g x))

-- what the rows of a table mean
pub rows_mean : (c : ℕ) {t u : List Node} → t ≡ u → meaning c t ≡ meaning c u
rows_mean c e = ap (λ (t : List Node). meaning c t) e

-- of two multiples of a stride the greater is a stride further
pub stride_on : (s : ℕ) {i j : ℕ} → i < j → s * i + s ≤ s * j
stride_on s {i} {j} l = let next : i + 1 ≤ j = omega (arith, l) in omega (arith, mul-le-mul_left s next)

-- the place that a number leads to
pub placed : (count : ℕ) → 0 < count → (first size x : ℕ) → Place count first size (first + size * (x % count))
placed count some first size x = record { number = x % count; few = mod-lt x some; is = refl }

-- so many bytes stand before the tables
pub fixed : {h : Context} → Laid h → h.tables - h.memory ≡ 436 + 9 * h.lists
fixed laid = omega (arith, laid.tabled)

-- ids, steps and facts that are forgotten
pub emptied : (h : Context) {was now : List ℕ} → Cleared was now h.memory (436 + 9 * h.lists) → (q : ℕ) → h.memory ≤ q → q < tables_at h → get_or now q 0 ≡ 0
emptied h {was} {now} x q low high = let y : q ≡ h.memory + (q - h.memory) = omega (arith, low) in ap (λ (q : ℕ). get_or now q 0) y ∙ x.clear (q - h.memory) (omega (arith, low, high))

module _ (h : Context) where
  abbrev w : ℕ
  w = h.fluents + h.characters

  -- where the id of a slot before the memory stands
  slot_place : Laid h → (i : ℕ) → h.stride * i < h.memory → id_at h (h.stride * i + 1) ≡ h.memory + (i + 1)
  slot_place laid i l =
      let few : i < 30 = by_cases (dec_le 30 i) (λ k. absurd (omega (arith, l, laid.few, mul-le-mul_left h.stride k))) (λ k. omega (arith, k)) in
      let all : h.stride * i ≡ i + 32 * (w * i) = ap (λ (s : ℕ). s * i) (sym laid.wide) ∙ omega arith in
      omega (arith, few, all)

  -- another has its id elsewhere
  slot_apart : Laid h → {i j : ℕ} → h.stride * i < h.memory → h.stride * j < h.memory → id_at h (h.stride * i + 1) ≡ id_at h (h.stride * j + 1) → i ≡ j
  slot_apart laid {i} {j} l g e = omega (arith, slot_place laid i l, slot_place laid j g, e)

  -- states of the same bytes
  pub state_moved : (was now : List ℕ) (a b : ℕ) → ((i : ℕ) → i < 1 + get_or was a 0 * w → get_or now (b + i) 0 ≡ get_or was (a + i) 0) → state_of (slot_table h now b) now 0 ≡ state_of (slot_table h was a) was 0
  state_moved was now a b f = ap (λ (T : List Node). meaning h.characters T 0) (table_moved h was now a b f)

  -- a cell whose bytes stay, but for the one of which nothing is asked
  pub cell_same : {th : Theory} {K : ℕ} {was now : List ℕ} (a : ℕ) → ((q : ℕ) → a ≤ q → q < a + cell_size h → q ≢ a + 6 → get_or now q 0 ≡ get_or was q 0) → CellFact th K h was a → CellFact th K h now a
  cell_same {th} {K} {was} {now} a f x =
      let at : (d : ℕ) → d < 8 → d ≢ 6 → get_or now (a + d) 0 ≡ get_or was (a + d) 0 = λ d l n. f (a + d) (omega arith) (omega (arith, l)) (λ e. n (omega (arith, e))) in
      let most : get_or was (a + 7) 0 * w ≤ 6 * w = mul-le-mul_right w x.few in
      let moved = table_moved h was now (a + 7) (a + 7) (λ j m. f (a + 7 + j) (omega arith) (omega (arith, m, most)) (λ e. omega (arith, e))) in
      record {
        few = omega (arith, at 7 (omega arith) (λ e. omega (arith, e)), x.few);
        fact = fact_same th K (sym (f a (omega arith) (omega arith) (λ e. omega (arith, e))))
            (key_same (sym (at 1 (omega arith) (λ e. omega (arith, e)))) (sym (at 2 (omega arith) (λ e. omega (arith, e)))) (sym (at 3 (omega arith) (λ e. omega (arith, e)))) (omega (arith, at 4 (omega arith) (λ e. omega (arith, e)), at 5 (omega arith) (λ e. omega (arith, e)))))
            (rows_mean h.characters (sym moved)) x.fact;
      }

  -- all of them, and that there are cells
  pub cells_same : {th : Theory} {K : ℕ} {was now : List ℕ} → get_or now (h.memory + 49) 0 ≡ get_or was (h.memory + 49) 0 → get_or now (taken_at h) 0 ≡ get_or was (taken_at h) 0 → ((q : ℕ) → steps_at h ≤ q → q < scratch_at → get_or now q 0 ≡ get_or was q 0) → (Spent h was → Spent h now) × (Cells th K h was → Cells th K h now)
  cells_same once taken f = (
    λ sp. record { once = omega (arith, once, sp.once); none = taken ∙ sp.none },
    λ c sp i l z.
        let e0 = f (cell_at h i) (omega arith) (omega (arith, l)) in
        cell_same (cell_at h i) (λ q g u _. f q (omega (arith, g)) (omega (arith, u, l))) (c (record { once = omega (arith, once, sp.once); none = sym taken ∙ sp.none }) i l (omega (arith, e0, z))),
  )

  -- where a table is kept there are none
  pub unspent : {work : List ℕ} {t : Table} {n : ℕ} → HasId h work t n → Spent h work → ⊥
  unspent {n = n} x sp = omega (arith, x.kept.inside.inside, kept_from h n x.kept.inside.some, ap (λ (k : ℕ). h.block * k) sp.none)

  pub cells_unspent : {th : Theory} {K : ℕ} {was now : List ℕ} {t : Table} {n : ℕ} → get_or now (h.memory + 49) 0 ≡ get_or was (h.memory + 49) 0 → get_or now (taken_at h) 0 ≡ get_or was (taken_at h) 0 → HasId h was t n → (Spent h was → Spent h now) × (Cells th K h was → Cells th K h now)
  cells_unspent once taken x = (λ sp. absurd (unspent x sp), λ _ sp. absurd (unspent x (record { once = omega (arith, once, sp.once); none = sym taken ∙ sp.none })))

  -- a table in a slot, as one of its fields
  pub slot_table_lem : {work : List ℕ} {t : Table} {limit : ℕ} → Before h work t → (x : InSlot h work t limit) → table_of (slot_table h work (h.stride * x.number)) work ≡ table_of t work
  slot_table_lem {work} {t} b x =
      let wide : w ≡ t.width = ap (λ (f : ℕ). f + h.characters) b.fluents ∙ ap (λ (c : ℕ). t.fluents + c) b.characters ∙ b.wide in
      ap (λ (n : ℕ). rows_at work w h.fluents h.characters (h.stride * x.number + 1) n) x.counted
      ∙ ap (λ (a : ℕ). rows_at work w h.fluents h.characters a t.nodes) (sym x.rows)
      ∙ ap (λ (f : ℕ). rows_at work w f h.characters t.rows t.nodes) b.fluents
      ∙ ap (λ (c : ℕ). rows_at work w t.fluents c t.rows t.nodes) b.characters
      ∙ ap (λ (k : ℕ). rows_at work k t.fluents t.characters t.rows t.nodes) wide

  -- a table before the memory stays where only the memory changes
  pub before_same : {was : List ℕ} (now : List ℕ) {t : Table} → Before h was t → ((q : ℕ) → q < h.memory → get_or now q 0 ≡ get_or was q 0) → table_of t now ≡ table_of t was
  before_same {was} now {t} b low = rows_same was now t.width t.fluents t.characters t.rows t.rows t.nodes (omega (arith, b.wide)) (λ q l. low (t.rows + q) (omega (arith, b.before, l)))

  module _ {was now : List ℕ} (g : Grown h was now) where
    kept_count : {n : ℕ} → Kept h was n → get_or now (kept_at h n) 0 ≡ get_or was (kept_at h n) 0
    kept_count k = inside_count h g.wider k.inside

    pub kept_table_lem : {n : ℕ} → Kept h was n → table_of (kept_table h now n) now ≡ table_of (kept_table h was n) was
    kept_table_lem k = inside_table h g.wider k.inside

    pub kept_grown : {n : ℕ} → Kept h was n → Kept h now n
    kept_grown {n} k =
        let e = inside_hash h g.wider k.inside in
        let few : sum_of 5 was (kept_at h n + 1) (get_or was (kept_at h n) 0 * w) % 127 < 127 = mod-lt (sum_of 5 was (kept_at h n + 1) (get_or was (kept_at h n) 0 * w)) (omega arith) in
        record {
          inside = inside_grown h g.wider k.inside;
          listed = subst (λ (b : ℕ). OnChain h now (heads_at h + b) n) (sym e) (g.listed (sum_of 5 was (kept_at h n + 1) (get_or was (kept_at h n) 0 * w) % 127) n few k.listed);
        }

    pub named_grown : {t t' : Table} {n : ℕ} → t.nodes ≡ t'.nodes → table_of t' now ≡ table_of t was → HasId h was t n → HasId h now t' n
    named_grown c e x = record { kept = kept_grown x.kept; count = kept_count x.kept ∙ x.count ∙ c; same = kept_table_lem x.kept ∙ x.same ∙ sym e }

    step_grown : {th : Theory} {n root a next : ℕ} → StepFact th h was n root a next → StepFact th h now n root a next
    step_grown {th} {n} {root} {a} {next} f = record {
      kept = kept_grown f.kept;
      none = λ z s plays. f.none z s (subst (λ (U : List Node). Plays th (meaning h.characters U root) a s) (kept_table_lem f.kept) plays);
      left = λ z. let (k, (s, plays, starts)) = f.left z in (
        kept_grown k,
        (s, subst (λ (U : List Node). Plays th (meaning h.characters U root) a s) (sym (kept_table_lem f.kept)) plays, subst (Starts h.characters s) (sym (kept_table_lem k)) starts),
      );
    }

    -- entries whose bytes stay
    slot_entry : {limit : ℕ} → Laid h → ((q : ℕ) → q < limit → get_or now q 0 ≡ get_or was q 0) → (i : ℕ) → h.stride * i + h.stride ≤ limit → get_or now (id_at h (h.stride * i + 1)) 0 ≡ get_or was (id_at h (h.stride * i + 1)) 0 → SlotEntry h was i → SlotEntry h now i
    slot_entry laid low i l e f z =
        let x = f (omega (arith, e, z)) in
        let most : get_or was (kept_at h (get_or was (id_at h (h.stride * i + 1)) 0)) 0 * w ≤ 32 * w = mul-le-mul_right w x.kept.inside.few in
        let size : 1 + get_or was (h.stride * i) 0 * w ≤ h.stride = omega (arith, most, laid.wide, ap (λ (n : ℕ). n * w) x.count) in
        subst (HasId h now (slot_table h now (h.stride * i))) (sym e) (named_grown (sym (low (h.stride * i) (omega (arith, l)))) (table_moved h was now (h.stride * i) (h.stride * i) (λ j m. low (h.stride * i + j) (omega (arith, l, m, size)))) x)

    step_entry : {th : Theory} (a : ℕ) → ((q : ℕ) → a ≤ q → q < a + 4 → get_or now q 0 ≡ get_or was q 0) → StepEntry th h was a → StepEntry th h now a
    step_entry {th} a e f z =
        let e0 = e a (omega arith) (omega arith) in
        let x = step_grown (f (omega (arith, e0, z))) in
        subst (λ (k : ℕ). StepFact th h now k (get_or now (a + 1) 0) (get_or now (a + 2) 0) (get_or now (a + 3) 0)) (sym e0)
        (subst (λ (k : ℕ). StepFact th h now (get_or was a 0) k (get_or now (a + 2) 0) (get_or now (a + 3) 0)) (sym (e (a + 1) (omega arith) (omega arith)))
        (subst (λ (k : ℕ). StepFact th h now (get_or was a 0) (get_or was (a + 1) 0) k (get_or now (a + 3) 0)) (sym (e (a + 2) (omega arith) (omega arith)))
        (subst (λ (k : ℕ). StepFact th h now (get_or was a 0) (get_or was (a + 1) 0) (get_or was (a + 2) 0) k) (sym (e (a + 3) (omega arith) (omega arith))) x)))

    fact_entry : {th : Theory} {K : ℕ} (a : ℕ) → ((q : ℕ) → a ≤ q → q < a + 7 → get_or now q 0 ≡ get_or was q 0) → FactEntry th K h was a → FactEntry th K h now a
    fact_entry {th} {K} a e f z =
        let e6 = e (a + 6) (omega arith) (omega arith) in
        let (k, x) = f (omega (arith, e6, z)) in
        subst (λ (n : ℕ). Kept h now n × Fact th K (get_or now a 0) (key_at now a) (state_of (kept_table h now n) now)) (sym e6) (
          kept_grown k,
          fact_same th K (sym (e a (omega arith) (omega arith)))
              (key_same (sym (e (a + 1) (omega arith) (omega arith))) (sym (e (a + 2) (omega arith) (omega arith))) (sym (e (a + 3) (omega arith) (omega arith))) (omega (arith, e (a + 4) (omega arith) (omega arith), e (a + 5) (omega arith) (omega arith))))
              (rows_mean h.characters (sym (kept_table_lem k))) x,
        )

    -- the memory where tables that are kept and all but some entries stay
    pub memory_but : {th : Theory} {K limit : ℕ} → ((q : ℕ) → q < limit → get_or now q 0 ≡ get_or was q 0)
        → ((i : ℕ) → h.stride * i + h.stride ≤ limit → (get_or now (id_at h (h.stride * i + 1)) 0 ≡ get_or was (id_at h (h.stride * i + 1)) 0) ⊎ SlotEntry h now i)
        → ((i : ℕ) → i < h.lists / 2 → ¬ Spent h now → ((q : ℕ) → steps_at h + 4 * i ≤ q → q < steps_at h + 4 * i + 4 → get_or now q 0 ≡ get_or was q 0) ⊎ StepEntry th h now (steps_at h + 4 * i))
        → ((i : ℕ) → i < h.lists → ¬ Spent h now → ((q : ℕ) → facts_at h + 7 * i ≤ q → q < facts_at h + 7 * i + 7 → get_or now q 0 ≡ get_or was q 0) ⊎ FactEntry th K h now (facts_at h + 7 * i)) → (Spent h was → Spent h now) × (Cells th K h was → Cells th K h now) → Memory th K h limit was → Memory th K h limit now
    memory_but low a b c d m = record {
      laid = m.laid;
      within = g.wider.within m.within;
      chains = g.chains m.chains;
      slots = λ i l. ⊎_elim (λ e. slot_entry m.laid low i l e (m.slots i l)) (λ x. x) (a i l);
      steps = λ un i l. ⊎_elim (λ e. step_entry (steps_at h + 4 * i) e (m.steps (λ sp. un (d.0 sp)) i l)) (λ x. x) (b i l un);
      facts = λ un i l. ⊎_elim (λ e. fact_entry (facts_at h + 7 * i) e (m.facts (λ sp. un (d.0 sp)) i l)) (λ x. x) (c i l un);
      cells = d.1 m.cells;
    }

    -- entries all stay
    pub memory_quiet : {th : Theory} {K limit : ℕ} → ((q : ℕ) → q < limit → get_or now q 0 ≡ get_or was q 0) → ((q : ℕ) → h.memory ≤ q → q < taken_at h → get_or now q 0 ≡ get_or was q 0) → ((q : ℕ) → steps_at h ≤ q → q < tables_at h → get_or now q 0 ≡ get_or was q 0) → (Spent h was → Spent h now) × (Cells th K h was → Cells th K h now) → Memory th K h limit was → Memory th K h limit now
    memory_quiet low ids mid = memory_but low (λ i l. inl (ids (id_at h (h.stride * i + 1)) (omega arith) (omega arith))) (λ i l _. inl (λ q a b. mid q (omega (arith, a)) (omega (arith, b, l)))) (λ i l _. inl (λ q a b. mid q (omega (arith, a)) (omega (arith, b, l))))

  -- only slots and the scratch change
  pub memory_apart : {th : Theory} {K limit : ℕ} {was now : List ℕ} → ((q : ℕ) → q < limit → get_or now q 0 ≡ get_or was q 0) → ((q : ℕ) → h.memory ≤ q → q < scratch_at → get_or now q 0 ≡ get_or was q 0) → Memory th K h limit was → Memory th K h limit now
  memory_apart low mid m =
      let room = m.laid.room in
      let taken = mid (taken_at h) (omega arith) (omega (arith, room)) in
      memory_quiet
      (grown_same h
      (record { taken = omega (arith, taken); within = λ l. omega (arith, ap (λ (k : ℕ). h.block * k) taken, l); tables = λ q l g. mid q (omega (arith, l)) (omega (arith, g, m.within)) })
      (λ b l. mid (heads_at h + b) (omega arith) (omega (arith, l, room))) (λ n l. mid (links_at h + n) (omega arith) (omega (arith, l, room))))
      low (λ q l g. mid q l (omega (arith, g, room))) (λ q l g. mid q (omega (arith, l)) (omega (arith, g, room)))
      (cells_same (mid (h.memory + 49) (omega arith) (omega (arith, room))) taken (λ q l g. mid q (omega (arith, l)) g)) m

  -- nothing is known
  memory_none : {th : Theory} {K limit : ℕ} {now : List ℕ} → Laid h → ((q : ℕ) → h.memory ≤ q → q < tables_at h → q ≢ h.memory + 49 → get_or now q 0 ≡ 0) → Cells th K h now → Memory th K h limit now
  memory_none laid f c = record {
    laid = laid;
    within = omega (arith, ap (λ (k : ℕ). h.block * k) (f (taken_at h) (omega arith) (omega arith) (λ e. omega (arith, e))), laid.room);
    chains = chained_none h (λ q l g. f q (omega (arith, l)) (omega (arith, g)) (λ e. omega (arith, e, l)));
    slots = λ i l z. absurd (omega (arith, z, f (id_at h (h.stride * i + 1)) (omega arith) (omega arith) (λ e. omega (arith, e))));
    steps = λ _ i l z. absurd (omega (arith, z, f (steps_at h + 4 * i) (omega arith) (omega (arith, l)) (λ e. omega (arith, e))));
    facts = λ _ i l z. absurd (omega (arith, z, f (facts_at h + 7 * i + 6) (omega arith) (omega (arith, l)) (λ e. omega (arith, e))));
    cells = c;
  }

  pub memory_clear : {th : Theory} {K limit : ℕ} {now : List ℕ} → Laid h → ((q : ℕ) → h.memory ≤ q → q < tables_at h → get_or now q 0 ≡ 0) → Memory th K h limit now
  memory_clear laid f = memory_none laid (λ q l g _. f q l g) (λ sp. absurd (omega (arith, sp.once, f (h.memory + 49) (omega arith) (omega arith))))

  -- and there are cells in the place of the tables, all empty
  memory_wiped : {th : Theory} {K limit : ℕ} {now : List ℕ} → Laid h → ((q : ℕ) → h.memory ≤ q → q < scratch_at → q ≢ h.memory + 49 → get_or now q 0 ≡ 0) → Memory th K h limit now
  memory_wiped laid f = memory_none laid (λ q l g n. f q l (omega (arith, g, laid.room)) n) (λ sp i l z. absurd (omega (arith, z, f (cell_at h i) (omega arith) (omega (arith, l)) (λ e. omega (arith, e)))))

  -- only what nothing is asked of changes
  pub memory_unasked : {th : Theory} {K limit : ℕ} {was now : List ℕ} → Unasked h was now → limit ≤ h.memory → Memory th K h limit was → Memory th K h limit now
  memory_unasked u few m = memory_quiet (grown_by h (u.low (taken_at h) (omega arith)) (λ q l _. u.high q l) (λ q l. u.high q (omega (arith, l)))) (λ q l. u.low q (omega (arith, l, few))) (λ q _ l. u.low q (omega (arith, l))) (λ q l _. u.high q (omega (arith, l)))
      (cells_same (u.low (h.memory + 49) (omega arith)) (u.low (taken_at h) (omega arith)) (λ q l _. u.high q (omega (arith, l)))) m

  pub unasked_only : {was now : List ℕ} → Laid h → Unasked h was now → Only h was now
  unasked_only laid u = record { low = λ q l. u.low q (omega (arith, l)); high = λ q l. u.high q (omega (arith, l, laid.room)) }

  -- fewer slots
  pub memory_fewer : {th : Theory} {K limit limit' : ℕ} {now : List ℕ} → limit' ≤ limit → Memory th K h limit now → Memory th K h limit' now
  memory_fewer l m = record { laid = m.laid; within = m.within; chains = m.chains; slots = λ i g. m.slots i (omega (arith, l, g)); steps = m.steps; facts = m.facts; cells = m.cells }

  module _ {t : Table} where
    -- a table with the count and the bytes of the one that is kept
    pub kept_as : {now : List ℕ} → Before h now t → (n : ℕ) → 0 < n → h.block * n + t.nodes * t.width < h.block * get_or now (taken_at h) 0 + h.block → get_or now (kept_at h n) 0 ≡ t.nodes
        → ((q : ℕ) → q < t.nodes * t.width → get_or now (kept_at h n + 1 + q) 0 ≡ get_or now (t.rows + q) 0) → Alike h now t n
    kept_as {now} b n some inside count same =
        let wide : w ≡ t.width = ap (λ (f : ℕ). f + h.characters) b.fluents ∙ ap (λ (c : ℕ). t.fluents + c) b.characters ∙ b.wide in
        let size : get_or now (kept_at h n) 0 * w ≡ t.nodes * t.width = ap (λ (c : ℕ). c * w) count ∙ ap (λ (k : ℕ). t.nodes * k) wide in
        record {
          inside = record { some = some; few = omega (arith, count, b.few); inside = omega (arith, size, inside, b.laid.room) };
          count = count;
          same = ap (λ (c : ℕ). rows_at now w h.fluents h.characters (kept_at h n + 1) c) count ∙ ap (λ (f : ℕ). rows_at now w f h.characters (kept_at h n + 1) t.nodes) b.fluents ∙ ap (λ (c : ℕ). rows_at now w t.fluents c (kept_at h n + 1) t.nodes) b.characters
              ∙ ap (λ (k : ℕ). rows_at now k t.fluents t.characters (kept_at h n + 1) t.nodes) wide ∙ rows_same now now t.width t.fluents t.characters t.rows (kept_at h n + 1) t.nodes (omega (arith, b.wide)) same;
        }

    pub table_size : {work : List ℕ} → Before h work t → t.nodes * t.width ≤ 960
    table_size b = omega (arith, rows_most b.few b.narrow)

    pub before_now : {was now : List ℕ} → length now ≡ length was → Before h was t → Before h now t
    before_now long b = record { laid = b.laid; fluents = b.fluents; characters = b.characters; wide = b.wide; narrow = b.narrow; few = b.few; before = b.before; room = omega (arith, long, b.room) }

    -- an id that is found
    pub stored_found : {was : List ℕ} {at r : ℕ} → Before h was t → at ≡ head_at h was t.rows (t.nodes * t.width) → FoundOn h was t at r → Stored h t was was r
    stored_found b here f = record { small = f.small; named = found_id h b here f; exact = found_exact h b here f; only = record { low = λ q l. refl; high = λ q l. refl }; memory = λ p K limit few m. m }

    pub placed_none : {was : List ℕ} → Placed h t was was 0
    placed_none = record {
      small = omega arith;
      alike = λ z. absurd (omega (arith, z));
      only = record { low = λ q l. refl; high = λ q l. refl };
      memory = λ p K limit few m. m;
      before = λ z. absurd (omega (arith, z));
      older = λ c b n l x. (x, refl, refl);
    }

    -- a table that is put behind those that are kept
    module _ {was mid : List ℕ} {taken v : ℕ} (b : Before h was t) (e : get_or was (taken_at h) 0 ≡ taken) (fits : v ≤ 255) (copied : PartCopied (set was (tables_at h + h.block * taken) t.nodes) mid t.rows (tables_at h + h.block * taken + 1) (t.nodes * t.width)) (is : v ≡ taken + (t.nodes * t.width / h.block + 1)) where
      abbrev first : List ℕ
      first = set was (tables_at h + h.block * taken) t.nodes

      abbrev last : List ℕ
      last = set mid (taken_at h) v

      -- the blocks that are taken then hold it, and lie before the scratch
      taken_then : h.block * v ≡ h.block * taken + h.block * (t.nodes * t.width / h.block) + h.block
      taken_then = let all = ap (λ (k : ℕ). h.block * k) is in omega (arith, all)

      new_end : h.block * taken + t.nodes * t.width < h.block * v
      new_end =
          let all = div-add-mod (t.nodes * t.width) h.block in
          let rest : t.nodes * t.width % h.block < h.block = mod-lt (t.nodes * t.width) (omega (arith, b.laid.blocks)) in
          omega (arith, all, rest, taken_then)

      new_room : tables_at h + h.block * v ≤ scratch_at
      new_room = omega (arith, mul-le-mul_left h.block fits, b.laid.room)

      below : (q : ℕ) → q ≢ taken_at h → q < tables_at h + h.block * taken → get_or last q 0 ≡ get_or was q 0
      below q n l = get_or-set_other mid (taken_at h) q v 0 n ∙ copied.low q (omega (arith, l)) ∙ get_or-set_other was (tables_at h + h.block * taken) q t.nodes 0 (λ z. omega (arith, z, l))

      above : (q : ℕ) → tables_at h + h.block * taken + 1 + t.nodes * t.width ≤ q → get_or last q 0 ≡ get_or was q 0
      above q l = get_or-set_other mid (taken_at h) q v 0 (λ z. omega (arith, z, l)) ∙ copied.high q (omega (arith, l)) ∙ get_or-set_other was (tables_at h + h.block * taken) q t.nodes 0 (λ z. omega (arith, z, l))

      module _ (long : length mid ≡ length was) where
        pub new_taken : get_or last (taken_at h) 0 ≡ v
        new_taken = get_or-set_same mid (taken_at h) v 0 (omega (arith, long, b.room))

        new_count : get_or last (kept_at h (taken + 1)) 0 ≡ t.nodes
        new_count =
            let x : kept_at h (taken + 1) ≡ tables_at h + h.block * taken = omega (arith, b.laid.room) in
            ap (λ (q : ℕ). get_or last q 0) x ∙ get_or-set_other mid (taken_at h) (tables_at h + h.block * taken) v 0 (λ z. omega (arith, z)) ∙ copied.low (tables_at h + h.block * taken) (omega arith) ∙ get_or-set_same was (tables_at h + h.block * taken) t.nodes 0 (omega (arith, new_end, new_room, b.room))

        new_byte : (q : ℕ) → q < t.nodes * t.width → get_or last (kept_at h (taken + 1) + 1 + q) 0 ≡ get_or last (t.rows + q) 0
        new_byte q l =
            let x : kept_at h (taken + 1) + 1 + q ≡ tables_at h + h.block * taken + 1 + q = omega (arith, b.laid.room) in
            ap (λ (q : ℕ). get_or last q 0) x ∙ get_or-set_other mid (taken_at h) (tables_at h + h.block * taken + 1 + q) v 0 (λ z. omega (arith, z)) ∙ copied.part q l ∙ get_or-set_other was (tables_at h + h.block * taken) (t.rows + q) t.nodes 0 (λ z. omega (arith, z, l, b.before)) ∙ sym (below (t.rows + q) (λ z. omega (arith, z, l, b.before)) (omega (arith, l, b.before)))

        new_wider : Wider h was last
        new_wider = record { taken = omega (arith, new_taken, is, e); within = λ l. omega (arith, ap (λ (k : ℕ). h.block * k) new_taken, new_room); tables = λ q low high. below q (λ z. omega (arith, z, low)) (omega (arith, high, ap (λ (k : ℕ). h.block * k) e)) }

        new_heads : (b : ℕ) → b < 127 → get_or last (heads_at h + b) 0 ≡ get_or was (heads_at h + b) 0
        new_heads b l = below (heads_at h + b) (λ z. omega (arith, z)) (omega (arith, l))

        new_links : (m : ℕ) → m < 256 → get_or last (links_at h + m) 0 ≡ get_or was (links_at h + m) 0
        new_links m l = below (links_at h + m) (λ z. omega (arith, z)) (omega (arith, l))

        pub placed_new : ¬ Spent h was → Placed h t was last (taken + 1)
        placed_new un = record {
          small = omega (arith, fits, is);
          alike = λ z. kept_as (before_now (length-set mid (taken_at h) v ∙ long) b) (taken + 1) (omega arith) (omega (arith, ap (λ (k : ℕ). h.block * k) new_taken, new_end)) new_count new_byte;
          only = record { low = λ q l. below q (λ z. omega (arith, z, l)) (omega (arith, l)); high = λ q l. above q (omega (arith, l, new_end, new_room)) };
          memory = λ p K limit few m. memory_quiet (grown_same h new_wider new_heads new_links) (λ q l. below q (λ z. omega (arith, z, l, few)) (omega (arith, l, few))) (λ q low high. below q (λ z. omega (arith, z, high)) (omega (arith, high))) (λ q low high. below q (λ z. omega (arith, z, low)) (omega (arith, high))) ((λ sp. absurd (un sp)), λ _ sp. absurd (omega (arith, sp.none, new_taken, is))) m;
          before = λ z c b l. let same = new_heads b l in omega (arith, same, c.heads b l, e);
          older = λ c b n l x.
              let on = chain_back h new_wider new_heads new_links b n l x in
              let k = (c.tables b n l on).0 in
              (on, inside_count h new_wider k, inside_table h new_wider k);
        }

    -- all is forgotten
    pub placed_wiped : {was mid cleared : List ℕ} → Laid h → Only h was mid → Cleared mid cleared h.memory (scratch_at - h.memory) → Placed h t was (set cleared (h.memory + 49) 1) 0
    placed_wiped {was} {mid} {cleared} laid o c =
        let other : (q : ℕ) → q ≢ h.memory + 49 → get_or (set cleared (h.memory + 49) 1) q 0 ≡ get_or cleared q 0 = λ q n. get_or-set_other cleared (h.memory + 49) q 1 0 n in
        let zero : (q : ℕ) → h.memory ≤ q → q < scratch_at → q ≢ h.memory + 49 → get_or (set cleared (h.memory + 49) 1) q 0 ≡ 0 = λ q l g n.
        let y : q ≡ h.memory + (q - h.memory) = omega (arith, l) in
        other q n ∙ ap (λ (q : ℕ). get_or cleared q 0) y ∙ c.clear (q - h.memory) (omega (arith, l, g)) in
        record {
          small = omega arith;
          alike = λ z. absurd (omega (arith, z));
          only = record { low = λ q l. other q (λ z. omega (arith, z, l)) ∙ c.low q l ∙ o.low q l; high = λ q l. other q (λ z. omega (arith, z, l, laid.room)) ∙ c.high q (omega (arith, l, laid.room)) ∙ o.high q l };
          memory = λ p K limit few m. memory_wiped laid zero;
          before = λ z. absurd (omega (arith, z));
          older = λ _ b n l y. absurd (chain_none h (zero (heads_at h + b) (omega arith) (omega (arith, l, laid.room)) (λ z. omega (arith, z))) y);
        }

    -- there is no room for it, and it is kept nowhere
    pub stored_none : {was mid : List ℕ} {at : ℕ} → Before h was t → at ≡ head_at h was t.rows (t.nodes * t.width) → FoundOn h was t at 0 → Placed h t was mid 0 → Stored h t was mid 0
    stored_none b here f x = record { small = x.small; named = λ z. absurd (omega (arith, z)); exact = found_exact h b here f; only = x.only; memory = x.memory }

    -- a table that is kept from now on, its id in front of its chain
    module _ {was mid now : List ℕ} {at r : ℕ} (b : Before h was t) (long : length mid ≡ length was) (long' : length now ≡ length mid) (here : at ≡ head_at h was t.rows (t.nodes * t.width)) (f : FoundOn h was t at 0) (some : 0 < r) (x : Placed h t was mid r) (l : Linked h at r mid now) where
      abbrev mark : ℕ
      mark = sum_of 5 was t.rows (t.nodes * t.width) % 127

      mark_few : mark < 127
      mark_few = mod-lt (sum_of 5 was t.rows (t.nodes * t.width)) (omega arith)

      linked_low : (q : ℕ) → q < heads_at h → get_or now q 0 ≡ get_or mid q 0
      linked_low q g = l.others q (λ z. omega (arith, z, g, here)) (λ z. omega (arith, z, g))

      linked_high : (q : ℕ) → tables_at h ≤ q → get_or now q 0 ≡ get_or mid q 0
      linked_high q g = l.others q (λ z. omega (arith, z, g, here, mark_few)) (λ z. omega (arith, z, g, x.small))

      rows_mid : table_of t mid ≡ table_of t was
      rows_mid = before_same mid b (λ q g. x.only.low q g)

      rows_now : table_of t now ≡ table_of t mid
      rows_now = before_same now (before_now long b) (λ q g. linked_low q (omega (arith, g)))

      new_alike : Alike h now t r
      new_alike = alike_grown h (linked_wider h mark_few here x.small some l) refl rows_now (x.alike some)

      before₁ : Before h now t
      before₁ = before_now (long' ∙ long) b

      hash_now : sum_of 5 now t.rows (t.nodes * t.width) % 127 ≡ mark
      hash_now = ap (λ (s : ℕ). s % 127) (sum_same 5 was now t.rows t.rows (t.nodes * t.width) (λ q g. linked_low (t.rows + q) (omega (arith, g, b.before)) ∙ x.only.low (t.rows + q) (omega (arith, g, b.before))))

      pub stored_linked : Stored h t was now r
      stored_linked = record {
        small = x.small;
        named = λ _. record {
          kept = record {
            inside = new_alike.inside;
            listed = subst (λ (a : ℕ). OnChain h now a r) (here ∙ ap (λ (b : ℕ). heads_at h + b) (sym hash_now ∙ sym (alike_hash h before₁ r new_alike.count new_alike.same)))
                (record { some = some; low = omega (arith, l.head, x.small); links = 0; behind = subst (Behind h now r 0) (sym l.head) (behind_here h now r) });
          };
          count = new_alike.count;
          same = new_alike.same;
        };
        exact = λ c n y. absurd (f.none refl n (subst (λ (a : ℕ). OnChain h was a n) (sym here) (id_listed h b y)) (record { inside = y.kept.inside; count = y.count; same = y.same }));
        only = record { low = λ q g. linked_low q (omega (arith, g)) ∙ x.only.low q g; high = λ q g. linked_high q (omega (arith, g, b.laid.room)) ∙ x.only.high q g };
        memory = λ p K limit few m.
            let grown = linked_grown h mark_few here x.small some l (x.before some m.chains) before₁ (rows_now ∙ rows_mid) new_alike hash_now (f.none refl) m.chains (x.older m.chains) in
            memory_quiet grown (λ q g. linked_low q (omega (arith, g, few))) (λ q _ g. linked_low q (omega (arith, g))) (λ q g u. l.others q (λ z. omega (arith, z, g, here, mark_few)) (λ z. omega (arith, z, u)))
            (cells_same (linked_low (h.memory + 49) (omega arith)) (linked_low (taken_at h) (omega arith)) (λ q g _. l.others q (λ z. omega (arith, z, g, here, mark_few)) (λ z. omega (arith, z, g, x.small)))) (x.memory p K limit few m);
      }

    -- where the id of a table in a slot stands
    slot_id_at : {work : List ℕ} {limit : ℕ} → (x : InSlot h work t limit) → id_at h t.rows ≡ id_at h (h.stride * x.number + 1)
    slot_id_at x = ap (id_at h) x.rows

    -- a table that is known by its slot
    pub slot_named : {was : List ℕ} {p : Theory} {K limit r : ℕ} → Before h was t → slot_id h was t ≡ r → InSlot h was t limit → Memory p K h limit was → 0 < r → HasId h was t r
    slot_named {was} {r = r} b e x m z =
        let e' : get_or was (id_at h (h.stride * x.number + 1)) 0 ≡ r = ap (λ (q : ℕ). get_or was q 0) (sym (slot_id_at x)) ∙ e in
        let y = m.slots x.number x.before (omega (arith, e', z)) in
        subst (HasId h was t) e' (record { kept = y.kept; count = y.count ∙ x.counted; same = y.same ∙ slot_table_lem b x })

    pub naming_known : {was : List ℕ} {r : ℕ} → Before h was t → r < 256 → 0 < r → slot_id h was t ≡ r → Interning h t was was r
    naming_known b small some e = record { small = small; stands = e; kept = λ _ _. some; only = record { low = λ q l. refl; high = λ q l. refl }; told = λ p K limit few x m. (m, slot_named b e x m); exact = λ p K limit x m n y. id_once h b m.chains (slot_named b e x m some) y }

    -- and is from now on
    module _ {was mid : List ℕ} {r : ℕ} (long : length mid ≡ length was) (b : Before h was t) (x : Stored h t was mid r) where
      abbrev at : ℕ
      at = id_at h t.rows

      abbrev now : List ℕ
      now = set mid at r

      other : (q : ℕ) → q ≢ at → get_or now q 0 ≡ get_or mid q 0
      other q n = get_or-set_other mid at q r 0 n

      grown : Grown h mid now
      grown = grown_by h (other (taken_at h) (λ z. omega (arith, z))) (λ q l _. other q (λ z. omega (arith, z, l))) (λ q l. other q (λ z. omega (arith, z, l)))

      kept_now : table_of t now ≡ table_of t mid
      kept_now = before_same now (before_now long b) (λ q l. other q (λ z. omega (arith, z, l)))

      named : 0 < r → HasId h now t r
      named z = named_grown grown refl kept_now (x.named z)

      slots : {limit : ℕ} → InSlot h was t limit → (i : ℕ) → h.stride * i < h.memory → (get_or now (id_at h (h.stride * i + 1)) 0 ≡ get_or mid (id_at h (h.stride * i + 1)) 0) ⊎ SlotEntry h now i
      slots s i l = by_cases (ℕ_discrete i s.number)
          (λ e. inr (λ z.
          let here : get_or now (id_at h (h.stride * i + 1)) 0 ≡ r = ap (λ (i : ℕ). get_or now (id_at h (h.stride * i + 1)) 0) e ∙ ap (λ (q : ℕ). get_or now q 0) (sym (slot_id_at s)) ∙ get_or-set_same mid at r 0 (omega (arith, long, b.room)) in
          let y = named (omega (arith, here, z)) in
          let back : (q : ℕ) → q < h.memory → get_or now q 0 ≡ get_or was q 0 = λ q l. other q (λ z. omega (arith, z, l)) ∙ x.only.low q l in
          let s' : InSlot h now t (h.stride * s.number + h.stride) = record { number = s.number; rows = s.rows; counted = back (h.stride * s.number) (omega (arith, s.rows, b.before)) ∙ s.counted; before = omega arith } in
          subst (HasId h now (slot_table h now (h.stride * i))) (sym here)
          (subst (λ (i : ℕ). HasId h now (slot_table h now (h.stride * i)) r) (sym e)
          (record { kept = y.kept; count = y.count ∙ sym s'.counted; same = y.same ∙ sym (slot_table_lem (before_now (length-set mid at r ∙ long) b) s') }))))
          (λ n. inl (other (id_at h (h.stride * i + 1)) (λ z. n (slot_apart b.laid l (omega (arith, s.rows, b.before)) (z ∙ slot_id_at s)))))

      slot_only : Only h was now
      slot_only = record { low = λ q l. other q (λ z. omega (arith, z, l)) ∙ x.only.low q l; high = λ q l. other q (λ z. omega (arith, z, l)) ∙ x.only.high q l }

      slot_stands : slot_id h now t ≡ r
      slot_stands = get_or-set_same mid at r 0 (omega (arith, long, b.room))

      slot_memory : {p : Theory} {K limit : ℕ} → limit ≤ h.memory → InSlot h was t limit → Memory p K h limit was → Memory p K h limit now
      slot_memory {p} {K} {limit} few s m = memory_but grown (λ q l. other q (λ z. omega (arith, z, l, few))) (λ i l. slots s i (omega (arith, l, few, b.laid.some))) (λ i l _. inl (λ q a b. other q (λ z. omega (arith, z, a)))) (λ i l _. inl (λ q a b. other q (λ z. omega (arith, z, a))))
          (cells_same (other (h.memory + 49) (λ z. omega (arith, z))) (other (taken_at h) (λ z. omega (arith, z))) (λ q l _. other q (λ z. omega (arith, z, l)))) (x.memory p K limit few m)

      pub naming_new : (Roomy h mid → Fits h t → 0 < r) → Interning h t was now r
      naming_new fits = record {
        kept = λ room. fits (sym (other (h.memory + 49) (λ z. omega (arith, z))) ∙ room);
        small = x.small;
        stands = slot_stands;
        only = slot_only;
        told = λ p K limit few s m. (slot_memory few s m, named);
        exact = λ p K limit s m. x.exact m.chains;
      }

    -- what is known by an id is known of the table
    pub named_rows : {work : List ℕ} {n : ℕ} → Before h work t → HasId h work t n → state_of (kept_table h work n) work ≡ state_of t work
    named_rows {work} {n} b x = ap (λ (c : ℕ). meaning c (table_of (kept_table h work n) work)) b.characters ∙ rows_mean t.characters x.same

    pub named_state : {work : List ℕ} {n : ℕ} → Before h work t → HasId h work t n → (root : ℕ) → state_of (kept_table h work n) work root ≡ state_of t work root
    named_state {work} {n} b x root = ap (λ (s : ℕ → State). s root) (named_rows b x)

    module _ {was : List ℕ} (b : Before h was t) where
      -- what stands at the place of the slot's id
      module _ {mid : List ℕ} {k : Key} {r a m : ℕ} (x : Identified h t was mid r) (e : a ≡ entry_at h r k) where
        pub fact_here : FactKnown h mid t k m → FactRead mid a r k m
        fact_here f = subst (λ (a : ℕ). FactRead mid a r k m) (sym e) (subst (λ (n : ℕ). FactRead mid (entry_at h n k) n k m) x.interning.stands f)

        fact_there : FactRead mid a r k m → FactKnown h mid t k m
        fact_there f = subst (λ (n : ℕ). FactRead mid (entry_at h n k) n k m) (sym x.interning.stands) (subst (λ (a : ℕ). FactRead mid a r k m) e f)

      pub recalled_none : {mid : List ℕ} {k : Key} {r : ℕ} → Identified h t was mid r → ((m : ℕ) → ¬ FactKnown h mid t k m) → Recalled h t k was mid 0 × Recalls h t k was mid 0
      recalled_none x none = (record { only = x.interning.only; told = λ p K limit few s m. ((x.interning.told p K limit few s m).0, fact_none p K _ _) }, record { found = λ m f. absurd (none m f); none = λ _. refl; same = x.known })

      -- nothing is asked
      pub recalled_nothing : {k : Key} → Recalled h t k was was 0
      recalled_nothing = record { only = record { low = λ q l. refl; high = λ q l. refl }; told = λ p K limit few s m. (m, fact_none p K _ _) }

      recalled_true : {mid : List ℕ} {k : Key} {r a : ℕ} → length mid ≡ length was → Identified h t was mid r → 0 < r → Place h.lists (facts_at h) 7 a → get_or mid (a + 6) 0 ≡ r → key_at mid a ≡ k → Recalled h t k was mid (get_or mid a 0)
      recalled_true {mid} {k} {r} {a} long x some place e key = record {
        only = x.interning.only;
        told = λ p K limit few s m.
            let (m', named) = x.interning.told p K limit few s m in
            let e' : get_or mid (facts_at h + 7 * place.number + 6) 0 ≡ r = ap (λ (a : ℕ). get_or mid (a + 6) 0) (sym place.is) ∙ e in
            let (kept, fact) = m'.facts (unspent (named some)) place.number place.few (omega (arith, e', some)) in
            let here = subst (λ (a : ℕ). Fact p K (get_or mid a 0) (key_at mid a) (state_of (kept_table h mid (get_or mid (a + 6) 0)) mid)) (sym place.is) fact in
            (m', fact_same p K refl key (rows_mean h.characters (ap (λ (n : ℕ). table_of (kept_table h mid n) mid) e) ∙ named_rows (before_now long b) (named some) ∙ rows_mean t.characters (before_same mid b x.interning.only.low)) here);
      }

      pub recalled : {mid : List ℕ} {k : Key} {r a : ℕ} → length mid ≡ length was → Identified h t was mid r → 0 < r → a ≡ entry_at h r k → Place h.lists (facts_at h) 7 a → get_or mid (a + 6) 0 ≡ r → key_at mid a ≡ k → Recalled h t k was mid (get_or mid a 0) × Recalls h t k was mid (get_or mid a 0)
      recalled {mid} {k} {r} {a} long x some at place e key = (
        recalled_true long x some place e key,
        record { found = λ m f. (fact_here x at f).marked; none = λ f. absurd (f (get_or mid a 0) (fact_there x at (record { some = some; marked = refl; key = key; read = e }))); same = x.known },
      )

      pub remembered_none : {mid : List ℕ} {m : ℕ} {k : Key} {r : ℕ} → Identified h t was mid r → ¬ Storable r k → Remembered h t m k was mid × Notes h t m k was mid
      remembered_none {mid} {k = k} x unfit = (
        record { only = x.interning.only; memory = λ p K limit few s y f. (x.interning.told p K limit few s y).0 },
        record { kept = λ room f. omega (arith, x.interning.kept room f, x.interning.stands); stands = λ s. absurd (unfit (subst (λ (n : ℕ). Storable n k) x.interning.stands s)); same = λ z. ap (λ (work : List ℕ). slot_id h work t) (x.known z) },
      )

      -- nothing is put down
      pub remembered_nothing : {m : ℕ} {k : Key} → Remembered h t m k was was
      remembered_nothing = record { only = record { low = λ q l. refl; high = λ q l. refl }; memory = λ p K limit few s y f. y }

      module _ {mid put : List ℕ} {m r a : ℕ} {k : Key} (long : length mid ≡ length was) (long' : length put ≡ length mid) (x : Identified h t was mid r) (some : 0 < r) (at : a ≡ entry_at h r k) (place : Place h.lists (facts_at h) 7 a) (key : KeyPut mid put a m k) where
        abbrev noted : List ℕ
        noted = set put (a + 6) r

        bounds : (facts_at h ≤ a) × (a + 7 ≤ tables_at h)
        bounds = (omega (arith, place.is), omega (arith, place.is, place.few))

        low : (q : ℕ) → q < a → get_or noted q 0 ≡ get_or mid q 0
        low q l = get_or-set_other put (a + 6) q r 0 (λ z. omega (arith, z, l)) ∙ key.low q l

        high : (q : ℕ) → a + 7 ≤ q → get_or noted q 0 ≡ get_or mid q 0
        high q l = get_or-set_other put (a + 6) q r 0 (λ z. omega (arith, z, l)) ∙ key.high q (omega (arith, l))

        kept : (d : ℕ) → d < 6 → get_or noted (a + d) 0 ≡ get_or put (a + d) 0
        kept d l = get_or-set_other put (a + 6) (a + d) r 0 (λ z. omega (arith, z, l))

        put_grown : Grown h mid noted
        put_grown = grown_by h (low (taken_at h) (omega (arith, bounds))) (λ q _ l. low q (omega (arith, l, bounds))) (λ q l. high q (omega (arith, l, bounds)))

        entry : FactRead noted a r k m
        entry = record {
          some = some;
          marked = get_or-set_other put (a + 6) a r 0 (λ z. omega (arith, z)) ∙ key.marked;
          key = key_same (kept 1 (omega arith)) (kept 2 (omega arith)) (kept 3 (omega arith)) (omega (arith, kept 4 (omega arith), kept 5 (omega arith))) ∙ key.key;
          read = get_or-set_same put (a + 6) r 0 (omega (arith, long, long', b.room, bounds));
        }

        -- the slot's id stays
        same_id : slot_id h noted t ≡ slot_id h mid t
        same_id = low (id_at h t.rows) (omega (arith, bounds))

        new : (p : Theory) (K : ℕ) → HasId h mid t r → Fact p K m k (state_of t was) → FactEntry p K h noted a
        new p K named fact z =
            let state : state_of t was ≡ state_of (kept_table h noted r) noted = rows_mean t.characters (sym (before_same mid b x.interning.only.low)) ∙ sym (named_rows (before_now long b) named) ∙ rows_mean h.characters (sym (kept_table_lem put_grown named.kept)) in
            subst (λ (n : ℕ). Kept h noted n × Fact p K (get_or noted a 0) (key_at noted a) (state_of (kept_table h noted n) noted)) (sym entry.read) (kept_grown put_grown named.kept, fact_same p K (sym entry.marked) (sym entry.key) state fact)

        pub notes : Notes h t m k was noted
        notes = record {
          kept = λ room f. omega (arith, x.interning.kept (sym (low (h.memory + 49) (omega (arith, bounds))) ∙ room) f, x.interning.stands, same_id);
          stands = λ _. subst (λ (n : ℕ). FactRead noted (entry_at h n k) n k m) (sym (same_id ∙ x.interning.stands)) (subst (λ (a : ℕ). FactRead noted a r k m) at entry);
          same = λ z. same_id ∙ ap (λ (work : List ℕ). slot_id h work t) (x.known z);
        }

        pub remembered : Remembered h t m k was noted
        remembered = record {
          only = record { low = λ q l. low q (omega (arith, l, bounds)) ∙ x.interning.only.low q l; high = λ q l. high q (omega (arith, l, bounds)) ∙ x.interning.only.high q l };
          memory = λ p K limit few s y fact.
              let (m', named) = x.interning.told p K limit few s y in
              memory_but put_grown (λ q l. low q (omega (arith, l, few, bounds))) (λ i l. inl (low (id_at h (h.stride * i + 1)) (omega (arith, bounds)))) (λ i l _. inl (λ q g u. low q (omega (arith, u, l, bounds))))
              (λ i l _. by_cases (ℕ_discrete i place.number)
              (λ z. inr (subst (λ (i : ℕ). FactEntry p K h noted (facts_at h + 7 * i)) (sym z) (subst (FactEntry p K h noted) place.is (new p K (named some) fact))))
              (λ z. inl (λ q g u. by_cases (dec_le i place.number) (λ v. low q (omega (arith, u, v, z, place.is))) (λ v. high q (omega (arith, g, v, place.is))))))
              (cells_unspent (low (h.memory + 49) (omega (arith, bounds))) (low (taken_at h) (omega (arith, bounds))) (named some)) m';
        }

-- steps that are known
module _ (h : Context) where
  abbrev width : ℕ
  width = h.fluents + h.characters

  -- what stands at the place of the slot's id
  module _ {work : List ℕ} {t : Table} {id root a at : ℕ} (e : slot_id h work t ≡ id) (here : at ≡ step_at h id root a) where
    pub step_there : {next : ℕ} → StepRead work at id root a → get_or work (at + 3) 0 ≡ next → StepKnown h work t root a next
    step_there x l = record {
      entry = subst (λ (n : ℕ). StepRead work (step_at h n root a) n root a) (sym e) (subst (λ (q : ℕ). StepRead work q id root a) here x);
      leaves = ap (λ (q : ℕ). get_or work (q + 3) 0) (ap (λ (n : ℕ). step_at h n root a) e ∙ sym here) ∙ l;
    }

    pub step_here : {next : ℕ} → StepKnown h work t root a next → StepRead work at id root a × (get_or work (at + 3) 0 ≡ next)
    step_here x = (
      subst (λ (q : ℕ). StepRead work q id root a) (sym here) (subst (λ (n : ℕ). StepRead work (step_at h n root a) n root a) e x.entry),
      ap (λ (q : ℕ). get_or work (q + 3) 0) (here ∙ ap (λ (n : ℕ). step_at h n root a) (sym e)) ∙ x.leaves,
    )

  -- a step put down
  module _ {t : Table} {was now : List ℕ} {id root a next at : ℕ} (b : Before h was t) (e : slot_id h was t ≡ id) (some : 0 < id) (here : at ≡ step_at h id root a) (place : Place (h.lists / 2) (steps_at h) 4 at) (put : StepPut was now at id root a next) where
    step_bounds : (steps_at h ≤ at) × (at + 4 ≤ facts_at h)
    step_bounds = (omega (arith, place.is), omega (arith, place.is, place.few))

    step_kept : Grown h was now
    step_kept = grown_by h (put.low (taken_at h) (omega (arith, step_bounds))) (λ q _ l. put.low q (omega (arith, l, step_bounds))) (λ q l. put.high q (omega (arith, l, step_bounds)))

    new_step : {p : Theory} → StepFact p h was id root a next → StepEntry p h now at
    new_step {p} x z =
        let y = step_grown h step_kept x in
        subst (λ (k : ℕ). StepFact p h now k (get_or now (at + 1) 0) (get_or now (at + 2) 0) (get_or now (at + 3) 0)) (sym put.read)
        (subst (λ (k : ℕ). StepFact p h now id k (get_or now (at + 2) 0) (get_or now (at + 3) 0)) (sym put.row)
        (subst (λ (k : ℕ). StepFact p h now id root k (get_or now (at + 3) 0)) (sym put.acted) (subst (λ (k : ℕ). StepFact p h now id root a k) (sym put.leaves) y)))

    pub noted_step : Noted h t root a next was now
    noted_step = record {
      stands = λ _.
          let same : slot_id h now t ≡ id = put.low (id_at h t.rows) (omega (arith, step_bounds)) ∙ e in
          step_there same here (record { some = some; read = put.read; row = put.row; acted = put.acted }) put.leaves;
      ids = λ q l. put.low q (omega (arith, l, step_bounds));
      only = record { low = λ q l. put.low q (omega (arith, l, step_bounds)); high = λ q l. put.high q (omega (arith, l, step_bounds)) };
      memory = λ p K limit few s m f.
          memory_but h step_kept (λ q l. put.low q (omega (arith, l, few, step_bounds))) (λ i l. inl (put.low (id_at h (h.stride * i + 1)) (omega (arith, step_bounds))))
          (λ i l _. by_cases (ℕ_discrete i place.number)
          (λ z. inr (subst (λ (i : ℕ). StepEntry p h now (steps_at h + 4 * i)) (sym z) (subst (StepEntry p h now) place.is (new_step (f id (slot_named h b e s m some))))))
          (λ z. inl (λ q g u. by_cases (dec_le i place.number) (λ v. put.low q (omega (arith, u, v, z, place.is))) (λ v. put.high q (omega (arith, g, v, place.is))))))
          (λ i l _. inl (λ q g u. put.high q (omega (arith, g, step_bounds))))
          (cells_unspent h (put.low (h.memory + 49) (omega (arith, step_bounds))) (put.low (taken_at h) (omega (arith, step_bounds))) (slot_named h b e s m some)) m;
    }

  -- one slot more
  pub memory_more : {p : Theory} {K : ℕ} {now : List ℕ} (n : ℕ) {limit : ℕ} → limit ≡ h.stride * n → Memory p K h limit now → SlotEntry h now n → Memory p K h (limit + h.stride) now
  memory_more {now = now} n e m x = record {
    laid = m.laid;
    within = m.within;
    chains = m.chains;
    slots = λ i l. by_cases (ℕ_discrete i n) (λ z. subst (SlotEntry h now) (sym z) x) (λ z. m.slots i (by_cases (dec_le (i + 1) n) (λ k. omega (arith, e, stride_on h.stride {i = i} {j = n} (omega (arith, k)))) (λ k. absurd (omega (arith, l, e, z, k, m.laid.wide, stride_on h.stride {i = n} {j = i} (omega (arith, k, z)))))));
    steps = m.steps;
    facts = m.facts;
    cells = m.cells;
  }

  -- where a slot's id stands
  module _ {work : List ℕ} {slot : ℕ} (s : Slot h work slot) where
    slot_index : id_at h (slot + 1) ≡ id_at h (h.stride * s.number + 1)
    slot_index = ap (λ (a : ℕ). id_at h (a + 1)) s.is

    -- that of a slot before it stands elsewhere
    slot_other : (i : ℕ) → h.stride * i + h.stride ≤ slot → id_at h (h.stride * i + 1) ≢ id_at h (slot + 1)
    slot_other i l z =
        let same : i ≡ s.number = slot_apart h s.laid (omega (arith, l, s.before, s.laid.some)) (omega (arith, s.is, s.before, s.laid.some)) (z ∙ slot_index) in
        omega (arith, l, s.is, s.laid.some, ap (λ (i : ℕ). h.stride * i) same)

    -- and so does that of a table there
    pub row_apart : {t : Table} → InSlot h work t slot → id_at h t.rows ≢ id_at h (slot + 1)
    row_apart i z = slot_other i.number i.before (sym (slot_id_at h i) ∙ z)

  -- the id of a slot is forgotten
  module _ {was : List ℕ} {slot : ℕ} (s : Slot h was slot) where
    abbrev pub nameless : List ℕ
    nameless = set was (id_at h (slot + 1)) 0

    nameless_other : (q : ℕ) → q ≢ id_at h (slot + 1) → get_or nameless q 0 ≡ get_or was q 0
    nameless_other q n = get_or-set_other was (id_at h (slot + 1)) q 0 0 n

    pub nameless_only : Only h was nameless
    nameless_only = record { low = λ q l. nameless_other q (λ z. omega (arith, z, l)); high = λ q l. nameless_other q (λ z. omega (arith, z, l)) }

    pub memory_nameless : {p : Theory} {K : ℕ} → Memory p K h slot was → Memory p K h (slot + h.stride) nameless
    memory_nameless m = memory_more s.number s.is
        (memory_but h (grown_by h (nameless_other (taken_at h) (λ z. omega (arith, z))) (λ q l _. nameless_other q (λ z. omega (arith, z, l))) (λ q l. nameless_other q (λ z. omega (arith, z, l)))) (λ q l. nameless_other q (λ z. omega (arith, z, l, s.before)))
        (λ i l. inl (nameless_other (id_at h (h.stride * i + 1)) (slot_other s i l))) (λ i l _. inl (λ q g u. nameless_other q (λ z. omega (arith, z, g)))) (λ i l _. inl (λ q g u. nameless_other q (λ z. omega (arith, z, g))))
        (cells_same h (nameless_other (h.memory + 49) (λ z. omega (arith, z))) (nameless_other (taken_at h) (λ z. omega (arith, z))) (λ q l _. nameless_other q (λ z. omega (arith, z, l)))) m)
        (λ z. let e : get_or nameless (id_at h (h.stride * s.number + 1)) 0 ≡ 0 = ap (λ (q : ℕ). get_or nameless q 0) (sym (slot_index s)) ∙ get_or-set_same was (id_at h (slot + 1)) 0 0 (omega (arith, s.before, s.laid.room, s.room)) in absurd (omega (arith, e, z)))

  -- the table of an id is copied into a slot
  module _ {was mid : List ℕ} {slot next : ℕ} (s : Slot h was slot) (taken : get_or was (taken_at h) 0 < 256) (k : Kept h was next) (copied : PartCopied was mid (kept_at h next) slot (1 + get_or was (kept_at h next) 0 * width)) (long : length mid ≡ length was) where
    abbrev again : List ℕ
    again = set mid (id_at h (slot + 1)) next

    again_size : 1 + get_or was (kept_at h next) 0 * width ≤ h.stride
    again_size = let most : get_or was (kept_at h next) 0 * width ≤ 32 * width = mul-le-mul_right width k.inside.few in omega (arith, most, s.laid.wide)

    again_other : (q : ℕ) → q ≢ id_at h (slot + 1) → get_or again q 0 ≡ get_or mid q 0
    again_other q n = get_or-set_other mid (id_at h (slot + 1)) q next 0 n

    again_here : get_or again (id_at h (slot + 1)) 0 ≡ next
    again_here = get_or-set_same mid (id_at h (slot + 1)) next 0 (omega (arith, s.laid.room, s.room, long))

    again_low : (q : ℕ) → q < slot → get_or again q 0 ≡ get_or was q 0
    again_low q l = again_other q (λ z. omega (arith, z, l, s.before)) ∙ copied.low q l

    again_high : (q : ℕ) → taken_at h ≤ q → get_or again q 0 ≡ get_or was q 0
    again_high q l = again_other q (λ z. omega (arith, z, l)) ∙ copied.high q (omega (arith, l, s.before, again_size))

    again_grown : Grown h was again
    again_grown = grown_by h (again_high (taken_at h) (omega arith)) (λ q l _. again_high q (omega (arith, l))) (λ q l. again_high q (omega (arith, l)))

    again_byte : (i : ℕ) → i < 1 + get_or was (kept_at h next) 0 * width → get_or again (slot + i) 0 ≡ get_or was (kept_at h next + i) 0
    again_byte i l = again_other (slot + i) (λ z. omega (arith, z, l, s.before, again_size)) ∙ copied.part i l

    again_table : table_of (slot_table h again slot) again ≡ table_of (kept_table h was next) was
    again_table = table_moved h was again (kept_at h next) slot again_byte

    again_count : get_or again slot 0 ≡ get_or was (kept_at h next) 0
    again_count = let x : slot ≡ slot + 0 = omega arith in let y : kept_at h next + 0 ≡ kept_at h next = omega arith in ap (λ (q : ℕ). get_or again q 0) x ∙ again_byte 0 (omega arith) ∙ ap (λ (q : ℕ). get_or was q 0) y

    again_memory : {p : Theory} {K : ℕ} → Memory p K h slot was → Memory p K h slot again
    again_memory m = memory_but h again_grown again_low (λ i l. inl (again_other (id_at h (h.stride * i + 1)) (slot_other s i l) ∙ copied.high (id_at h (h.stride * i + 1)) (omega (arith, s.before, again_size)))) (λ i l _. inl (λ q g u. again_high q (omega (arith, g)))) (λ i l _. inl (λ q g u. again_high q (omega (arith, g))))
        (cells_same h (again_high (h.memory + 49) (omega arith)) (again_high (taken_at h) (omega arith)) (λ q l _. again_high q (omega (arith, l)))) m

    again_named : HasId h again (slot_table h again slot) next
    again_named = record { kept = kept_grown h again_grown k; count = let c = kept_count h again_grown k in c ∙ sym again_count; same = kept_table_lem h again_grown k ∙ sym again_table }

    pub copied_again : Again h next slot was again true
    copied_again = record {
      refused = λ z. set_not z;
      named = λ _. again_here;
      others = λ q l n. again_other q n ∙ copied.high q (omega (arith, l, s.before, again_size));
      played = λ z. (k.inside.some, again_table, omega (arith, again_count, k.inside.few));
      low = again_low;
      high = λ q l. again_high q (omega (arith, l));
      memory = λ p K m. (
        again_memory m,
        λ z. memory_more s.number s.is (again_memory m) (λ y.
            let here : get_or again (id_at h (h.stride * s.number + 1)) 0 ≡ next = ap (λ (q : ℕ). get_or again q 0) (sym (slot_index s)) ∙ again_here in
            subst (HasId h again (slot_table h again (h.stride * s.number))) (sym here) (subst (λ (a : ℕ). HasId h again (slot_table h again a) next) s.is again_named)),
      );
    }

  -- what a step has left is named and put down
  module _ {was : List ℕ} {slot : ℕ} (s : Slot h was slot) (few : get_or was slot 0 ≤ 32) where
    abbrev left : Table
    left = slot_table h (nameless s) slot

    nameless_count : get_or (nameless s) slot 0 ≡ get_or was slot 0
    nameless_count = nameless_other s slot (λ z. omega (arith, z, s.before))

    left_in : InSlot h (nameless s) left (slot + h.stride)
    left_in = record { number = s.number; rows = ap (λ (a : ℕ). a + 1) s.is; counted = ap (λ (a : ℕ). get_or (nameless s) a 0) (sym s.is); before = omega (arith, s.is) }

    module _ {t : Table} {mid : List ℕ} {next : ℕ} (b : Before h was t) (long : length mid ≡ length was) (x : Interning h left (nameless s) mid next) where
      left_low : (q : ℕ) → q < h.memory → get_or mid q 0 ≡ get_or was q 0
      left_low q l = x.only.low q l ∙ (nameless_only s).low q l

      left_only : Only h was mid
      left_only = record { low = left_low; high = λ q l. x.only.high q l ∙ (nameless_only s).high q l }

      left_memory : {p : Theory} {K : ℕ} → Memory p K h slot was → Memory p K h (slot + h.stride) mid × (0 < next → HasId h mid left next)
      left_memory {p} {K} m = x.told p K (slot + h.stride) (omega (arith, s.before)) left_in (memory_nameless s m)

      -- it has an id where it fits
      left_kept : (now : List ℕ) → ((q : ℕ) → q < h.memory → get_or now q 0 ≡ get_or was q 0) → Roomy h mid → Fits h (slot_table h now slot) → 0 < next
      left_kept now low room f = x.kept room (subst (λ (n : ℕ). n * width / h.block < 255) (low slot (omega (arith, s.before, s.laid.some)) ∙ sym nameless_count) f)

      pub left_unnoted : {root a : ℕ} → next ≡ 0 → LeftNoted h t root a slot was mid
      left_unnoted e = record { kept = λ room f. omega (arith, left_kept mid left_low room f, x.stands); stands = λ _ z. absurd (omega (arith, z, e, x.stands)); only = left_only; memory = λ p K i m f. (left_memory m).0 }

      left_id : {now : List ℕ} {root a : ℕ} → Noted h t root a next mid now → slot_id h now left ≡ next
      left_id y = y.ids (id_at h (slot + 1)) (omega arith) ∙ x.stands

      pub left_noted : {now : List ℕ} {root a : ℕ} → 0 < next → Noted h t root a next mid now → LeftNoted h t root a slot was now
      left_noted {now} {root} {a} some y = record {
        stands = λ z _.
            subst (StepKnown h now t root a) (sym (left_id y)) (y.stands z);
        kept = λ room f. omega (arith, left_id y, left_kept now (λ q l. y.only.low q l ∙ left_low q l) (sym (y.ids (h.memory + 49) (omega arith)) ∙ room) f);
        only = record { low = λ q l. y.only.low q l ∙ left_low q l; high = λ q l. y.only.high q l ∙ left_only.high q l };
        memory = λ p K i m (u, plays, starts).
            let (m', named) = left_memory m in
            let here = before_same h mid b left_low in
            let most : get_or was slot 0 * width ≤ 32 * width = mul-le-mul_right width few in
            let there : table_of left mid ≡ table_of (slot_table h was slot) was = ap (λ (n : ℕ). rows_at mid width h.fluents h.characters (slot + 1) n) nameless_count ∙ rows_same was mid width h.fluents h.characters (slot + 1) (slot + 1) (get_or was slot 0) (omega arith) (λ q l. left_low (slot + 1 + q) (omega (arith, l, most, s.laid.wide, s.before))) in
            y.memory p K (slot + h.stride) (omega (arith, s.before)) (record { number = i.number; rows = i.rows; counted = left_low (h.stride * i.number) (omega (arith, i.before, s.before)) ∙ i.counted; before = omega (arith, i.before) }) m'
            (λ n z. record {
              kept = z.kept;
              none = λ e. absurd (omega (arith, e, some));
              left = λ e. (
                (named some).kept,
                (
                  u,
                  subst (λ (v : State). Plays p v a u) (sym (named_state h (before_now h long b) z root ∙ ap (λ (U : List Node). meaning t.characters U root) here)) plays,
                  subst (Starts h.characters u) (sym ((named some).same ∙ there)) starts,
                ),
              );
            });
      }
