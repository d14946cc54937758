-- A table that is kept is found under its id, and what was last noted of it is found again: a fact is recalled, a step
-- repeated. Assumes nothing.
use Prim.Native.Nat.{ℕ, ◌+◌, ◌*◌, ◌-◌, ◌/◌, ◌%◌, ◌<◌, ◌≤◌}
use mathlib.Core.Bool.{Bool, true, false}
use mathlib.Core.Path.{◌≡◌, sym, ap, ◌∙◌, subst}
use mathlib.Core.Logic.{◌↔◌, by_cases}
use mathlib.Core.List.{List}
use native.Mathlib.Decide.{dec_lt}
use native.Mathlib.Nat.{div-add-mod, mod-lt, mul-le-mul_left}
use native.Mathlib.Omega.{arith}
use lib.ListN.{length, get_or}
use Rattle.pack.specs.Syntax.{Node, Theory}
use Rattle.pack.specs.State.{meaning}
use Rattle.pack.specs.Duties.Table.{table_of, state_of}
use Rattle.pack.specs.Laws.Rows.{rows_length}
use Rattle.chart.specs.Chart.{Written}
use Rattle.chart.specs.Laws.Unique.{unique}
use Rattle.pack.specs.declared.contents.Contents.{Contents}
use Rattle.pack.specs.declared.table.Table.{Table}
use Rattle.planner.specs.declared.limits.Context.{Context}
use Rattle.planner.specs.declared.limits.Foresight.{Foresight}
use Rattle.planner.specs.declared.entry.Key.{Key}
use Rattle.planner.specs.Inner.Layout.{entries, room_behind, laid_out}
use Rattle.planner.specs.Inner.Lists.{slot_table}
use Rattle.std.specs.Prelude.{Option, Some}
use Rattle.planner.specs.Inner.Memory.{id_byte, id_at, steps_at, kept_table, slot_id, HasId, Chained, Memory, entry_at, step_at, Place, Before, InSlot, Fits, Identified, Storable, FactRead, FactKnown, Recalls, Notes, StepRead, StepKnown, Noted, Slot, Again, LeftNoted, StepOnce}
use Rattle.planner.proofs.Chains.{id_once}
use Rattle.planner.proofs.Slots.{entries_fit, room_left}
use Rattle.planner.proofs.TrueMemory.{set_not, table_size, key_same, row_apart, step_here, step_there}

-- as a call lays the work buffer out, every table fits
pub tables_fit : (c : Contents) (k : Foresight) (slots : ℕ) {work : List ℕ} {t : Table} → (c.characters ≤ 6) × (slots ≤ 30) → Before (laid_out c k slots) work t → Fits (laid_out c k slots) t
tables_fit c k slots {work} {t} (characters, few) b =
    let fluents = c.domains.few in
    let block = (laid_out c k slots).block in
    let n = t.nodes * t.width in
    let room = room_behind c slots in
    let left = room - 436 - 9 * entries c.actions room in
    let fits = entries_fit c.actions room (room_left c k slots (characters, few)) in
    let all = div-add-mod left 255 in
    let rest : left % 255 < 255 = mod-lt left (omega arith) in
    let wide : 4 ≤ block = omega (arith, fits, all, rest) in
    by_cases (dec_lt (n / block) 255) (λ l. l)
    (λ l.
    let over : 255 ≤ n / block = omega (arith, l) in
    absurd (omega (arith, div-add-mod n block, mul-le-mul_left block over, wide, table_size (laid_out c k slots) b)))

module _ (h : Context) where
  -- tables in two slots, the first of which has an id
  module _ {work : List ℕ} (a b : ℕ) {n : ℕ} (x : HasId h work (slot_table h work a) n) where
    -- the same table has it, too
    same_has : table_of (slot_table h work a) work ≡ table_of (slot_table h work b) work → HasId h work (slot_table h work b) n
    same_has e =
        let w = h.fluents + h.characters in
        let count : get_or work a 0 ≡ get_or work b 0 = sym (rows_length work w h.fluents h.characters (a + 1) (get_or work a 0)) ∙ ap (λ (T : List Node). length T) e ∙ rows_length work w h.fluents h.characters (b + 1) (get_or work b 0) in
        record { kept = x.kept; count = x.count ∙ count; same = x.same ∙ e }

    -- and is found under it
    pub same_id : {p : Theory} {K limit r : ℕ} {now : List ℕ} → InSlot h work (slot_table h work b) limit → Memory p K h limit work → table_of (slot_table h work a) work ≡ table_of (slot_table h work b) work → Identified h (slot_table h work b) work now r → r ≡ n
    same_id {p} {K} {limit} i m e y = y.interning.exact p K limit i m n (same_has e)

    -- written charts of two ids: it is one id exactly where no chain of beliefs tells the states apart
    pub one_state_one_id : {m : ℕ} → Chained h work → Before h work (slot_table h work b) → HasId h work (slot_table h work b) m → Written h.characters (table_of (slot_table h work a) work) → Written h.characters (table_of (slot_table h work b) work)
        → (state_of (slot_table h work a) work 0 ≡ state_of (slot_table h work b) work 0) ↔ (n ≡ m)
    one_state_one_id c before y wa wb = (
      λ e. id_once h before c (same_has (unique h.characters (table_of (slot_table h work a) work) (table_of (slot_table h work b) work) wa wb e)) y,
      λ e. ap (λ (T : List Node). meaning h.characters T 0) (sym x.same ∙ ap (λ (k : ℕ). table_of (kept_table h work k) work) e ∙ y.same),
    )

  module _ (slot : ℕ) where
    -- the id of the table in the slot
    abbrev held : List ℕ → ℕ
    held work = slot_id h work (slot_table h work slot)

    -- a fact, where since then the slot's id and the entry's bytes are as they were
    pub last_recalled : {mark : ℕ} {k : Key} {was noted later now : List ℕ} {r : ℕ} → Notes h (slot_table h was slot) mark k was noted → Storable (held noted) k → held later ≡ held noted → ((i : ℕ) → i < 7 → get_or later (entry_at h (held noted) k + i) 0 ≡ get_or noted (entry_at h (held noted) k + i) 0)
        → Recalls h (slot_table h later slot) k later now r → r ≡ mark
    last_recalled {mark} {k} {was} {noted} {later} x fits same bytes y =
        let f = x.stands fits in
        let a = entry_at h (held noted) k in
        let none : a + 0 ≡ a = omega arith in
        let here : FactRead later a (held noted) k mark = record {
          some = f.some;
          marked = ap (λ (q : ℕ). get_or later q 0) (sym none) ∙ bytes 0 (omega arith) ∙ ap (λ (q : ℕ). get_or noted q 0) none ∙ f.marked;
          key = key_same (bytes 1 (omega arith)) (bytes 2 (omega arith)) (bytes 3 (omega arith)) (omega (arith, bytes 4 (omega arith), bytes 5 (omega arith))) ∙ f.key;
          read = bytes 6 (omega arith) ∙ f.read;
        } in
        let there : FactKnown h later (slot_table h later slot) k mark = subst (λ (n : ℕ). FactRead later (entry_at h n k) n k mark) (sym same) here in
        y.found mark (subst (λ (work : List ℕ). FactKnown h work (slot_table h later slot) k mark) (sym (y.same there.some)) there)

    -- a step, where nothing has changed since then: it is refused again, or what it left is copied
    module _ {root a : ℕ} {was noted now : List ℕ} {r r' : Bool} (x : StepOnce h (slot_table h was slot) root a (slot + h.stride) was noted r) (some : 0 < held noted) (y : StepOnce h (slot_table h noted slot) root a (slot + h.stride) noted now r') where
      pub last_refused : r ≡ false → Again h 0 (slot + h.stride) noted now r'
      last_refused e = let k = x.refused e some in y.again _ (record { entry = k.entry; leaves = k.leaves })

      pub last_repeated : r ≡ true → 0 < slot_id h noted (slot_table h noted (slot + h.stride)) → Again h (slot_id h noted (slot_table h noted (slot + h.stride))) (slot + h.stride) noted now r'
      last_repeated e left = let k = x.played e some left in y.again _ (record { entry = k.entry; leaves = k.leaves })

  -- an entry that is another step's, by the byte that keeps the id
  pub unread_step : {work : List ℕ} {id : Option ℕ} {n at root a : ℕ} → id ≡ Some n → at ≡ step_at h n root a → ¬ StepRead work at n root a → ¬ StepRead work (step_at h (id_byte id) root a) (id_byte id) root a
  unread_step {work} {n = n} {root = root} {a = a} is here unread =
      subst (λ (id : Option ℕ). ¬ StepRead work (step_at h (id_byte id) root a) (id_byte id) root a) (sym is) (subst (λ (at : ℕ). ¬ StepRead work at n root a) here unread)

  -- a step whose entry is looked up
  module _ {t : Table} {was mid : List ℕ} {id root a at : ℕ} (x : Identified h t was mid id) (here : at ≡ step_at h id root a) where
    -- what stood there before stands there now
    stood : {next : ℕ} → StepKnown h was t root a next → StepRead mid at id root a × (get_or mid (at + 3) 0 ≡ next)
    stood {next} k = step_here h x.interning.stands here (subst (λ (work : List ℕ). StepKnown h work t root a next) (sym (x.known k.entry.some)) k)

    -- it is there
    pub once_again : {now : List ℕ} {slot next : ℕ} {r : Bool} → Place (h.lists / 2) (steps_at h) 4 at → Slot h was slot → InSlot h was t slot → StepRead mid at id root a → get_or mid (at + 3) 0 ≡ next → Again h next slot mid now r → StepOnce h t root a slot was now r
    once_again {now} {slot} {next} {r} place s i read e y =
        let last : (q : ℕ) → at ≤ q → get_or now q 0 ≡ get_or mid q 0 = λ q l. y.others q (omega (arith, l, place.is)) (λ z. omega (arith, z, l, place.is)) in
        let same : slot_id h now t ≡ id = y.others (id_at h t.rows) (omega arith) (row_apart h s i) ∙ x.interning.stands in
        let stands : StepKnown h now t root a next = step_there h same here (record { some = read.some; read = last at (omega arith) ∙ read.read; row = last (at + 1) (omega arith) ∙ read.row; acted = last (at + 2) (omega arith) ∙ read.acted }) (last (at + 3) (omega arith) ∙ e) in
        record {
          again = λ n k. subst (λ (m : ℕ). Again h m slot was now r) (sym e ∙ (stood k).1) (subst (λ (work : List ℕ). Again h next slot work now r) (x.known k.entry.some) y);
          kept = λ z _ _. omega (arith, y.named z, (y.played z).0);
          refused = λ z _. subst (StepKnown h now t root a) (y.refused z) stands;
          played = λ z _ _. subst (StepKnown h now t root a) (sym (y.named z)) stands;
        }

    -- it is not, and is put down
    module _ {left now : List ℕ} {slot : ℕ} {r : Bool} (unread : ¬ StepRead mid at id root a) where
      pub once_refused : r ≡ false → Noted h t root a 0 left now → StepOnce h t root a slot was now r
      once_refused e y = record { kept = λ z. set_not (sym z ∙ e); again = λ n k. absurd (unread (stood k).0); refused = λ _. y.stands; played = λ z. set_not (sym z ∙ e) }

      pub once_left : r ≡ true → LeftNoted h t root a slot left now → StepOnce h t root a slot was now r
      once_left e y = record { kept = λ _. y.kept; again = λ n k. absurd (unread (stood k).0); refused = λ z. set_not (sym e ∙ z); played = λ _. y.stands }
