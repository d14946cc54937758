-- Explanations over the slots of the work buffer: what each function is told by those it calls. Assumes nothing.
use Prim.Native.Nat.{ℕ, zero, suc, ◌+◌, ◌*◌, ◌-◌, ◌/◌, ◌<◌, ◌≤◌}
use mathlib.Core.Path.{◌≡◌, refl, sym, ap, ◌∙◌, subst}
use mathlib.Core.Bool.{Bool, true, false}
use mathlib.Core.Logic.{◌≢◌}
use mathlib.Core.List.{List, [], ◌∷◌}
use native.Mathlib.Nat.{mul-suc, mul-le-mul_right}
use native.Mathlib.Omega.{arith}
use lib.ListN.{length, get_or}
use lib.Dec.{ltb}
use borrow.Author.Count.{below_more}
use Rattle.pack.specs.Syntax.{Node, Theory, Rule}
use Rattle.pack.specs.State.{State, belief, meaning, target, Closed}
use Rattle.pack.specs.Reading.{Reader, done, refused, pick, mapped, runs}
use Rattle.pack.specs.Number.{item, between, rising_at}
use Rattle.pack.specs.Duties.Answer.{dims}
use Rattle.pack.specs.Grammar.{Dimensions, consenters_at, rules_at}
use Rattle.pack.specs.Condition as condition
use Rattle.pack.specs.Duties.Contents.{Gives}
use Rattle.pack.specs.Duties.Judge.{Over, Judged, Small, Readable}
use Rattle.pack.specs.Duties.Table.{rows_at, table_of, state_of, Below, Above}
use Rattle.pack.specs.Laws.Reading.{both, unmapped, failed}
use Rattle.pack.specs.Laws.Table.{belief_in}
use Rattle.pack.specs.declared.table.Table.{Table}
use Rattle.pack.specs.Laws.Number.{between_within}
use Rattle.pack.specs.Laws.OneByte.{consenter_bytes}
use Rattle.pack.specs.Laws.Rows.{rows_length}
use Rattle.chart.specs.Call.{work_room}
use Rattle.chart.specs.Chart.{Written, Starts}
use Rattle.chart.specs.Laws.Lists.{stands, place}
use Rattle.chart.specs.Laws.Unique.{some}
use Rattle.chart.specs.Laws.Cells.{rows_same}
use Rattle.transition.specs.Happening.{nothing, action_of, Plays}
use Rattle.transition.specs.Laws.Settled.{plays_one, plays_refuses}
use Rattle.transition.specs.Duties.Play.{Setting, Left, PlayedIn}
use Rattle.transition.specs.Duties.Stage.{scratch_at}
use Rattle.transition.specs.Laws.ChangedRows.{tabled_same, small, belief_is, belief_in as inside_table}
use Rattle.planner.specs.declared.limits.Context.{Context}
use Rattle.planner.specs.declared.entry.Key.{Key}
use Rattle.planner.specs.Ending.{Leads, Explained, utility_to}
use Rattle.planner.specs.Inner.Lists.{counted, slot_table, Other, AboveBy, AboveBySome, ExplainedBy, Agreed}
use Rattle.planner.specs.Inner.Lists as inner
use Rattle.planner.specs.Inner.Memory.{steps_at, kept_table, HasId, StepFact, StepEntry, Memory, Fact, Place, Before, InSlot, Only, Interning, StepRead, Noted, Slot, Again, LeftNoted}
use Rattle.std.specs.Prelude.{Option, Some}
use Rattle.std.proofs.lemmas.Option.{MatchOption-at_some}
use Rattle.planner.specs.Inner.Known.{mark_of, Marks}
use Rattle.planner.specs.declared.known.Known.{Known}
use Rattle.planner.specs.declared.known.Known.TheVariants as knows
use Rattle.planner.specs.Inner.Explain.{Stage, Free, Told, Advanced}
use Rattle.planner.proofs.TrueMemory.{set_not, unspent, fact_same, rows_mean, before_now, named_state, memory_apart, memory_fewer, nameless, nameless_only, memory_nameless}

-- Told: passed on
pub told_none : {M : List ℕ → Type 0} {slot : ℕ} (was : List ℕ) {P : Type 0} → M was → (P → ⊥) → Told M slot was was false P
told_none was m f = record { memory = m; sound = λ e. let z : ◌≡◌ {A = ℕ} 0 1 = ap (λ (b : Bool). pick b 1 0) e in absurd (omega arith); complete = λ e x. f x; low = λ q l. refl; high = λ q l. refl }

pub told_by : {M M' : List ℕ → Type 0} {slot slot' : ℕ} {was mid now : List ℕ} {r : Bool} {P Q : Type 0} → slot ≤ slot' → (M' now → M now) → Below was mid slot → Above was mid work_room → Told M' slot' mid now r P → (P → Q) → (Q → P) → Told M slot was now r Q
told_by le w low high t f g = record { memory = w t.memory; sound = λ e. f (t.sound e); complete = λ e x. t.complete e (g x); low = λ q l. t.low q (omega arith) ∙ low q l; high = λ q l. t.high q l ∙ high q l }

pub told_no : {M : List ℕ → Type 0} {slot : ℕ} {was now : List ℕ} {P : Type 0} → Below was now slot → Above was now work_room → M now → (P → ⊥) → Told M slot was now false P
told_no low high m f = record { memory = m; sound = λ e. let z : ◌≡◌ {A = ℕ} 0 1 = ap (λ (b : Bool). pick b 1 0) e in absurd (omega arith); complete = λ e x. f x; low = low; high = high }

-- the flag that says it, under another name
pub told_is : {M : List ℕ → Type 0} {slot : ℕ} {was now : List ℕ} {r r' : Bool} {P : Type 0} → r ≡ r' → Told M slot was now r' P → Told M slot was now r P
told_is {M} {slot} {was} {now} {r} {r'} {P} e told = subst (λ (b : Bool). Told M slot was now b P) (sym e) told

pub told_yes : {M : List ℕ → Type 0} {slot : ℕ} {was now : List ℕ} {P : Type 0} → Below was now slot → Above was now work_room → M now → P → Told M slot was now true P
told_yes low high m x = record { memory = m; sound = λ e. x; complete = λ e y. let z : ◌≡◌ {A = ℕ} 0 1 = ap (λ (b : Bool). pick b 0 1) e in omega arith; low = low; high = high }

module _ {th : Theory} {T : List Node} {pack places : List ℕ} {h : Context} {was : List ℕ} {t : Table} {slot : ℕ} (x : Stage th T pack places h was t slot) where
  abbrev C : ℕ
  C = t.characters

  pub stage_same : {now : List ℕ} → Below was now slot → length now ≡ length was → Stage th T pack places h now t slot
  stage_same low long = record {
    theorized = x.theorized;
    tabled = tabled_same x.tabled (λ q l. low q (omega (arith, x.behind))) long;
    same_fluents = x.same_fluents;
    same_characters = x.same_characters;
    behind = x.behind;
    room = omega (arith, long, x.room);
    laid = x.laid;
    slotted = record { number = x.slotted.number; rows = x.slotted.rows; counted = low (h.stride * x.slotted.number) (omega (arith, x.free)) ∙ x.slotted.counted; before = x.slotted.before };
    free = x.free;
  }

  -- a table before the memory
  pub stage_before : slot ≤ h.memory → Before h was t
  stage_before f = record {
    laid = x.laid;
    fluents = x.same_fluents;
    characters = x.same_characters;
    wide = x.tabled.fits.wide;
    narrow = omega (arith, small x.tabled, x.tabled.fits.wide);
    few = x.tabled.few;
    before = omega (arith, x.behind, f);
    room = x.room;
  }

  pub stage_slot : Free h slot 1 → Slot h was slot
  stage_slot f = record { laid = x.laid; before = omega (arith, f); number = x.slotted.number + 1; is = omega (arith, x.free); room = x.room }

  pub stage_state : (root : ℕ) → state_of t was root ≡ meaning C T root
  stage_state root = ap (λ (U : List Node). meaning C U root) x.tabled.same

  pub stage_setting : Free h slot 1 → Setting th T pack places h.actions h.triggers was t slot
  stage_setting f = record { theorized = x.theorized; tabled = x.tabled; room = record { source = omega (arith, x.behind, f); has_slot_room = omega (arith, f); room = x.room } }

  -- where utility rules are found
  pub stage_rules : (c root : ℕ) → c < C → root < t.nodes → (Judged rules_at pack (get_or places (321 + c) 0) t was root) × (321 + c < length places)
  stage_rules c root l i =
      let d = dims th.characters th.domains in
      let place : 320 + (c + 1) ≡ 321 + c = omega arith in
      let g = x.theorized.found.rules (c + 1) (omega (arith, x.tabled.over.characters)) in (
        record { table = x.tabled.fits; there = i; dimensions = d; over = x.tabled.over; value = get_or th.utilities (c + 1) []; end = g.end; reads = ap (λ (k : ℕ). rules_at d pack (get_or places k 0)) (sym place) ∙ g.reads },
        omega (arith, x.theorized.marked, small x.tabled),
      )

  pub stage_utility : {r : ℕ} (c root : ℕ) → c < C → ((d : Dimensions) → Over d t → (rules : List Rule) (n : ℕ) → rules_at d pack (get_or places (321 + c) 0) ≡ done rules n → r ≡ condition.utility (state_of t was root) rules) → r ≡ utility_to th c (meaning C T root)
  stage_utility {r} c root l f =
      let d = dims th.characters th.domains in
      let place : 320 + (c + 1) ≡ 321 + c = omega arith in
      let next : c + 1 ≡ suc c = omega arith in
      let g = x.theorized.found.rules (c + 1) (omega (arith, x.tabled.over.characters)) in
      f d x.tabled.over (get_or th.utilities (c + 1) []) g.end (ap (λ (k : ℕ). rules_at d pack (get_or places k 0)) (sym place) ∙ g.reads)
      ∙ ap (λ (U : List Node). condition.utility (meaning C U root) (get_or th.utilities (c + 1) [])) x.tabled.same ∙ ap (λ (k : ℕ). condition.utility (meaning C T root) (get_or th.utilities k [])) next

  -- a table that is closed, in the first free slot
  pub stage_next : {now : List ℕ} → Free h slot 1 → length now ≡ length was → get_or now slot 0 ≤ 32 → 0 < get_or now slot 0 → Closed h.characters (table_of (slot_table h now slot) now)
      → Stage th (table_of (slot_table h now slot) now) pack places h now (slot_table h now slot) (slot + h.stride)
  stage_next {now} f long few some closed =
      let most : get_or now slot 0 * (h.fluents + h.characters) ≤ 32 * (h.fluents + h.characters) = mul-le-mul_right (h.fluents + h.characters) few in
      let size : 1 + get_or now slot 0 * (h.fluents + h.characters) ≤ h.stride = omega (arith, most, x.laid.wide) in
      record {
        theorized = x.theorized;
        tabled = record {
          over = record { small = x.tabled.over.small; characters = x.tabled.over.characters ∙ sym x.same_characters; fluents = x.tabled.over.fluents ∙ sym x.same_fluents };
          fits = record { wide = refl; inside = omega (arith, size, f, long, x.room, x.laid.room); closed = closed };
          same = refl;
          few = few;
          some = some;
        };
        same_fluents = refl;
        same_characters = refl;
        behind = omega (arith, size);
        room = omega (arith, long, x.room);
        laid = x.laid;
        slotted = record { number = x.slotted.number + 1; rows = omega (arith, x.free); counted = let z : h.stride * (x.slotted.number + 1) ≡ slot = omega (arith, x.free) in ap (λ (q : ℕ). get_or now q 0) z; before = omega (arith, x.free) };
        free = omega (arith, x.free);
      }

  -- a step into the first free slot
  module _ (root : ℕ) {now : List ℕ} {K a : ℕ} {r : Bool} (y : Advanced th K h (meaning C T root) a t was now slot r) (f : Free h slot 1) (long : length now ≡ length was) where
    module _ (e : r ≡ true) where
      abbrev pub next_table : List Node
      next_table = table_of (slot_table h now slot) now

      left : Left (y.plays e).0 t now slot
      left = (y.plays e).2

      starts : Starts C (y.plays e).0 next_table
      starts =
          subst (λ (w : ℕ). Starts C (y.plays e).0 (rows_at now w h.fluents h.characters (slot + 1) (get_or now slot 0))) (sym x.tabled.fits.wide ∙ ap (λ (k : ℕ). k + t.characters) (sym x.same_fluents) ∙ ap (λ (k : ℕ). h.fluents + k) (sym x.same_characters))
          (subst (λ (k : ℕ). Starts C (y.plays e).0 (rows_at now t.width h.fluents k (slot + 1) (get_or now slot 0))) (sym x.same_characters)
          (subst (λ (k : ℕ). Starts C (y.plays e).0 (rows_at now t.width k C (slot + 1) (get_or now slot 0))) (sym x.same_fluents) left.starts))

      pub next_written : Written h.characters next_table
      next_written = subst (λ (c : ℕ). Written c next_table) (sym x.same_characters) starts.0

      pub next_state : meaning h.characters next_table 0 ≡ (y.plays e).0
      next_state = ap (λ (c : ℕ). meaning c next_table 0) x.same_characters ∙ starts.1

      pub next_plays : Plays th (meaning C T root) a (meaning h.characters next_table 0)
      next_plays = subst (Plays th (meaning C T root) a) (sym next_state) (y.plays e).1

      pub next_stage : Stage th next_table pack places h now (slot_table h now slot) (slot + h.stride)
      next_stage = stage_next f long left.few (omega (arith, some next_table starts.0.ordered.whole, rows_length now (h.fluents + h.characters) h.fluents h.characters (slot + 1) (get_or now slot 0))) next_written.ordered.closed

-- a step, known or made
module _ {th : Theory} {T : List Node} {pack places : List ℕ} {h : Context} {was : List ℕ} {t : Table} {slot : ℕ} (x : Stage th T pack places h was t slot) (f : Free h slot 1) (root : ℕ) where
  bound : slot ≤ h.memory
  bound = omega (arith, f)

  -- the state of the row, where the table's bytes stay
  row-state : (now : List ℕ) → Below was now slot → state_of t now root ≡ meaning t.characters T root
  row-state now low = ap (λ (U : List Node). meaning t.characters U root) (rows_same was now t.width t.fluents t.characters t.rows t.rows t.nodes (omega (arith, x.tabled.fits.wide)) (λ q l. low (t.rows + q) (omega (arith, x.behind, l)))) ∙ stage_state x root

  -- rows over a pack's counts and over a table's
  abbrev rows_by : List ℕ → (w f c : ℕ) → List Node
  rows_by now w f c = rows_at now w f c (slot + 1) (get_or now slot 0)

  same_rows : (now : List ℕ) → rows_by now (h.fluents + h.characters) h.fluents h.characters ≡ rows_by now t.width t.fluents t.characters
  same_rows now = ap (λ (f : ℕ). rows_by now (f + h.characters) f h.characters) x.same_fluents ∙ ap (λ (c : ℕ). rows_by now (t.fluents + c) t.fluents c) x.same_characters ∙ ap (λ (w : ℕ). rows_by now w t.fluents t.characters) x.tabled.fits.wide

  -- it is known
  module _ {K : ℕ} {mid : List ℕ} {id next a at : ℕ} (n : Interning h t was mid id) (long : length mid ≡ length was) (read : StepRead mid at id root a) (place : Place (h.lists / 2) (steps_at h) 4 at) (e : get_or mid (at + 3) 0 ≡ next) (m : Memory th K h slot was) where
    abbrev mid_memory : Memory th K h slot mid × (0 < id → HasId h mid t id)
    mid_memory = n.told th K slot (omega (arith, bound)) x.slotted m

    pub known_fact : StepFact th h mid id root a next
    known_fact =
        subst (λ (k : ℕ). StepFact th h mid k root a next) read.read
        (subst (λ (k : ℕ). StepFact th h mid (get_or mid at 0) k a next) read.row
        (subst (λ (k : ℕ). StepFact th h mid (get_or mid at 0) (get_or mid (at + 1) 0) k next) read.acted
        (subst (λ (k : ℕ). StepFact th h mid (get_or mid at 0) (get_or mid (at + 1) 0) (get_or mid (at + 2) 0) k) e
        (subst (λ (a : ℕ). StepEntry th h mid a) (sym place.is) (mid_memory.0.steps (unspent h (mid_memory.1 read.some)) place.number place.few) (omega (arith, read.read, read.some))))))

    known_state : state_of (kept_table h mid id) mid root ≡ meaning t.characters T root
    known_state = named_state h (before_now h long (stage_before x bound)) (mid_memory.1 read.some) root ∙ row-state mid (λ q l. n.only.low q (omega (arith, l, bound)))

    pub step_again : {now : List ℕ} {r : Bool} → Again h next slot mid now r → Advanced th K h (meaning t.characters T root) a t was now slot r
    step_again {now} y = record {
      plays = λ z.
          let (some, table, few) = y.played z in
          let (k, (s, plays, starts)) = known_fact.left some in
          (s, subst (λ (u : State). Plays th u a s) known_state plays, record { few = few; starts = subst (λ (c : ℕ). Starts c s (rows_by now t.width t.fluents t.characters)) x.same_characters (subst (Starts h.characters s) (sym table ∙ same_rows now) starts) });
      none = λ z s plays. known_fact.none (y.refused z) s (subst (λ (u : State). Plays th u a s) (sym known_state) plays);
      low = λ q l. y.low q l ∙ n.only.low q (omega (arith, l, bound));
      high = λ q l. y.high q l ∙ n.only.high q l;
      memory = (y.memory th K mid_memory.0).0;
      further = (y.memory th K mid_memory.0).1;
    }

  -- it is made
  module _ {K : ℕ} {mid left : List ℕ} {a r : ℕ} (o : Only h was mid) (before : Memory th K h slot mid) (y : PlayedIn th (meaning t.characters T root) a t mid left slot r) (long : length left ≡ length was) where
    left_low : Below was left slot
    left_low q l = y.only.low q l ∙ o.low q (omega (arith, l, bound))

    left_high : Above was left work_room
    left_high q l = y.only.high q (omega (arith, l)) ∙ o.high q l

    left_in : InSlot h left t slot
    left_in = record { number = x.slotted.number; rows = x.slotted.rows; counted = left_low (h.stride * x.slotted.number) (omega (arith, x.free)) ∙ x.slotted.counted; before = x.slotted.before }

    -- the memory lies behind the slot and before the scratch
    left_mid : (q : ℕ) → h.memory ≤ q → q < scratch_at → get_or left q 0 ≡ get_or mid q 0
    left_mid q l g = y.only.mid q (omega (arith, l, f, x.laid.wide, x.same_fluents, x.same_characters, x.tabled.fits.wide)) g

    left_memory : Memory th K h slot left
    left_memory = memory_apart h y.only.low left_mid before

    -- what it leaves stays where only the memory changes
    left_stays : {now : List ℕ} → Only h left now → r ≡ 0 → (s : State) × Plays th (meaning t.characters T root) a s × Left s t now slot
    left_stays {now} only e =
        let (s, plays, l) = y.plays e in
        let most : get_or left slot 0 * t.width ≤ 32 * t.width = mul-le-mul_right t.width l.few in
        let count : get_or now slot 0 ≡ get_or left slot 0 = only.low slot (omega (arith, f)) in
        let same : rows_by now t.width t.fluents t.characters ≡ rows_by left t.width t.fluents t.characters = ap (λ (k : ℕ). rows_at now t.width t.fluents t.characters (slot + 1) k) count ∙ rows_same left now t.width t.fluents t.characters (slot + 1) (slot + 1) (get_or left slot 0) (omega (arith, x.tabled.fits.wide)) (λ q g. only.low (slot + 1 + q) (omega (arith, g, most, f, x.laid.wide, x.same_fluents, x.same_characters, x.tabled.fits.wide))) in
        (s, plays, record { few = omega (arith, count, l.few); starts = subst (Starts t.characters s) (sym same) l.starts })

    -- it is noted
    pub step_left : {now : List ℕ} {ok : Bool} → r ≡ 0 → ok ≡ true → LeftNoted h t root a slot left now → Advanced th K h (meaning t.characters T root) a t was now slot ok
    step_left {now} e is z =
        let (s, plays, l) = y.plays e in
        let starts : Starts h.characters s (table_of (slot_table h left slot) left) = subst (λ (c : ℕ). Starts c s (table_of (slot_table h left slot) left)) (sym x.same_characters) (subst (Starts t.characters s) (sym (same_rows left)) l.starts) in
        let memory = z.memory th K left_in left_memory (s, subst (λ (u : State). Plays th u a s) (sym (row-state left left_low)) plays, starts) in
        record {
          plays = λ _. left_stays z.only e;
          none = λ n. set_not (sym is ∙ n);
          low = λ q l. z.only.low q (omega (arith, l, bound)) ∙ left_low q l;
          high = λ q l. z.only.high q l ∙ left_high q l;
          memory = memory_fewer h (omega arith) memory;
          further = λ _. memory;
        }

    -- that it does not play is noted
    pub step_refused : {now : List ℕ} {ok : Bool} → r ≢ 0 → ok ≡ false → Noted h t root a 0 left now → Advanced th K h (meaning t.characters T root) a t was now slot ok
    step_refused e is z = record {
      plays = λ g. set_not (sym g ∙ is);
      none = λ _ s plays. plays_refuses plays (y.refuses e);
      low = λ q l. z.only.low q (omega (arith, l, bound)) ∙ left_low q l;
      high = λ q l. z.only.high q l ∙ left_high q l;
      memory = z.memory th K slot (omega (arith, bound)) left_in left_memory (λ k named. record {
        kept = named.kept;
        none = λ _ s plays. plays_refuses (subst (λ (u : State). Plays th u a s) (named_state h (record { laid = x.laid; fluents = x.same_fluents; characters = x.same_characters; wide = x.tabled.fits.wide; narrow = omega (arith, small x.tabled, x.tabled.fits.wide); few = x.tabled.few; before = omega (arith, x.behind, bound); room = omega (arith, long, x.room) }) named root ∙ row-state left left_low) plays) (y.refuses e);
        left = λ g. absurd (omega (arith, g));
      });
      further = λ g. set_not (sym g ∙ is);
    }

    -- it is not noted
    pub step_plain : {ok : Bool} → (ok ≡ true → r ≡ 0) → (ok ≡ false → r ≢ 0) → (s : Slot h left slot) → Advanced th K h (meaning t.characters T root) a t was (nameless h s) slot ok
    step_plain yes-is no-is s =
        let only = nameless_only h s in
        let memory = memory_nameless h s left_memory in
        record {
          plays = λ e. left_stays only (yes-is e);
          none = λ e s plays. plays_refuses plays (y.refuses (no-is e));
          low = λ q l. only.low q (omega (arith, l, bound)) ∙ left_low q l;
          high = λ q l. only.high q l ∙ left_high q l;
          memory = memory_fewer h (omega arith) memory;
          further = λ _. memory;
        }

-- What is explained, and what lists reach, by what is found out of their parts
module _ (th : Theory) (K e c base : ℕ) where
  abbrev Reach : ℕ → State → Type 0
  Reach n s = inner.Above th K e c base n s

  -- the state itself is above
  pub reach_here : (n : ℕ) (s : State) → base < utility_to th c s → Reach (suc n) s
  unfolding Leads
  reach_here n s l = ([], omega arith, (s, refl, l))

  pub reach_no_more : (s : State) → (base < utility_to th c s → ⊥) → Reach 1 s → ⊥
  unfolding Leads
  reach_no_more s f ([], l, (s', q, b)) = f (subst (λ (s : State). base < utility_to th c s) (sym q) b)
  reach_no_more s f (x ∷ rest, l, r) = absurd (omega arith)

  -- no way by an action that is the last one and leaves no more than base
  pub by_hopeless : (left x : ℕ) (s : State) → ((u : State) → Plays th s x u → (left ≡ 0) × (condition.utility u (get_or th.utilities (c + 1) []) ≤ base)) → AboveBy th K e c base (suc left) x s → ⊥
  by_hopeless left x s f (u, plays, agreed, r) =
      let (none, low) = f u plays in
      let next : c + 1 ≡ suc c = omega arith in
      let last : suc left ≡ 1 = omega (arith, none) in
      reach_no_more u (λ l. omega (arith, l, ap (λ (k : ℕ). condition.utility u (get_or th.utilities k [])) next, low)) (subst (λ (n : ℕ). Reach n u) last r)

  pub reach_by : (n x : ℕ) (s : State) → AboveBy th K e c base n x s → Reach (suc n) s
  unfolding Leads
  reach_by n x s (t, plays, agreed, (rest, l, (s', leads, b))) = (x ∷ rest, omega arith, (s', (t, plays, agreed, leads), b))

  pub reach_not : (n : ℕ) (s : State) → (base < utility_to th c s → ⊥) → ((x : ℕ) → x < length th.actions → AboveBy th K e c base n x s → ⊥) → Reach (suc n) s → ⊥
  unfolding Leads
  reach_not n s f g ([], l, (s', q, b)) = f (subst (λ (s : State). base < utility_to th c s) (sym q) b)
  reach_not n s f g (x ∷ rest, l, (s', (t, plays, agreed, leads), b)) = g x plays.there (t, plays, agreed, (rest, omega arith, (s', leads, b)))

  -- an action whose step is known
  pub by_from : (n x : ℕ) (s t : State) → Plays th s x t → Agreed th K e c x s → Reach n t → AboveBy th K e c base n x s
  by_from n x s t plays agreed r = (t, plays, agreed, r)

  pub by_to : (n x : ℕ) (s t : State) → Plays th s x t → AboveBy th K e c base n x s → Reach n t
  by_to n x s t plays (u, q, agreed, r) = subst (Reach n) (plays_one q plays) r

-- the explanation by a belief
module _ (th : Theory) (K e c a : ℕ) (b t : State) (base : ℕ) (q : base ≡ utility_to th c b) (plays : Plays th b a t) (k : ℕ) (same : suc k ≡ K) where
  pub explained_from : inner.Above th K e c base (suc k) t → ExplainedBy th K (suc e) c a b
  unfolding ExplainedBy
  explained_from z = (t, plays, subst (λ (v : ℕ). inner.Above th K e c v K t) q (subst (λ (n : ℕ). inner.Above th K e c base n t) same z))

  pub explained_to : ExplainedBy th K (suc e) c a b → inner.Above th K e c base (suc k) t
  unfolding ExplainedBy
  explained_to (u, p, z) = subst (λ (n : ℕ). inner.Above th K e c base n t) (sym same) (subst (λ (v : ℕ). inner.Above th K e c v K t) (sym q) (subst (inner.Above th K e c (utility_to th c b) K) (plays_one p plays) z))

pub explained_plays : (th : Theory) (K e c a : ℕ) (b : State) → ((t : State) → Plays th b a t → ⊥) → ExplainedBy th K e c a b → ⊥
unfolding ExplainedBy
explained_plays th K zero c a b f x = x
explained_plays th K (suc e) c a b f (t, plays, z) = f t plays

pub explained_zero : (th : Theory) (K c a : ℕ) (s : State) → Explained th K 0 c a s → ⊥
unfolding Explained
explained_zero th K c a s x = x

-- Explained is a matter of the belief alone
pub by_belief : (th : Theory) (K e c a : ℕ) (s : State) → Explained th K e c a s → ExplainedBy th K e c a (belief s c)
unfolding Explained ExplainedBy
by_belief th K zero c a s x = x
by_belief th K (suc e) c a s (rest, t, s', l, plays, leads, above) = (t, plays, (rest, l, (s', leads, above)))

pub of_belief : (th : Theory) (K e c a : ℕ) (s : State) → ExplainedBy th K e c a (belief s c) → Explained th K e c a s
unfolding Explained ExplainedBy
of_belief th K zero c a s x = x
of_belief th K (suc e) c a s (t, plays, (rest, l, (s', leads, above))) = (rest, t, s', l, plays, leads, above)

-- consenters one after the other
module _ (th : Theory) (K e who x : ℕ) (s : State) where
  abbrev cs : List ℕ
  cs = (action_of th x).consenters

  abbrev pub Content : ℕ → Type 0
  Content i = Other who (get_or cs i 0) → Explained th K e (get_or cs i 0) x s

  pub agreed_all : {n : ℕ} → length cs ≤ n → ((i : ℕ) → i < n → Content i) → Agreed th K e who x s
  agreed_all l f d m q =
      let (i, li, g) = place cs 0 d m in
      subst (λ (d : ℕ). Explained th K e d x s) g (f i (omega arith) (λ z. q (sym g ∙ z)))

  pub agreed_each : Agreed th K e who x s → (i : ℕ) → i < length cs → Content i
  agreed_each f i l q = f (get_or cs i 0) (stands cs 0 i l) q

  -- of a consenter that is read
  pub content_of : {d i : ℕ} → Agreed th K e who x s → i < length cs → d ≡ get_or cs i 0 → Other who d → Explained th K e d x s
  content_of {d} {i} f l q o = subst (λ (d : ℕ). Explained th K e d x s) (sym q) (agreed_each f i l (λ z. o (q ∙ z)))

  pub content_more : {d i : ℕ} → ((j : ℕ) → j < i → Content j) → d ≡ get_or cs i 0 → (Other who d → Explained th K e d x s) → (j : ℕ) → j < i + 1 → Content j
  content_more {d} {i} f q g = below_more Content i f (λ o. subst (λ (d : ℕ). Explained th K e d x s) q (g (λ z. o (sym q ∙ z))))

-- what is read after one another keeps a property
runs_each : {S A : Type 0} (p : S → Reader A) (next : S → A → S) (P : A → Type 0) (s : List ℕ) → ((z : S) (at : ℕ) (a : A) (n : ℕ) → p z s at ≡ done a n → P a)
    → (k : ℕ) (z : S) (at : ℕ) (xs : List A) (n : ℕ) → runs p next z k s at ≡ done xs n → (y : A) (i : ℕ) → i < length xs → P (get_or xs i y)
unfolding runs
runs_each p next P s f zero z at xs n e y i l = let q = Rattle.pack.specs.Laws.Reading.same_value e in absurd (omega (arith, ap length q))
runs_each {A = A} p next P s f (suc k) z at xs n e y i l =
    let b = both (p z s at) (λ a n. mapped (λ rest. a ∷ rest) (runs p next (next z a) k s n)) xs n e in
    let u = unmapped (λ rest. b.value ∷ rest) (runs p next (next z b.value) k s b.place) xs n b.right in
    go i l b.value u.value u.right (f z at b.value b.place b.left) (λ j h. runs_each p next P s f k (next z b.value) b.place u.value n u.left y j h)
  where
    go : (i : ℕ) → i < length xs → (a : A) (l : List A) → a ∷ l ≡ xs → P a → ((j : ℕ) → j < length l → P (get_or l j y)) → P (get_or xs i y)
    go zero h a l e pa f = subst (λ (xs : List A). P (get_or xs 0 y)) e pa
    go (suc i) h a l e pa f = subst (λ (xs : List A). P (get_or xs (suc i) y)) e (f i (omega (arith, ap length e)))

-- each consenter is a character
pub consenter_below : (d : Dimensions) (s : List ℕ) (at : ℕ) (cs : List ℕ) (n : ℕ) → consenters_at d s at ≡ done cs n → (i : ℕ) → i < length cs → get_or cs i 0 < d.characters
unfolding consenters_at rising_at
consenter_below d s at cs n e i l =
    let b = both (between 0 7 3 s at) _ cs n e in
    runs_each (rising_at d.characters) (λ least v. v + 1) (λ v. v < d.characters) s
    (λ z at a n e. let c = both (item d.characters s at) (λ v n. pick (ltb v z) (refused 6 at) (done v n)) a n e in
    let (low, g) = failed (ltb c.value z) 6 at (done c.value c.place) a n c.right in
    omega (arith, between_within 0 d.characters 4 s at c.value c.place c.left, Rattle.pack.specs.Laws.Reading.same_value g))
    b.value 0 b.place cs n b.right 0 i l

-- fewer slots are free where more are
pub free_fewer : (h : Context) (slot n m : ℕ) → m ≤ n → Free h slot n → Free h slot m
free_fewer h slot n m l f = omega (arith, f, mul-le-mul_right h.stride l)

-- one fewer from the next slot on
pub free_next : (h : Context) (n left more : ℕ) → Free h (n * h.stride) (2 + left + more) → Free h ((n + 1) * h.stride) (1 + left + more)
free_next h n left more f = omega (arith, f)

pub one_less : (k e : ℕ) → 0 < e → k * e ≡ k * (e - 1) + k
one_less k e l = let s : e ≡ suc (e - 1) = omega arith in ap (λ (e : ℕ). k * e) s ∙ mul-suc k (e - 1)

-- slots for a state and its explanation: for the state, the belief and a step; from the belief on; up to the belief's; for
-- a step, and for what follows it
pub free_two : (h : Context) (slot : ℕ) {k e : ℕ} → 0 < k → 0 < e → Free h slot (1 + (1 + k) * e) → Free h slot 2
free_two h slot {k} {e} some l f = free_fewer h slot (1 + (1 + k) * e) 2 (omega (arith, one_less (1 + k) e l, some)) f

pub free_held : (h : Context) (slot : ℕ) {at : ℕ} (n : ℕ) → at ≤ slot + h.stride → Free h slot (1 + n) → Free h at n
free_held h slot n l f = omega (arith, l, f)

module _ (h : Context) (slot : ℕ) {k e : ℕ} (some : 0 < k) (l : 0 < e) (f : Free h slot ((1 + k) * e)) where
  pub held_step : Free h (slot + h.stride) 1
  held_step = omega (arith, free_fewer h slot ((1 + k) * e) 2 (omega (arith, one_less (1 + k) e l, some)) f)

  pub within : slot + h.stride ≤ h.memory
  within = omega (arith, held_step)

  pub held_rest : Free h (slot + h.stride) (1 + (k - 1) + (1 + k) * (e - 1))
  held_rest = omega (arith, free_fewer h slot ((1 + k) * e) (2 + (k - 1) + (1 + k) * (e - 1)) (omega (arith, one_less (1 + k) e l, some)) f)

-- the row that a character believes in, and the consenters of an action
module _ {th : Theory} {T : List Node} {pack places : List ℕ} {h : Context} {was : List ℕ} {t : Table} {slot : ℕ} (x : Stage th T pack places h was t slot) where
  pub stage_believed : {q : ℕ} (root c : ℕ) → root < t.nodes → c < t.characters → get_or was (t.rows + root * t.width + t.fluents + c) 0 ≡ q → (belief (meaning t.characters T root) c ≡ meaning t.characters T q) × (q < t.nodes)
  stage_believed {q} root c i l e =
      let is : q ≡ target T root c = sym e ∙ belief_is x.tabled root c i l in
      (belief_in t.characters T root c l ∙ ap (meaning t.characters T) (sym is), omega (arith, is, inside_table x.tabled root c i l))

  module _ (a : ℕ) (l : a < h.actions) where
    abbrev pub consenters_of : List ℕ
    consenters_of = (action_of th a).consenters

    stand : Gives (consenters_at (dims th.characters th.domains)) pack (get_or places (9 * a + 2) 0) consenters_of
    stand = (x.theorized.found.action a l nothing).consenters

    pub consent_readable : Readable consenters_at pack (get_or places (9 * a + 2) 0)
    consent_readable = record { over = dims th.characters th.domains; small = x.theorized.small; value = consenters_of; end = stand.end; reads = stand.reads }

    pub consent_count : {r : ℕ} → ((d : Dimensions) → Small d → (cs : List ℕ) (n : ℕ) → consenters_at d pack (get_or places (9 * a + 2) 0) ≡ done cs n → r ≡ length cs) → (r ≡ length consenters_of) × (r ≡ get_or pack (get_or places (9 * a + 2) 0) 0)
    consent_count f =
        let e = f (dims th.characters th.domains) x.theorized.small consenters_of stand.end stand.reads in
        (e, e ∙ (consenter_bytes (dims th.characters th.domains) x.theorized.small pack (get_or places (9 * a + 2) 0) consenters_of stand.end stand.reads).long)

    pub consent_each : {r i : ℕ} → i < length consenters_of → ((d : Dimensions) → Small d → (cs : List ℕ) (n : ℕ) → consenters_at d pack (get_or places (9 * a + 2) 0) ≡ done cs n → r ≡ get_or cs i 0) → (r ≡ get_or consenters_of i 0) × (r < t.characters)
    consent_each {r} {i} li f =
        let e = f (dims th.characters th.domains) x.theorized.small consenters_of stand.end stand.reads in
        (e, omega (arith, e, consenter_below (dims th.characters th.domains) pack (get_or places (9 * a + 2) 0) consenters_of stand.end stand.reads i li, x.tabled.over.characters))

-- of the table that was read
pub table_stage : {t t' : Table} → t ≡ t' → {th : Theory} {T : List Node} {pack places : List ℕ} {h : Context} {work : List ℕ} {free : ℕ} → Stage th T pack places h work t' free → Stage th T pack places h work t free
table_stage e {th} {T} {pack} {places} {h} {work} {free} x = subst (λ (t : Table). Stage th T pack places h work t free) (sym e) x

-- rules judged in it
pub rules_in : (pack : List ℕ) (at : ℕ) (was : List ℕ) (root : ℕ) {t t' : Table} → t ≡ t' → Judged rules_at pack at t' was root → Judged rules_at pack at t was root
rules_in pack at was root e j = subst (λ (t : Table). Judged rules_at pack at t was root) (sym e) j

abbrev pub UtilityIs : (pack : List ℕ) (at : ℕ) (was : List ℕ) (root r : ℕ) → Table → Type 0
UtilityIs pack at was root r t = (d : Dimensions) → Over d t → (rules : List Rule) (n : ℕ) → rules_at d pack at ≡ done rules n → r ≡ condition.utility (state_of t was root) rules

pub utility_in : (pack : List ℕ) (at : ℕ) (was : List ℕ) (root r : ℕ) {t t' : Table} → t ≡ t' → UtilityIs pack at was root r t → UtilityIs pack at was root r t'
utility_in pack at was root r e f = subst (UtilityIs pack at was root r) e f

-- the table in a slot stays where its bytes do
pub slot_same : {th : Theory} {T : List Node} {pack places : List ℕ} {h : Context} {was now : List ℕ} (slot : ℕ) → Stage th T pack places h was (slot_table h was slot) (slot + h.stride) → Below was now (slot + h.stride) → length now ≡ length was
    → Stage th T pack places h now (slot_table h now slot) (slot + h.stride)
slot_same {th} {T} {pack} {places} {h} {was} {now} slot x low long =
    subst (λ (n : ℕ). Stage th T pack places h now (counted h slot n) (slot + h.stride)) (sym (low slot (omega arith))) (stage_same x low long)

-- a table takes no more than its slot
pub stage_extent : {th : Theory} {T : List Node} {pack places : List ℕ} {h : Context} {work : List ℕ} (slot : ℕ) {free : ℕ} → Stage th T pack places h work (slot_table h work slot) free → 1 + get_or work slot 0 * (h.fluents + h.characters) ≤ h.stride
stage_extent {h = h} {work = work} slot x = let most : get_or work slot 0 * (h.fluents + h.characters) ≤ 32 * (h.fluents + h.characters) = mul-le-mul_right (h.fluents + h.characters) x.tabled.few in omega (arith, most, x.laid.wide)

-- what is known of a state, by its table
module _ {th : Theory} {T : List Node} {pack places : List ℕ} {h : Context} {work : List ℕ} {t : Table} {slot : ℕ} (x : Stage th T pack places h work t slot) where
  here : state_of t work ≡ meaning t.characters T
  here = rows_mean t.characters x.tabled.same

  pub known : {K m : ℕ} {k k' : Key} → k ≡ k' → Fact th K m k (state_of t work) → Fact th K m k' (meaning t.characters T)
  known {K} e f = fact_same th K refl e here f

  pub note : {K m : ℕ} {k k' : Key} → k ≡ k' → Fact th K m k' (meaning t.characters T) → Fact th K m k (state_of t work)
  note {K} e f = fact_same th K refl (sym e) (sym here) f

-- what is said of a deed or of lists, as the memory marks it
pub verdict : (th : Theory) (K : ℕ) (k : Key) (s : ℕ → State) {r : Bool} → (r ≡ true → ExplainedBy th K k.nesting k.who k.number (s k.base)) → (r ≡ false → ExplainedBy th K k.nesting k.who k.number (s k.base) → ⊥) → Fact th K (mark_of (knows.Explained r)) k s
verdict th K k s {r = true} f g = record { no = λ z. absurd (omega (arith, z)); yes = λ z. absurd (omega (arith, z)); none = λ z. absurd (omega (arith, z)); unexplained = λ z. absurd (omega (arith, z)); explained = λ _. f refl }
verdict th K k s {r = false} f g = record { no = λ z. absurd (omega (arith, z)); yes = λ z. absurd (omega (arith, z)); none = λ z. absurd (omega (arith, z)); unexplained = λ _. g refl; explained = λ z. absurd (omega (arith, z)) }

pub reached : (th : Theory) (K : ℕ) (k : Key) (s : ℕ → State) {r : Bool} → (r ≡ true → inner.Above th K k.nesting k.who k.base (suc k.number) (s 0)) → (r ≡ false → inner.Above th K k.nesting k.who k.base (suc k.number) (s 0) → ⊥) → Fact th K (mark_of (knows.Reached r)) k s
reached th K k s {r = true} f g = record { no = λ z. absurd (omega (arith, z)); yes = λ _. f refl; none = λ z. absurd (omega (arith, z)); unexplained = λ z. absurd (omega (arith, z)); explained = λ z. absurd (omega (arith, z)) }
reached th K k s {r = false} f g = record { no = λ _. g refl; yes = λ z. absurd (omega (arith, z)); none = λ z. absurd (omega (arith, z)); unexplained = λ z. absurd (omega (arith, z)); explained = λ z. absurd (omega (arith, z)) }

-- and read there
pub marked_as : {m : ℕ} {o : Option Known} {k k' : Known} → o ≡ Some k → k ≡ k' → Marks m o → mark_of k' ≡ m
marked_as {m} {o} {k} is same marks = ap mark_of (sym same) ∙ MatchOption-at_some ((k : Known) → mark_of k ≢ m) (λ (k : Known). mark_of k ≡ m) k is marks

module _ {th : Theory} {K m : ℕ} {k : Key} {s : ℕ → State} (fact : Fact th K m k s) {M : List ℕ → Type 0} {slot : ℕ} {was now : List ℕ} (low : Below was now slot) (high : Above was now work_room) (memory : M now) where
  pub told_verdict : {r : Bool} → mark_of (knows.Explained r) ≡ m → Told M slot was now r (ExplainedBy th K k.nesting k.who k.number (s k.base))
  told_verdict e = record { sound = λ z. fact.explained (sym e ∙ ap (λ (b : Bool). pick b 5 4) z); complete = λ z. fact.unexplained (sym e ∙ ap (λ (b : Bool). pick b 5 4) z); low = low; high = high; memory = memory }

  pub told_reached : {r : Bool} → mark_of (knows.Reached r) ≡ m → Told M slot was now r (inner.Above th K k.nesting k.who k.base (suc k.number) (s 0))
  told_reached e = record { sound = λ z. fact.yes (sym e ∙ ap (λ (b : Bool). pick b 2 1) z); complete = λ z. fact.no (sym e ∙ ap (λ (b : Bool). pick b 2 1) z); low = low; high = high; memory = memory }

-- a state that is not above itself, by what follows it
module _ (th : Theory) (K e c base left : ℕ) (s : ℕ → State) (some : 0 < left) (here : base < utility_to th c (s 0) → ⊥) {M : List ℕ → Type 0} {slot : ℕ} {was now : List ℕ} {r : Bool} (told : Told M slot was now r (AboveBySome th K e c base (suc (left - 1)) (s 0))) where
  up : suc (suc (left - 1)) ≡ suc left
  up = omega arith

  pub extended : Told M slot was now r (inner.Above th K e c base (suc left) (s 0))
  extended = record {
    sound = λ z. let (x, by) = told.sound z in subst (λ (n : ℕ). inner.Above th K e c base n (s 0)) up (reach_by th K e c base (suc (left - 1)) x (s 0) by);
    complete = λ z g. reach_not th K e c base (suc (left - 1)) (s 0) here (λ x l by. told.complete z (x, by)) (subst (λ (n : ℕ). inner.Above th K e c base n (s 0)) (sym up) g);
    low = told.low;
    high = told.high;
    memory = told.memory;
  }

  pub noted : Fact th K (mark_of (knows.Reached r)) (record { who = c; nesting = e; number = left; base = base }) s
  noted = reached th K _ s extended.sound extended.complete
