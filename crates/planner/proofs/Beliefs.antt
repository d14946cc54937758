-- What a character believes, laid out as a table of its own. Assumes nothing.
use Prim.Native.Nat.{ℕ, ◌+◌, ◌*◌, ◌<◌, ◌≤◌}
use mathlib.Core.Path.{◌≡◌, refl, sym, ap, ◌∙◌, subst}
use mathlib.Core.List.{List}
use native.Mathlib.Nat.{mul-le-mul_right}
use native.Mathlib.Omega.{arith}
use lib.ListN.{length, get_or, set, length-set}
use lib.Seq.{get_or-set_same, get_or-set_other}
use Rattle.pack.specs.Syntax.{Node, Theory}
use Rattle.pack.specs.State.{State, meaning, Closed}
use Rattle.pack.specs.Duties.Table.{rows_at, table_of}
use Rattle.chart.specs.Duties.Numbers.{Laid, Sound, Copied}
use Rattle.chart.specs.Duties.Put.{PartCopied}
use Rattle.chart.specs.Laws.Cells.{rows_same}
use Rattle.transition.specs.Duties.Stage.{scratch_at}
use Rattle.transition.specs.Laws.ChangedRows.{belief_is, belief_in}
use Rattle.planner.specs.declared.limits.Context.{Context}
use Rattle.planner.specs.Inner.Lists.{slot_table}
use Rattle.planner.specs.Inner.Memory.{id_at, Memory, Slot}
use Rattle.planner.specs.Inner.Explain.{Stage, Free, BeliefAt}
use Rattle.planner.proofs.TrueMemory.{memory_apart, nameless, nameless_only, memory_nameless}
use Rattle.planner.proofs.Explanations.{stage_next, stage_slot, stage_same}

module _ {th : Theory} {T : List Node} {pack places : List ℕ} {h : Context} {was : List ℕ} (slot : ℕ) (x : Stage th T pack places h was (slot_table h was slot) (slot + h.stride)) (f : Free h slot 2) where
  abbrev n : ℕ
  n = get_or was slot 0

  abbrev w : ℕ
  w = h.fluents + h.characters

  abbrev next : ℕ
  next = slot + h.stride

  pub next_free : Free h next 1
  next_free = omega (arith, f)

  -- so many rows take at most 960 bytes
  rows_few : (k : ℕ) → k ≤ 32 → (k * w ≤ 960) × (1 + k * w ≤ h.stride)
  rows_few k l =
      let most : k * w ≤ 32 * w = mul-le-mul_right w l in
      (omega (arith, most, x.laid.narrow), omega (arith, most, x.laid.wide))

  pub belief_laid : Laid was n w h.fluents h.characters (slot + 1) 40304 40756
  belief_laid =
      let (size, _) = rows_few n x.tabled.few in
      record { few = omega (arith, x.tabled.few); wide = omega arith; source = omega (arith, x.behind, f, x.laid.room); scratch = omega (arith, x.tabled.few); target = omega (arith, size, x.room) }

  pub belief_sound : Sound was n w h.fluents h.characters (slot + 1)
  belief_sound = record { beliefs = λ i k l g. omega (arith, belief_is x.tabled i k l g, belief_in x.tabled i k l g) }

  module _ {row : ℕ} {mid : List ℕ} {r : ℕ} (c : Copied was mid n w h.fluents h.characters (slot + 1) 40304 40756 row r) (long : length mid ≡ length was) where
    abbrev counted : List ℕ
    counted = set mid next r

    few : r ≤ 32
    few = omega (arith, c.few, x.tabled.few)

    module _ {part : List ℕ} (pc : PartCopied counted part 40756 (next + 1) (r * w)) (long' : length part ≡ length mid) where
      part_low : (q : ℕ) → q < next → get_or part q 0 ≡ get_or was q 0
      part_low q l = pc.low q (omega (arith, l)) ∙ get_or-set_other mid next q r 0 (λ z. omega (arith, z, l)) ∙ c.low q (omega (arith, l, f, x.laid.room))

      -- the memory lies behind the slot and before the scratch
      part_mid : (q : ℕ) → next + h.stride ≤ q → q < scratch_at → get_or part q 0 ≡ get_or was q 0
      part_mid q l g = pc.high q (omega (arith, l, rows_few r few)) ∙ get_or-set_other mid next q r 0 (λ z. omega (arith, z, l, x.laid.some)) ∙ c.low q (omega (arith, g))

      part_high : (q : ℕ) → 49152 ≤ q → get_or part q 0 ≡ get_or was q 0
      part_high q l = pc.high q (omega (arith, l, rows_few r few, f, x.laid.room)) ∙ get_or-set_other mid next q r 0 (λ z. omega (arith, z, l, f, x.laid.room)) ∙ c.high q (omega (arith, l, rows_few n x.tabled.few))

      pub part_slot : Slot h part next
      part_slot = stage_slot (stage_same x part_low (long' ∙ long)) next_free

      abbrev now : List ℕ
      now = nameless h part_slot

      now_slot : (q : ℕ) → q < h.memory → get_or now q 0 ≡ get_or part q 0
      now_slot q l = (nameless_only h part_slot).low q l

      count : get_or now next 0 ≡ r
      count = now_slot next (omega (arith, f, x.laid.some)) ∙ pc.low next (omega arith) ∙ get_or-set_same mid next r 0 (omega (arith, f, x.laid.room, long, x.room))

      table_is : table_of (slot_table h now next) now ≡ rows_at mid w h.fluents h.characters 40756 r
      table_is =
          ap (λ (k : ℕ). rows_at now w h.fluents h.characters (next + 1) k) count
          ∙ rows_same mid now w h.fluents h.characters 40756 (next + 1) r (omega arith)
          (λ q l. now_slot (next + 1 + q) (omega (arith, l, rows_few r few, f)) ∙ pc.part q l ∙ get_or-set_other mid next (40756 + q) r 0 (λ z. omega (arith, z, f, x.laid.room)))

      memory : {K : ℕ} → Memory th K h next was → Memory th K h (next + h.stride) now
      memory m = memory_nameless h part_slot (memory_apart h part_low (λ q l. part_mid q (omega (arith, l, f))) m)

      pub belief-at : {K : ℕ} → Memory th K h next was → BeliefAt th K h pack places (meaning h.characters T row) was now slot next 0
      belief-at m = record {
        rows = table_of (slot_table h now next) now;
        stage = stage_next x next_free (length-set part (id_at h (next + 1)) 0 ∙ long' ∙ long) (omega (arith, count, few)) (omega (arith, count, c.some)) (subst (Closed h.characters) (sym table_is) c.ordered.closed);
        inside = omega (arith, count, c.some);
        means = ap (λ (t : List Node). meaning h.characters t 0) table_is ∙ c.means ∙ ap (λ (t : List Node). meaning h.characters t row) x.tabled.same;
        from = omega arith;
        to = omega arith;
        low = λ q l. now_slot q (omega (arith, l, f)) ∙ part_low q l;
        high = λ q l. (nameless_only h part_slot).high q l ∙ part_high q l;
        memory = memory m;
      }

  -- a row of the table that it is believed in
  pub belief_here : {K row : ℕ} → row < n → {b : State} → meaning h.characters T row ≡ b → Memory th K h next was → BeliefAt th K h pack places b was was slot slot row
  belief_here {row = row} l e m = record { rows = T; stage = x; inside = l; means = e; from = omega arith; to = omega arith; low = λ q l. refl; high = λ q l. refl; memory = m }
