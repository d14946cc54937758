-- A pack's nodes, merged in the first slot. Assumes nothing.
use Prim.Native.Nat.{ℕ, ◌+◌, ◌*◌, ◌<◌, ◌≤◌}
use mathlib.Core.Path.{◌≡◌, sym, ap, ◌∙◌, subst}
use mathlib.Core.List.{List}
use native.Mathlib.Nat.{mul-le-mul_right}
use native.Mathlib.Omega.{arith}
use lib.ListN.{length, get_or, set}
use lib.Seq.{get_or-set_same, get_or-set_other}
use Rattle.pack.specs.Syntax.{Node}
use Rattle.pack.specs.State.{meaning}
use Rattle.pack.specs.Duties.Copy.{TableCopied}
use Rattle.pack.specs.Duties.Table.{rows_at}
use Rattle.chart.specs.Call.{work_room}
use Rattle.chart.specs.Chart.{Starts}
use Rattle.chart.specs.Duties.Put.{Cleared, PartCopied}
use Rattle.chart.specs.Duties.Start.{Merged}
use Rattle.chart.specs.Laws.Cells.{rows_same}
use Rattle.chart.specs.Laws.LoadedNodes.{read_small, read_same, merged_small}
use Rattle.planner.specs.declared.limits.Context.{Context}
use Rattle.planner.specs.Inner.Search.{Laying, LaidStart}
use Rattle.planner.proofs.TrueMemory.{emptied}

module _ {T : List Node} {pack : List ℕ} {first nodes : ℕ} {h : Context} {work : List ℕ} (x : Laying T pack first nodes h work) where
  abbrev f : ℕ
  f = h.fluents

  abbrev C : ℕ
  C = h.characters

  abbrev w : ℕ
  w = f + C

  module _ {mid : List ℕ} (y : TableCopied pack first nodes work mid 0 f C) where
    module _ {mid' : List ℕ} {r : ℕ} (z : Merged mid mid' nodes w f C r) (long : length mid' ≡ length mid) where
      pub merged_size : (r < 256) × (r * w ≤ 960)
      merged_size = (omega (arith, z.few, x.read.few), merged_small x.read z)

      -- it takes no more than its slot
      merged_slot : 1 + r * w ≤ h.memory
      merged_slot = let most : r * w ≤ 32 * w = mul-le-mul_right w (omega (arith, z.few, x.read.few)) in omega (arith, most, x.laid.wide, x.slot)

      -- the memory is emptied
      module _ {now then : List ℕ} (c : PartCopied (set mid' 0 r) now 2400 1 (r * w)) (whole : Cleared now then h.memory (436 + 9 * h.lists)) where
        low : (q : ℕ) → q < h.memory → get_or then q 0 ≡ get_or now q 0
        low = whole.low

        -- what lies behind the work buffer is as it was
        behind : (q : ℕ) → work_room ≤ q → get_or then q 0 ≡ get_or work q 0
        behind q l = whole.high q (omega (arith, l, x.laid.room)) ∙ c.high q (omega (arith, l, merged_size)) ∙ get_or-set_other mid' 0 q r 0 (λ e. omega (arith, e, l)) ∙ z.high q (omega (arith, l)) ∙ y.above q (omega (arith, l, read_small x.read))

        pub lay_done : LaidStart T h work then
        lay_done =
            let count : get_or then 0 0 ≡ r = low 0 (omega (arith, merged_slot)) ∙ c.low 0 (omega arith) ∙ get_or-set_same mid' 0 r 0 (omega (arith, long, y.long, x.room)) in
            let rows : rows_at then w f C 1 r ≡ rows_at mid' w f C 2400 r = rows_same mid' then w f C 2400 1 r (omega arith) (λ q l. low (1 + q) (omega (arith, l, merged_slot)) ∙ c.part q l ∙ get_or-set_other mid' 0 (2400 + q) r 0 (λ e. omega (arith, e))) in
            let start : Starts C (meaning C T 0) (rows_at mid' w f C 2400 r) = (z.starts.0, z.starts.1 ∙ ap (λ (t : List Node). meaning C t 0) (read_same x.read y)) in
            record {
              few = omega (arith, count, z.few, x.read.few);
              starts = subst (λ (n : ℕ). Starts C (meaning C T 0) (rows_at then w f C 1 n)) (sym count) (subst (Starts C (meaning C T 0)) (sym rows) start);
              empty = emptied h whole;
              high = behind;
            }
