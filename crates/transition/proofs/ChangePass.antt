-- The pass over the slots of a change, row by row. Assumes nothing.
use Prim.Native.Nat.{ℕ, suc, ◌+◌, ◌*◌, ◌<◌, ◌≤◌, max}
use mathlib.Core.Path.{◌≡◌, refl, sym, ap, ◌∙◌, subst}
use mathlib.Core.List.{List}
use native.Mathlib.Omega.{arith}
use lib.ListN.{length, get_or}
use Rattle.pack.specs.Duties.Table.{Below, Above}
use Rattle.pack.specs.declared.table.Table.{Table}
use Rattle.chart.specs.Duties.Numbers.{Numbering, Named, Given, key_at}
use Rattle.chart.specs.Laws.Cells.{row_in}
use Rattle.chart.specs.Laws.Numbering.{few}
use Rattle.chart.specs.Laws.PassRows.{row_filled, Going, going_start, going_row, going_end}
use Rattle.transition.specs.declared.change.Change.{Change}
use Rattle.transition.specs.Happening.{change}
use Rattle.transition.specs.Laws.Changed as changed
use Rattle.transition.specs.Laws.Changed.{Member, acted, There}
use Rattle.transition.specs.Inner.Change.{Scene, Stands, at, tells, next, values_of, member_of, SlotIs, Puts, Laid, RowMade, ChangeMade}
use Rattle.transition.proofs.Effects.{untold_write}

-- how many slots there are
abbrev pub slots_of : Table → ℕ
slots_of t = t.nodes * 7 + 1

module _ {s : Scene} {pack places effects was : List ℕ} {h : Change} {t : Table} (x : Stands s pack places effects h was t) {b u : ℕ} (l : Laid was t b u) where
  -- where row i lies
  pub row_room : {i count : ℕ} → Numbering was b (slots_of t) count → i < count → (i < slots_of t) × (u + i * t.width + t.width ≤ length was) × (t.fluents + t.characters ≤ t.width)
  row_room {i} {count} n g = let e : i < slots_of t = omega (arith, few was b (slots_of t) count n) in (e, omega (arith, row_in (slots_of t) t.width i e, l.room), omega (arith, x.tabled.fits.wide))

  module _ {i count more slot : ℕ} {mid now : List ℕ} (n : Numbering was b (slots_of t) count) (g : i < count) (e : slot ≡ key_at was b (slots_of t) i) (p : Puts s h t (member_of h t.nodes slot) was mid (u + i * t.width))
      (nd : Named mid now b (slots_of t) count more (u + i * t.width + t.fluents) t.characters (λ d. get_or mid (u + i * t.width + t.fluents + d) 0)) where
    pub row_made : RowMade s h t was now b u i count more
    row_made = record {
      wanted = λ d. get_or mid (u + i * t.width + t.fluents + d) 0;
      names = λ d k. (p.slots d k).is ∙ ap (λ (z : ℕ). next s t.characters (member_of h t.nodes z) d) e;
      filled = row_filled t.width (values_of s t.characters (member_of h t.nodes (key_at was b (slots_of t) i))) (λ d. get_or mid (u + i * t.width + t.fluents + d) 0)
          (p.values ∙ ap (λ (z : ℕ). values_of s t.characters (member_of h t.nodes z)) e) p.low (λ q k. p.high q (omega (arith, x.tabled.fits.wide))) nd (λ d k. refl)
          (omega (arith, l.scratch)) (omega (arith, x.tabled.fits.wide)) (few was b (slots_of t) count n);
    }

-- the first number is given to the root having taken part
abbrev pub First : (h : Change) (t : Table) (was : List ℕ) (b : ℕ) → Type 0
First h t was b = member_of h t.nodes (key_at was b (slots_of t) 0) ≡ acted h.root

module _ (s : Scene) (h : Change) (t : Table) where
  abbrev C : ℕ
  C = t.characters

  abbrev of : ℕ → Member
  of = member_of h t.nodes

  -- rows below i are filled, `count` slots are numbered
  abbrev pub Making : (was now : List ℕ) (b u i count : ℕ) → Type 0
  Making was now b u i count = Going C (There C) (values_of s C) (next s C) of was now b (slots_of t) u t.width t.fluents i count

  silent : changed.Silent s.causes s.takes C s.table (tells s C)
  silent m d e v = untold_write (s.causes (at s C m)) (suc d) e v

  pub making_start : {old was : List ℕ} {b u slot root count : ℕ} → SlotIs h t.nodes (acted h.root) slot → Given old was b (slots_of t) 0 slot root → count ≡ max 0 (suc root) → Making was was b u 0 count × First h t was b
  making_start {was = was} {b} {u} {slot} {root} {count} i g e =
      let one : max 0 (suc root) ≡ 1 = omega (arith, g.next) in
      let zero : root ≡ 0 = omega (arith, g.next) in
      let first : First h t was b = subst (λ (r : ℕ). of (key_at was b (slots_of t) r) ≡ acted h.root) zero (ap of g.key ∙ i.is) in
      (rw (e ∙ one) (going_start C (There C) (values_of s C) (next s C) of was b (slots_of t) u t.width t.fluents (subst (λ (k : ℕ). Numbering was b (slots_of t) k) one g.numbering) (subst (There C) (sym first) tt)), first)

  pub making_real : {was now : List ℕ} {b u i count : ℕ} → Making was now b u i count → i < count → There C (of (key_at now b (slots_of t) i))
  making_real g l = g.pass.real _ (omega (arith, g.count_met))

  pub making_row : {was old now : List ℕ} {b u i count more : ℕ} → Laid old t b u → t.fluents + t.characters ≤ t.width → Making was old b u i count → i < count → RowMade s h t old now b u i count more → Making was now b u (i + 1) more
  making_row {was} {old} {now} {b} {u} {i} {count} {more} laid wide g l r =
      going_row C (There C) (values_of s C) (next s C) of was old now b (slots_of t) u t.width t.fluents i count more _ _ laid.scratch wide g l r.filled refl r.names
      (λ d k. (changed.changed s.causes s.takes C s.table (tells s C) silent).real (of (key_at old b (slots_of t) i)) (making_real g l) d k)

  pub making_end : {entry was now : List ℕ} {b u i count : ℕ} → Making was now b u i count → count ≤ i → First h t was b → Below entry was b → Above entry was (b + slots_of t + slots_of t) → b + slots_of t + slots_of t ≤ u → ChangeMade s h t entry now b u count
  making_end {entry} {was} {now} {b} {u} {i} {count} g l first low high after =
      let (ordered, means) = going_end C (There C) (values_of s C) (next s C) of (changed.sem C s.table (change s.causes s.takes)) (changed.changed s.causes s.takes C s.table (tells s C) silent) was now b (slots_of t) u t.width t.fluents i count g l in
      record {
        some = g.some;
        few = g.room;
        ordered = ordered;
        means = means ∙ ap (changed.sem C s.table (change s.causes s.takes)) first;
        low = λ q k. g.low q k ∙ low q k;
        high = λ q k. g.high q k ∙ high q (omega arith);
      }
