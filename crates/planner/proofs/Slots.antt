-- The slots of a call: as many as it wants lie before the memory, and the memory before the scratch. Assumes nothing.
use Prim.Native.Nat.{ℕ, ◌+◌, ◌*◌, ◌-◌, ◌%◌, ◌<◌, ◌≤◌}
use mathlib.Core.Path.{◌≡◌, refl, ap}
use mathlib.Core.Bool.{Bool, true, false}
use mathlib.Core.Logic.{inl, inr, ⊎_elim}
use mathlib.Core.List.{List}
use native.Mathlib.Nat.{mul-le-mul_right, div-add-mod, mod-lt}
use native.Mathlib.Omega.{arith}
use lib.Dec.{ltb}
use lib.ListN.{get_or}
use borrow.Author.Tests.{ltb-false}
use Rattle.pack.specs.Reading.{pick}
use Rattle.pack.specs.declared.contents.Contents.{Contents}
use Rattle.transition.specs.Duties.Stage.{slot_room}
use Rattle.planner.specs.declared.limits.Context.{Context}
use Rattle.planner.specs.declared.limits.Foresight.{Foresight}
use Rattle.planner.specs.Inner.Layout.{entries, room_behind, laid_out}
use Rattle.planner.specs.Inner.Memory.{Sized, Laid}
use Rattle.planner.specs.Inner.Explain.{Free}

-- how many entries there may be
pub sized_bounds : {n : ℕ} → Sized n → (256 ≤ n) × (n ≤ 1024)
sized_bounds s = ⊎_elim (λ e. (omega (arith, e), omega (arith, e))) (λ t. ⊎_elim (λ e. (omega (arith, e), omega (arith, e))) (λ e. (omega (arith, e), omega (arith, e))) t) s

-- how many entries there are, and that tables have room behind them
are : (a b : Bool) → Sized (pick a 256 (pick b 512 1024))
are true b = inl refl
are false true = inr (inl refl)
are false false = inr (inr refl)

fit : (a b : Bool) (room : ℕ) → 11474 ≤ room → (b ≡ false → 24000 ≤ room) → 436 + 9 * pick a 256 (pick b 512 1024) + 255 * 25 ≤ room
fit true b room l g = omega (arith, l)
fit false true room l g = omega (arith, l)
fit false false room l g = omega (arith, g refl)

pub entries_fit : (actions room : ℕ) → 11474 ≤ room → 436 + 9 * entries actions room + 255 * 25 ≤ room
entries_fit actions room l = fit (ltb actions 12) (ltb room 24000) room l (λ e. ltb-false room 24000 e)

module _ (c : Contents) (k : Foresight) (slots : ℕ) where
  abbrev size : ℕ
  size = slot_room (c.domains.fluents + c.characters)

  -- the slots leave room
  pub room_left : (c.characters ≤ 6) × (slots ≤ 30) → 11474 ≤ room_behind c slots
  room_left (characters, few) = omega (arith, c.domains.few, mul-le-mul_right size few)

  pub laid_fits : 0 < c.characters → (c.characters ≤ 6) × (slots ≤ 30) → Laid (laid_out c k slots)
  laid_fits some (characters, few) =
      let fluents = c.domains.few in
      let most : slots * size ≤ 30 * size = mul-le-mul_right size few in
      let room = room_behind c slots in
      let fits = entries_fit c.actions room (room_left (characters, few)) in
      let left = room - 436 - 9 * entries c.actions room in
      let all = div-add-mod left 255 in
      let rest : left % 255 < 255 = mod-lt left (omega arith) in
      record {
        narrow = omega arith;
        wide = omega arith;
        some = omega arith;
        few = omega (arith, most);
        blocks = omega (arith, fits, all, rest);
        entries = are (ltb c.actions 12) (ltb room 24000);
        tabled = refl;
        room = omega (arith, most, fits, all);
      }

  pub laid_free : Free (laid_out c k slots) 0 slots
  laid_free = omega arith

-- the first slot is at the buffer's start
pub first_count : (h : Context) (work : List ℕ) → get_or work (h.stride * 0) 0 ≡ get_or work 0 0
first_count h work = let none : h.stride * 0 ≡ 0 = omega arith in ap (λ (q : ℕ). get_or work q 0) none
