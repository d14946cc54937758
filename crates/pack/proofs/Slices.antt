-- A slice's bytes are those of what it is a slice of, from its start on. Assumes nothing.
use Prim.Native.Nat.{ℕ, ◌+◌, ◌-◌, ◌<◌, ◌≤◌}
use mathlib.Core.Path.{◌≡◌, ◌∙◌}
use mathlib.Core.List.{List}
use native.Mathlib.Omega.{arith}
use lib.ListN.{length, get_or}
use Rattle.std.proofs.Common.{take, drop, length-drop}
use Rattle.std.proofs.lemmas.List.{get_or-take, get_or-drop, length-take}

-- the slice of n bytes that starts at a place
abbrev pub part : List ℕ → (at n : ℕ) → List ℕ
part s at n = take ((at + n) - at) (drop at s)

pub part_long : (s : List ℕ) (at n : ℕ) → at + n ≤ length s → length (part s at n) ≡ n
part_long s at n h = omega (arith, length-take {A = ℕ}, length-drop {A = ℕ})

pub part_at : (s : List ℕ) (at n i : ℕ) → i < n → get_or (part s at n) i 0 ≡ get_or s (at + i) 0
part_at s at n i h =
    let near : i < (at + n) - at = omega arith in
    get_or-take ((at + n) - at) (drop at s) i 0 near ∙ get_or-drop at s i 0
