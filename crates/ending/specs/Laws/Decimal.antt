-- The digits of a number, read back, are the number. Assumes nothing.
use Rattle.std.specs.Prelude.{ℕ, zero, suc, ◌+◌, ◌-◌, ◌*◌, ◌/◌, ◌%◌, ◌^◌, ◌<◌, ◌≡◌, refl, Bool, true, false, List, []}
use Rattle.std.specs.Prelude.{◌∷◌, ◌++◌, ltb}
use Rattle.std.proofs.Common.{ap, ◌∙◌, div-add-mod', div-lt_iff_lt-mul, arith, ltb-true}
use Rattle.std.proofs.Math.Numerals.{unary_clauses}
use Rattle.pack.specs.Reading.{pick}
use Rattle.ending.specs.Text.{digits}

-- the number that digits stand for, behind one that was read already
abbrev pub value : (before : ℕ) → List ℕ → ℕ
value before [] = before
value before (digit ∷ rest) = value (before * 10 + (digit - 48)) rest

value_more : (before : ℕ) (some : List ℕ) (digit : ℕ)
    → value before (some ++ (digit ∷ [])) ≡ value before some * 10 + (digit - 48)
value_more before [] digit = refl
value_more before (first ∷ some) digit = value_more (before * 10 + (first - 48)) some digit

fewer : (most n : ℕ) → n < 10 ^ suc most → n / 10 < 10 ^ most
fewer most n h =
    (div-lt_iff_lt-mul {k = 10} {x = n} {y = 10 ^ most} (omega arith)).1
    (let h' = simp unary_clauses at h in omega arith)

pub read_back : (most n : ℕ) → n < 10 ^ most → value 0 (digits most n) ≡ n
unfolding digits
read_back zero n h = omega arith
read_back (suc most) n h = at (ltb n 10) refl (read_back most (n / 10) (fewer most n h))
  where
    at : (b : Bool) → ltb n 10 ≡ b → value 0 (digits most (n / 10)) ≡ n / 10
        → value 0 (pick b [] (digits most (n / 10)) ++ ((48 + n % 10) ∷ [])) ≡ n
    at true e rest = omega (arith, ltb-true n 10 e, div-add-mod' n 10)
    at false e rest =
        value_more 0 (digits most (n / 10)) (48 + n % 10) ∙ ap (λ (v : ℕ). v * 10 + (48 + n % 10 - 48)) rest
        ∙ omega (arith, div-add-mod' n 10)
