-- Bytes as one number of 32 bits, each counted so many times as much as the one behind it: what hashes are made of.
-- Assumes nothing.
use Rattle.std.specs.Prelude.{ℕ, zero, suc, ◌+◌, ◌*◌, ◌%◌, ◌<◌, ◌≡◌, refl, List, get_or}
use Rattle.std.proofs.Common.{ap, ◌∙◌, add-one, arith}

-- the n bytes from a on
unfoldable pub sum_of : (factor : ℕ) → List ℕ → (a n : ℕ) → ℕ
sum_of k bytes a zero = 0
sum_of k bytes a (suc n) = (sum_of k bytes a n * k + get_or bytes (a + n) 0) % 4294967296

pub sum_none : (k : ℕ) (bytes : List ℕ) (a : ℕ) → sum_of k bytes a 0 ≡ 0
unfolding sum_of
sum_none k bytes a = refl

-- one byte more
pub sum_more : (k : ℕ) (bytes : List ℕ) (a n : ℕ)
    → sum_of k bytes a (n + 1) ≡ (sum_of k bytes a n * k + get_or bytes (a + n) 0) % 4294967296
unfolding sum_of
sum_more k bytes a n = rw (add-one n)

-- the same bytes have the same sum
pub sum_same : (k : ℕ) (was now : List ℕ) (a b n : ℕ)
    → ((q : ℕ) → q < n → get_or now (b + q) 0 ≡ get_or was (a + q) 0) → sum_of k now b n ≡ sum_of k was a n
unfolding sum_of
sum_same k was now a b zero h = refl
sum_same k was now a b (suc n) h =
    ap (λ (s : ℕ). (s * k + get_or now (b + n) 0) % 4294967296) (sum_same k was now a b n (λ q l. h q (omega arith)))
    ∙ ap (λ (v : ℕ). (sum_of k was a n * k + v) % 4294967296) (h n (omega arith))
