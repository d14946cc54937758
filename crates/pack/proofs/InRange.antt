-- Bytes in range, one for each number, are what is read of a test and of an effect. Assumes nothing.
use Prim.Native.Nat.{ℕ, zero, suc, ◌+◌, ◌-◌, ◌<◌, ◌≤◌}
use mathlib.Core.Path.{◌≡◌, refl, ap, ◌∙◌}
use mathlib.Core.Bool.{Bool, true, false}
use mathlib.Core.List.{List}
use native.Mathlib.Omega.{arith}
use Rattle.std.proofs.Common.{sub-one}
use Rattle.std.specs.Bool.{MatchBool}
use Rattle.std.specs.List.{AllWithin}
use lib.ListN.{length, get_or}
use borrow.Author.Tests.{lt-ltb, le-ltb}
use Rattle.pack.specs.Reading.{done, mapped, many}
use Rattle.pack.specs.Number.{between, item}
use Rattle.pack.specs.Grammar.{test_at, effect_at}
use Rattle.pack.specs.Duties.Said.{forget}
use Rattle.pack.specs.Duties.Answer.{dims, claim_at}
use Rattle.pack.specs.Laws.Accepts.{one}
use Rattle.pack.proofs.Slices.{part, part_long, part_at}
use Rattle.pack.specs.Laws.Runs.{runs_none, many-forget, test_forget, effect_forget}

-- a "no" promises nothing
pub unsaid : {A : Type 0} → false ≡ true → A
unsaid e = let z : ◌≡◌ {A = ℕ} 0 1 = cc in absurd (omega arith)

-- a byte below the limit and below 128 is the number that is read
pub byte_reads : (limit number : ℕ) (s : List ℕ) (at v : ℕ) → at < length s → get_or s at 0 ≡ v → v < limit → v < 128 → between 0 limit number s at ≡ done v (at + 1)
unfolding between
byte_reads limit number s at v l e h k =
    let z : 0 ≤ v = omega arith in
    rw (one s at v l e k, le-ltb v 0 z, lt-ltb v limit h)

-- one character of a chain, and the rest
pub chain_more : (C : ℕ) (s : List ℕ) (n left v : ℕ) → 0 < left → n < length s → get_or s n 0 ≡ v → v < C → v < 128
    → mapped forget (many (item C) left s n) ≡ mapped forget (many (item C) (left - 1) s (n + 1))
chain_more C s n left v h l e i j = rw (many-forget (item C) left s n h, byte_reads C 4 s n v l e i j)

-- a chain whose characters are in range
pub chain_reads : (C : ℕ) (s : List ℕ) (left n : ℕ) → n + left ≤ length s
    → ((k : ℕ) → k < left → (get_or s (n + k) 0 < C) × (get_or s (n + k) 0 < 128))
    → mapped forget (many (item C) left s n) ≡ done tt (n + left)
chain_reads C s zero n l f = runs_none _ _ _ _ _ _ _ (omega arith) ∙ ap (done tt) (omega arith)
chain_reads C s (suc left) n l f =
    let here = f 0 (omega arith) in
    let same : n + 0 ≡ n = omega arith in
    let rest = chain_reads C s left (n + 1) (omega arith) (λ k h. let e : (n + 1) + k ≡ n + (k + 1) = omega arith in let g = f (k + 1) (omega arith) in (rw e g.0, rw e g.1)) in
    chain_more C s n (suc left) (get_or s n 0) (omega arith) (omega arith) refl (rw same at here.0) (rw same at here.1)
    ∙ ap (λ (k : ℕ). mapped forget (many (item C) k s (n + 1))) (sub-one (suc left)) ∙ rest ∙ ap (done tt) (omega arith)

-- what is asked of each byte of a slice holds at each place from its start on
pub each_below : (Q : Type 0) (s : List ℕ) (at n m : ℕ) (r : Bool) → at + n ≤ length s
    → MatchBool r (AllWithin (λ x. x < m) (part s at n) 0 (length (part s at n))) Q
    → r ≡ true → (k : ℕ) → k < n → get_or s (at + k) 0 < m
each_below Q s at n m true l w e k h =
    let found = w k 0 (omega arith) (omega (arith, part_long s at n l)) in
    rw (part_at s at n k h) at found
each_below Q s at n m false l w e k h = unsaid e

-- a fluent and one of its values
pub claim_reads : (domains s : List ℕ) (at f v : ℕ) → at + 1 < length s → get_or s at 0 ≡ f → f < length domains → f < 128 → get_or s (at + 1) 0 ≡ v → v < get_or domains f 0 → v < 128
    → claim_at domains s at ≡ done tt (at + 2)
unfolding claim_at
claim_reads domains s at f v l e h i g j k =
    let m : at < length s = omega arith in
    let two : (at + 1) + 1 ≡ at + 2 = omega arith in
    rw (byte_reads (length domains) 4 s at f m e h i, byte_reads (get_or domains f 0) 4 s (at + 1) v l g j k, two)

-- the length of a chain, the chain, a kind, a fluent and a value
pub test_reads : (C : ℕ) (domains s : List ℕ) (at k n : ℕ) → at < length s → get_or s at 0 ≡ k → k < 5 → mapped forget (many (item C) k s (at + 1)) ≡ done tt n
    → n < length s → get_or s n 0 < 3 → claim_at domains s (n + 1) ≡ done tt (n + 3) → mapped forget (test_at (dims C domains) s at) ≡ done tt (n + 3)
test_reads C domains s at k n l e h chain i kind claim =
    let small : k < 128 = omega arith in
    let low : get_or s n 0 < 128 = omega arith in
    rw (test_forget (dims C domains) s at, byte_reads 5 3 s at k l e h small, chain, byte_reads 3 4 s n (get_or s n 0) i refl kind low, claim)

-- whom an effect is for, a fluent and a value
pub effect_reads : (C : ℕ) (domains s : List ℕ) (at v : ℕ) → at < length s → get_or s at 0 ≡ v → v < C + 1 → v < 128 → claim_at domains s (at + 1) ≡ done tt (at + 3)
    → mapped forget (effect_at (dims C domains) s at) ≡ done tt (at + 3)
effect_reads C domains s at v l e h k claim = rw (effect_forget (dims C domains) s at, byte_reads (C + 1) 4 s at v l e h k, claim)
