-- What reading bytes gives, and readers made of readers.
use Rattle.std.specs.Prelude.{ℕ, zero, suc, Bool, true, false, List, [], ◌∷◌, length, eqb}

-- a value and the place after it, or a refusal's number and place
pub data Reading (A : Type 0) : Type 0 where
  done : A → ℕ → Reading A
  refused : (number place : ℕ) → Reading A

-- what is found in the bytes, from a position on
abbrev pub Reader : Type 0 → Type 0
Reader A = List ℕ → ℕ → Reading A

-- the first where the test holds, else the second
abbrev pub pick : {A : Type 0} → Bool → A → A → A
pick true a b = a
pick false a b = b

-- go on with the value and the place after it; the first refusal stays: "Within a pack the first number at fault"
abbrev pub bind : {A B : Type 0} → Reading A → (A → ℕ → Reading B) → Reading B
bind (done a n) f = f a n
bind (refused k p) f = refused k p

-- the same reading, its value told otherwise
abbrev pub mapped : {A B : Type 0} → (A → B) → Reading A → Reading B
mapped g (done a n) = done (g a) n
mapped g (refused k p) = refused k p

-- k things, one after the other, each read by what those before it left
unfoldable pub runs : {S A : Type 0} → (S → Reader A) → (S → A → S) → S → ℕ → Reader (List A)
runs p next z zero s at = done [] at
runs p next z (suc k) s at = bind (p z s at) (λ a n. mapped (λ rest. a ∷ rest) (runs p next (next z a) k s n))

-- k things of one kind
abbrev pub many : {A : Type 0} → Reader A → ℕ → Reader (List A)
many p = runs (λ (z : Unit {0}). p) (λ z a. z) tt

-- What a call or a whole reading hands back: an answer, or a refusal's number and place.
pub data Reply (A : Type 0) : Type 0 where
  gives : A → Reply A
  refuses : (number place : ℕ) → Reply A

-- go on with what is given; a refusal stays
abbrev pub with : {A B : Type 0} → Reply A → (A → Reply B) → Reply B
with (gives a) f = f a
with (refuses k p) f = refuses k p

-- the same reply, its answer told otherwise
abbrev pub told : {A B : Type 0} → (A → B) → Reply A → Reply B
told g (gives a) = gives (g a)
told g (refuses k p) = refuses k p

-- all the bytes, and nothing behind them: refusal 7, "bytes after the end", at the first of them
abbrev pub ended : {A : Type 0} → ℕ → Reading A → Reply A
ended end (done a n) = pick (eqb n end) (gives a) (refuses 7 n)
ended end (refused k p) = refuses k p

-- what a reader makes of all the bytes
abbrev pub whole : {A : Type 0} → Reader A → List ℕ → Reply A
whole p bytes = ended (length bytes) (p bytes 0)
