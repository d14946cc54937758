-- The parts of a pack in turn: what an answer says of the reading, and of what is asked of a value. Assumes nothing.
use Rattle.std.proofs.Common.{ℕ, ◌≡◌, ap, ◌∙◌, Result, Ok, Err, IfOk, IsErr}
use Rattle.std.proofs.lemmas.Result.{IfOk-from_err}
use Rattle.pack.specs.Reading.{Reading, done, mapped}
use Rattle.pack.specs.Duties.Said.{said, placed}
use Rattle.pack.specs.declared.refusal.Flaw.{Flaw}

-- a value that was handed out was read
pub was_read : {A B : Type 0} (g : A → B) (x : Reading B) (r : Result A Flaw) (n : ℕ) (a : A) → x ≡ mapped g (said (placed r n)) → r ≡ Ok a
    → x ≡ done (g a) n
was_read g x r n a e was = e ∙ ap (λ (r : Result _ Flaw). mapped g (said (placed r n))) was

-- what is asked of a value holds where there is none
pub no_value_placed : {A : Type 0} (r : Result A Flaw) (n : ℕ) (P : A × ℕ → Type 0) → IsErr r → IfOk (placed r n) P
no_value_placed r n P h = go r (IfOk-from_err r (λ a. P (a, n)) h)
  where
    go : (r : Result _ Flaw) → IfOk r (λ a. P (a, n)) → IfOk (placed r n) P
    go (Ok a) h = h
    go (Err e) h = tt
