-- The number of what stops a step is not 0, so it is 0 exactly where nothing does. Assumes nothing.
use Rattle.std.specs.Prelude.{ℕ, ◌≡◌, ◌≢◌, Bool, Result, Ok, Err, is_ok}
use Rattle.std.proofs.Common.{arith}
use Rattle.std.proofs.Math.Path.{refl, ap}
use Rattle.std.proofs.Math.Bool.{true, false}
use Rattle.pack.specs.Reading.{pick}
use Rattle.pack.specs.Refusals.{stop_number}
use Rattle.pack.specs.declared.refusal.Stop.{Stop}
use Rattle.pack.specs.declared.refusal.Stop.TheVariants.{Condition, Rounds, States}
use Rattle.transition.specs.Duties.Play.{stop_of}

pub stops : (why : Stop) → stop_number why ≢ 0
stops Condition e = absurd (omega arith)
stops Rounds e = absurd (omega arith)
stops States e = absurd (omega arith)

pub plays_zero : (r : Result (Unit {0}) Stop) → is_ok r ≡ true → stop_of r ≡ 0
plays_zero (Ok done) e = refl
plays_zero (Err why) e = let z : ◌≡◌ {A = ℕ} 0 1 = ap (λ (b : Bool). pick b 1 0) e in absurd (omega arith)

pub stopped_some : (r : Result (Unit {0}) Stop) → is_ok r ≡ false → stop_of r ≢ 0
stopped_some (Ok done) e = let z : ◌≡◌ {A = ℕ} 1 0 = ap (λ (b : Bool). pick b 1 0) e in absurd (omega arith)
stopped_some (Err why) e = stops why
