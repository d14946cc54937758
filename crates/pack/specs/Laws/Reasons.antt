-- A refusal's number and place tell its reason: no two reasons have both the same. Assumes nothing.
use Rattle.std.specs.Prelude.{ℕ, ◌-◌, ◌≡◌, refl, eqb, ltb}
use Rattle.std.proofs.Common.{sym, ap, ap₂, ◌∙◌}
use Rattle.pack.specs.Reading.{pick}
use Rattle.pack.specs.Refusals.{number_of, refusal_number, place_of}
use Rattle.pack.specs.declared.refusal.Fault.{Fault}
use Rattle.pack.specs.declared.refusal.Fault.TheVariants as faults
use Rattle.pack.specs.declared.refusal.Stop.TheVariants as stops
use Rattle.pack.specs.declared.refusal.Refusal.{Refusal}
use Rattle.pack.specs.declared.refusal.Refusal.TheVariants as whys

-- the fault of a number of 1 to 7
fault_of : ℕ → Fault
fault_of n =
    pick (eqb n 1) faults.Ends (pick (eqb n 2) faults.Form (pick (eqb n 3) faults.Limit (pick (eqb n 4) faults.Absent
    (pick (eqb n 5) faults.Blank (pick (eqb n 6) faults.Order faults.After)))))

-- the reason of a number and a place
pub reason_of : (number place : ℕ) → Refusal
reason_of n p =
    pick (ltb n 8) (whys.Pack (record { fault = fault_of n; at = p }))
    (pick (eqb n 8) whys.Short (pick (eqb n 9) whys.Range
    (pick (eqb n 10) (whys.Stopped stops.Condition) (pick (eqb n 11) (whys.Stopped stops.Rounds)
    (pick (eqb n 12) (whys.Stopped stops.States) (pick (eqb n 13) whys.NoEnding
    (whys.Chart (record { fault = fault_of (n - 20); at = p }))))))))

-- it is found back
pub reason_back : (why : Refusal) → reason_of (refusal_number why) (place_of why) ≡ why
unfolding reason_of fault_of
reason_back (whys.Pack flaw) = go flaw.fault flaw.at
  where
    go : (f : Fault) (p : ℕ) → reason_of (number_of f) p ≡ whys.Pack (record { fault = f; at = p })
    go faults.Ends p = refl
    go faults.Form p = refl
    go faults.Limit p = refl
    go faults.Absent p = refl
    go faults.Blank p = refl
    go faults.Order p = refl
    go faults.After p = refl
reason_back (whys.Chart flaw) = go flaw.fault flaw.at
  where
    go : (f : Fault) (p : ℕ) → reason_of (refusal_number (whys.Chart (record { fault = f; at = p }))) p
        ≡ whys.Chart (record { fault = f; at = p })
    go faults.Ends p = refl
    go faults.Form p = refl
    go faults.Limit p = refl
    go faults.Absent p = refl
    go faults.Blank p = refl
    go faults.Order p = refl
    go faults.After p = refl
reason_back whys.Short = refl
reason_back whys.Range = refl
reason_back (whys.Stopped stops.Condition) = refl
reason_back (whys.Stopped stops.Rounds) = refl
reason_back (whys.Stopped stops.States) = refl
reason_back whys.NoEnding = refl

-- so they tell it
pub one_reason : (a b : Refusal) → refusal_number a ≡ refusal_number b → place_of a ≡ place_of b → a ≡ b
one_reason a b n p = sym (reason_back a) ∙ ap₂ reason_of n p ∙ reason_back b

-- and 13 alone tells "no ending", whatever the place
pub only_thirteen : (why : Refusal) → refusal_number why ≡ 13 → why ≡ whys.NoEnding
unfolding reason_of
only_thirteen why e = sym (reason_back why) ∙ ap (λ (n : ℕ). reason_of n (place_of why)) e
