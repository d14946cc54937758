-- What no list can exceed: a utility is 0 or a rule's. Assumes nothing.
use Rattle.std.specs.Prelude.{ℕ, zero, suc, ◌+◌, ◌≤◌, ◌≡◌, refl, Bool, true, false, cond, ◌||◌, List, [], ◌∷◌, get_or}
use Rattle.std.specs.Prelude.{ltb}
use Rattle.std.proofs.Common.{ap, arith, ltb-false}
use Rattle.pack.specs.Syntax.{Rule, Node, Theory}
use Rattle.pack.specs.State.{State, belief, meaning}
use Rattle.pack.specs.Condition.{holds, utility}
use Rattle.planner.specs.declared.limits.Context.{Context}
use Rattle.planner.specs.Ending.{Explained, utility_to}
use Rattle.planner.specs.Inner.Lists.{slot_table, Ends}
use Rattle.planner.specs.Inner.Explain.{Stage}

-- some rule is above base
unfoldable pub exceeds : ℕ → List Rule → Bool
exceeds base [] = false
exceeds base (r ∷ rules) = ltb base r.utility || exceeds base rules

-- where the flag r is true, action a is explained to character c in the state in a slot at no foresight and no nesting
abbrev pub NoReason : (pack places : List ℕ) (h : Context) (slot : ℕ) (work : List ℕ) (c a : ℕ) (r : Bool) → Type 0
NoReason pack places h slot work c a r =
    r ≡ true → (th : Theory) (T : List Node)
    → Stage th T pack places h work (slot_table h work slot) (slot + h.stride)
    → (K e : ℕ) → ¬ Explained th K e c a (meaning h.characters T 0)

neither : (a b : Bool) → (a || b) ≡ false → (a ≡ false) × (b ≡ false)
neither true b e = let z : ◌≡◌ {A = ℕ} 1 0 = ap (λ (b : Bool). cond b 1 0) e in absurd (omega arith)
neither false b e = (refl, e)

-- where no rule is above base, no state's utility is
pub utility_most : (s : State) (base : ℕ) (rules : List Rule) → exceeds base rules ≡ false → utility s rules ≤ base
unfolding exceeds utility
utility_most s base [] e = omega arith
utility_most s base (r ∷ rules) e =
    let (first, rest) = neither (ltb base r.utility) (exceeds base rules) e in
    go (holds s r.condition) (ltb-false base r.utility first) (utility_most s base rules rest)
  where
    go : (h : Bool) → r.utility ≤ base → utility s rules ≤ base → cond h r.utility (utility s rules) ≤ base
    go true here more = here
    go false here more = more

-- nothing is explained to a character none of whose rules is above what its belief is worth to it
pub unexplained : (p : Theory) (K e c a : ℕ) (s : State)
    → exceeds (utility_to p c (belief s c)) (get_or p.utilities (suc c) []) ≡ false → ¬ Explained p K e c a s
unfolding Explained
unexplained p K zero c a s f x = x
unexplained p K (suc e) c a s f (rest, t, s', l, plays, leads, above) =
    omega (arith, above, utility_most s' (utility_to p c (belief s c)) (get_or p.utilities (suc c) []) f)

-- no list ends above base where none of the author's rules is
pub no_end : (p : Theory) (K e base : ℕ) (s : State) (list : List ℕ) (v : ℕ)
    → exceeds base (get_or p.utilities 0 []) ≡ false → ¬ Ends p K e base s list v
no_end p K e base s list v f (s', leads, (is, above)) =
    omega (arith, above, is, utility_most s' base (get_or p.utilities 0 []) f)
