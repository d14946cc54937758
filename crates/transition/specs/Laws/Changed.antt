-- Part 1 and a round as constructions on tables: the states of a change are those of rows that took part, those of
-- belief edges out of such rows, and the old ones. Assumes nothing.
use Rattle.std.specs.Prelude.{ℕ, suc, ◌<◌, ◌≤◌, ◌≡◌, Bool, true, false, cond, length}
use Rattle.std.proofs.Math.Path.{refl, sym, ap, fun_ext, subst}
use Rattle.std.proofs.Common.{◌∙◌, arith}
use mathlib.Core.List.{List, [], ◌∷◌}
use Rattle.pack.specs.Condition.{write}
use Rattle.pack.specs.State.{State, belief, node, meaning, target}
use Rattle.pack.specs.Syntax.{Effect, Node}
use Rattle.pack.specs.Laws.Table.{blank, belief_in, belief_out}
use Rattle.chart.specs.Laws.Built.{Family, Rows, built}
use Rattle.transition.specs.Happening.{at_root, change}

-- of a table: what row m has become by taking part, what c believes in it then, and what row m meant before
pub data Member : Type 0 where
  acted : ℕ → Member
  edge : ℕ → ℕ → Member
  old : ℕ → Member

abbrev pub There : ℕ → Member → Type 0
There C (acted m) = Unit {0}
There C (edge m c) = c < C
There C (old m) = Unit {0}

module _ (C : ℕ) (t : List Node) where
  abbrev pub sem : (State → State) → Member → State
  sem f (acted m) = f (meaning C t m)
  sem f (edge m c) = belief (f (meaning C t m)) c
  sem f (old m) = meaning C t m

same : (b : Bool) (v : List ℕ) → cond b v v ≡ v
same true v = refl
same false v = refl

write-blank : (whom : ℕ) (es : List Effect) → write whom es [] ≡ []
unfolding write
write-blank whom [] = refl
write-blank whom (e ∷ es) = rw same (write-blank whom es)

at_root-blank : (whom : ℕ) (es : List Effect) (chain : List ℕ) → at_root (write whom es) chain [] ≡ []
unfolding at_root
at_root-blank whom es [] = write-blank whom es
at_root-blank whom es (c ∷ chain) = refl

module _ (effects : State → List Effect) (takes : State → ℕ → Bool) where
  blank_change : (chain : List ℕ) → change effects takes blank chain ≡ []
  unfolding change
  blank_change [] = write-blank 0 (effects blank)
  blank_change (c ∷ chain) = rw (blank_change chain, same, at_root-blank)

  change_out : (s : State) (c : ℕ) → belief s c ≡ blank → belief (change effects takes s) c ≡ blank
  unfolding change
  change_out s c e =
      fun_ext λ chain.
      subst (λ (b : State).
      at_root (write (suc c) (effects s)) chain (cond (takes s c) (change effects takes b chain) (b chain)) ≡ [])
      (sym e)
      (rw (blank_change chain, same, at_root-blank))

  -- what is believed in a row that took part and said nothing of it to the believer
  quiet_step : (s : State) (d : ℕ) → ((v : List ℕ) → write (suc d) (effects s) v ≡ v) → (chain : List ℕ)
      → cond (takes s d) (change effects takes (belief s d) chain) (belief s d chain)
      ≡ belief (change effects takes s) d chain
  unfolding change at_root
  quiet_step s d h [] = sym (h (cond (takes s d) (change effects takes (belief s d) []) (belief s d [])))
  quiet_step s d h (c ∷ chain) = refl

  module _ (C : ℕ) (t : List Node) (tells : ℕ → ℕ → Bool) where
    -- a row that is not said to tell d something writes nothing into what d believes
    abbrev pub Silent : Type 0
    Silent = (m d : ℕ) → tells m d ≡ false → (v : List ℕ) → write (suc d) (effects (meaning C t m)) v ≡ v

    abbrev pub values_of : Member → List ℕ
    values_of (acted m) = write 0 (effects (meaning C t m)) (node t m).values
    values_of (edge m c) =
        let n = target t m c in
        let s = meaning C t m in
        write (suc c) (effects s)
        (cond (takes s c) (write 0 (effects (meaning C t n)) (node t n).values) (node t n).values)
    values_of (old m) = (node t m).values

    -- what d believes in row m, which took part: a belief that is told something is a state of its own
    abbrev pub believed : ℕ → ℕ → Member
    believed m d =
        cond (tells m d) (edge m d) (cond (takes (meaning C t m) d) (acted (target t m d)) (old (target t m d)))

    abbrev pub next : Member → ℕ → Member
    next (acted m) d = believed m d
    next (edge m c) d = let n = target t m c in cond (takes (meaning C t m) c) (believed n d) (old (target t n d))
    next (old m) d = old (target t m d)

    abbrev means : Member → State
    means = sem C t (change effects takes)

    pub changed : Silent → Family C (There C) means values_of next
    unfolding change meaning at_root
    changed silent = record { found = found; step = step; real = real; outside = outside }
      where
        found : (k : Member) → There C k → values_of k ≡ means k []
        found (acted m) r = refl
        found (edge m c) r =
            ap (λ (s : State). write (suc c) (effects (meaning C t m))
            (cond (takes (meaning C t m) c) (write 0 (effects s) (s [])) (s []))) (sym (belief_in C t m c r))
        found (old m) r = refl

        quiet : (m d : ℕ) → d < C → (b : Bool)
            → means (cond b (acted (target t m d)) (old (target t m d)))
            ≡ (λ chain. cond b (change effects takes (belief (meaning C t m) d) chain) (belief (meaning C t m) d chain))
        quiet m d h true = ap (change effects takes) (sym (belief_in C t m d h))
        quiet m d h false = sym (belief_in C t m d h)

        took : (m d : ℕ) → d < C → means (believed m d) ≡ belief (change effects takes (meaning C t m)) d
        took m d h = go (tells m d) refl
          where
            go : (b : Bool) → tells m d ≡ b
                → means (cond b (edge m d) (cond (takes (meaning C t m) d) (acted (target t m d)) (old (target t m d))))
                ≡ belief (change effects takes (meaning C t m)) d
            go true e = refl
            go false e =
                quiet m d h (takes (meaning C t m) d)
                ∙ fun_ext (λ chain. quiet_step (meaning C t m) d (silent m d e) chain)

        deep : (b : Bool) (s : State) (n d : ℕ) → d < C → s ≡ meaning C t n
            → means (cond b (believed n d) (old (target t n d)))
            ≡ (λ chain. cond b (change effects takes s (d ∷ chain)) (s (d ∷ chain)))
        deep true s n d h e = took n d h ∙ ap (λ (s : State). belief (change effects takes s) d) (sym e)
        deep false s n d h e = sym (belief_in C t n d h) ∙ ap (λ (s : State). belief s d) (sym e)

        step : (k : Member) → There C k → (d : ℕ) → d < C → means (next k d) ≡ belief (means k) d
        step (acted m) r d h = took m d h
        step (edge m c) r d h =
            deep (takes (meaning C t m) c) (belief (meaning C t m) c) (target t m c) d h (belief_in C t m c r)
        step (old m) r d h = sym (belief_in C t m d h)

        there : (m d : ℕ) → d < C → (a b : Bool)
            → There C (cond a (edge m d) (cond b (acted (target t m d)) (old (target t m d))))
        there m d h true b = h
        there m d h false true = tt
        there m d h false false = tt

        real : (k : Member) → There C k → (d : ℕ) → d < C → There C (next k d)
        real (acted m) r d h = there m d h (tells m d) (takes (meaning C t m) d)
        real (edge m c) r d h =
            elim (takes (meaning C t m) c) as (λ b.
            There C (cond b (believed (target t m c) d) (old (target t (target t m c) d)))) [
              | true ↦ there (target t m c) d h (tells (target t m c) d)
                  (takes (meaning C t (target t m c)) d)
              | false ↦ tt
            ]
        real (old m) r d h = tt

        out : (b : Bool) (s : State) (d : ℕ) → belief s d ≡ blank
            → ◌≡◌ {A = State} (λ chain. cond b (change effects takes s (d ∷ chain)) (s (d ∷ chain))) blank
        out true s d e = change_out s d e
        out false s d e = e

        outside : (k : Member) → There C k → (d : ℕ) → C ≤ d → belief (means k) d ≡ blank
        outside (acted m) r d h = change_out (meaning C t m) d (belief_out C t m d h)
        outside (edge m c) r d h =
            out (takes (meaning C t m) c) (belief (meaning C t m) c) d
            (ap (λ (s : State). belief s d) (belief_in C t m c r) ∙ belief_out C t (target t m c) d h)
        outside (old m) r d h = belief_out C t m d h

    -- so a table of such rows, the first of them that of row 0 having taken part, means what the change makes: part 1
    -- and a round are two instances
    pub change_built : {u : List Node} {key : ℕ → Member} → Silent → Rows C u (There C) values_of next key
        → 0 < length u
        → key 0 ≡ acted 0 → meaning C u 0 ≡ change effects takes (meaning C t 0)
    change_built silent r h e = built (changed silent) r 0 h ∙ ap means e

-- where every row is said to tell everyone something there is nothing to show
pub all_told : (effects : State → List Effect) (takes : State → ℕ → Bool) (C : ℕ) (t : List Node)
    → Silent effects takes C t (λ m d. true)
all_told effects takes C t m d e v = let z : ◌≡◌ {A = ℕ} 0 1 = ap (λ (b : Bool). cond b 0 1) e in absurd (omega arith)
