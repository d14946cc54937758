-- What a table's nodes mean, by one step of belief, and where a chain leads. Assumes nothing.
use Rattle.std.specs.Prelude.{ℕ, ◌<◌, ◌≤◌, ◌≡◌, cond, ◌↔◌, length, ltb}
use Rattle.std.proofs.Math.Path.{refl, ap, fun_ext}
use Rattle.std.proofs.Common.{sym, ◌∙◌, arith}
use Rattle.std.proofs.Math.Logic.{by_cases}
use mathlib.Core.List.{List, [], ◌∷◌}
use borrow.Author.Tests.{lt-ltb, le-ltb}
use Rattle.std.proofs.Math.Decide.{dec_lt}
use Rattle.pack.specs.Syntax.{Node}
use Rattle.pack.specs.State.{State, belief, after, Valid, node, target, meaning, Closed, walk}

-- nothing is found at the end of any chain
abbrev pub blank : State
blank chain = []

module _ (C : ℕ) (t : List Node) where
  pub belief_in : (n c : ℕ) → c < C → belief (meaning C t n) c ≡ meaning C t (target t n c)
  unfolding meaning
  belief_in n c h = fun_ext λ chain. rw lt-ltb

  pub belief_out : (n c : ℕ) → C ≤ c → belief (meaning C t n) c ≡ blank
  unfolding meaning
  belief_out n c h = fun_ext λ chain. rw le-ltb

  pub after-walk : (chain : List ℕ) (n : ℕ) → Valid C chain → after (meaning C t n) chain ≡ meaning C t (walk t n chain)
  unfolding after walk Valid
  after-walk [] n v = refl
  after-walk (c ∷ chain) n v =
      ap (λ (s : State). after s chain) (belief_in n c v.0) ∙ after-walk chain (target t n c) v.1

  -- what a chain finds
  pub finds_walk : (chain : List ℕ) (n : ℕ) → Valid C chain → meaning C t n chain ≡ (node t (walk t n chain)).values
  unfolding walk Valid meaning
  finds_walk [] n v = refl
  finds_walk (c ∷ chain) n v =
      ap (λ (s : State). s chain) (belief_in n c v.0) ∙ finds_walk chain (target t n c) v.1

  pub walk_inside : Closed C t → (chain : List ℕ) (n : ℕ) → n < length t → Valid C chain → walk t n chain < length t
  unfolding walk Valid
  walk_inside closed [] n h v = h
  walk_inside closed (c ∷ chain) n h v = walk_inside closed chain (target t n c) (closed n c h v.0) v.1

  -- how a table's meaning is shown: a state for each node that agrees with it on values and one step of belief
  pub record Matches (sem : ℕ → State) : Type 0 where
    pub values : (n : ℕ) → n < length t → (node t n).values ≡ sem n []
    pub inside : (n c : ℕ) → n < length t → c < C → target t n c < length t
    pub beliefs : (n c : ℕ) → n < length t → c < C → sem (target t n c) ≡ belief (sem n) c
    pub outside : (n c : ℕ) → n < length t → C ≤ c → (chain : List ℕ) → sem n (c ∷ chain) ≡ []

  finds : (sem : ℕ → State) → Matches sem → (n : ℕ) → n < length t → (chain : List ℕ)
      → meaning C t n chain ≡ sem n chain
  unfolding meaning
  finds sem m n h [] = m.values n h
  finds sem m n h (c ∷ chain) = go (λ lt. finds sem m (target t n c) (m.inside n c h lt) chain) (dec_lt c C)
    where
      There : Type 0
      There = c < C → meaning C t (target t n c) chain ≡ sem (target t n c) chain

      go : There → Dec (c < C) → cond (ltb c C) (meaning C t (target t n c) chain) [] ≡ sem n (c ∷ chain)
      go there (yes lt) = rw (lt-ltb c C lt) (there lt ∙ ap (λ (s : State). s chain) (m.beliefs n c h lt))
      go there (no ge) = rw (le-ltb c C (omega arith)) (sym (m.outside n c h (omega arith) chain))

  pub means : (sem : ℕ → State) → Matches sem → (n : ℕ) → n < length t → meaning C t n ≡ sem n
  means sem m n h = fun_ext (finds sem m n h)

-- two nodes mean the same exactly when the chains of characters that are there find the same
pub same_valid : (C : ℕ) (t u : List Node) (n m : ℕ)
    → (meaning C t n ≡ meaning C u m) ↔ ((chain : List ℕ) → Valid C chain → meaning C t n chain ≡ meaning C u m chain)
unfolding Valid meaning
same_valid C t u n m = (λ e chain v. ap (λ (s : State). s chain) e, λ h. fun_ext (λ chain. go chain n m h))
  where
    go : (chain : List ℕ) (n m : ℕ) → ((chain : List ℕ) → Valid C chain → meaning C t n chain ≡ meaning C u m chain)
        → meaning C t n chain ≡ meaning C u m chain
    go [] n m h = h [] tt
    go (c ∷ chain) n m h =
        by_cases (dec_lt c C)
        (λ l. let x = belief_in C t n c l in let y = belief_in C u m c l in
        ap (λ (s : State). s chain) x
        ∙ go chain (target t n c) (target u m c)
        (λ ch v. ap (λ (s : State). s ch) (sym x) ∙ h (c ∷ ch) (l, v) ∙ ap (λ (s : State). s ch) y)
        ∙ ap (λ (s : State). s chain) (sym y))
        (λ x. ap (λ (s : State). s chain) (belief_out C t n c (omega arith) ∙ sym (belief_out C u m c (omega arith))))
