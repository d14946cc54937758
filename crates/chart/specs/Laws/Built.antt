-- How a table that is built is shown to mean what it should: a family of states that is closed under one step of
-- belief, and a member of it for each row. Assumes nothing.
use Rattle.std.specs.Prelude.{ℕ, ◌<◌, ◌≤◌, ◌≡◌, refl, List, [], length}
use Rattle.std.proofs.Common.{sym, ◌∙◌, ap}
use Rattle.pack.specs.State.{State, belief, node, meaning, target}
use Rattle.pack.specs.Syntax.{Node}
use Rattle.pack.specs.Laws.Table.{means, blank, belief_in, belief_out}

-- members of K stand for states: the values of each, and what each believes, again a member
pub record Family (C : ℕ) {K : Type 0} (Real : K → Type 0) (sem : K → State) (values : K → List ℕ)
    (next : K → ℕ → K) : Type 0 where
  pub found : (k : K) → Real k → values k ≡ sem k []
  pub step : (k : K) → Real k → (c : ℕ) → c < C → sem (next k c) ≡ belief (sem k) c
  pub real : (k : K) → Real k → (c : ℕ) → c < C → Real (next k c)
  pub outside : (k : K) → Real k → (c : ℕ) → C ≤ c → belief (sem k) c ≡ blank

-- each row of t holds the values of a member and names what that member believes
pub record Rows (C : ℕ) (t : List Node) {K : Type 0} (Real : K → Type 0) (val : K → List ℕ) (next : K → ℕ → K)
    (key : ℕ → K) : Type 0 where
  pub real : (i : ℕ) → i < length t → Real (key i)
  pub values : (i : ℕ) → i < length t → (node t i).values ≡ val (key i)
  pub inside : (i c : ℕ) → i < length t → c < C → target t i c < length t
  pub names : (i c : ℕ) → i < length t → c < C → key (target t i c) ≡ next (key i) c

pub built : {C : ℕ} {t : List Node} {K : Type 0} {Real : K → Type 0} {sem : K → State} {values : K → List ℕ}
    {next : K → ℕ → K} {key : ℕ → K}
    → Family C Real sem values next → Rows C t Real values next key → (i : ℕ) → i < length t
    → meaning C t i ≡ sem (key i)
built {C} {t} {sem = sem} {key = key} f r = means C t (λ i. sem (key i)) (record {
  values = λ n h. r.values n h ∙ f.found (key n) (r.real n h);
  inside = λ n c h l. r.inside n c h l;
  beliefs = λ n c h l. ap sem (r.names n c h l) ∙ f.step (key n) (r.real n h) c l;
  outside = λ n c h l chain. ap (λ (s : State). s chain) (f.outside (key n) (r.real n h) c l);
})

-- a copy: row n of t itself
pub copied : (C : ℕ) (t : List Node) → Family C (λ n. Unit {0}) (meaning C t) (λ n. (node t n).values) (target t)
unfolding meaning
copied C t = record {
  found = λ n r. refl;
  step = λ n r c h. sym (belief_in C t n c h);
  real = λ n r c h. tt;
  outside = λ n r c h. belief_out C t n c h;
}
