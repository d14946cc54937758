-- How far two nodes of a graph of beliefs agree, and when agreement to a depth is agreement at every depth (Moore).
-- Assumes nothing.
use Rattle.std.specs.Prelude.{◌≡◌, refl, ◌⊎◌, ◌↔◌, ◌≢◌, cond, length, ltb}
use Rattle.std.proofs.Math.Path.{sym, fun_ext}
use Rattle.std.proofs.Common.{◌∙◌, ap, ⊎_elim, le_of_suc-le-suc, le_trans, arith, List, [], ◌∷◌, ℕ, zero, suc, ◌-◌, ◌≤◌}
use Rattle.std.proofs.Common.{◌<◌, suc-le-suc, lt-ltb, le-ltb}
use Rattle.std.proofs.Math.Logic.{inl, inr, by_cases}
use Rattle.std.proofs.Math.Logic.Iff
use mathlib.Core.List.{List-discrete}
use Rattle.std.proofs.Math.Nat.{zero-lt-suc}
use Rattle.std.proofs.Math.Decide.{ℕ_discrete, dec_lt, dec_le}
use Rattle.chart.specs.Laws.Classes.{Sorts, by_key, classes_of, classes_pos, classes-full}
use Rattle.chart.specs.Laws.Classes.{classes_eq, classes_below, classes_used}
use Rattle.chart.specs.Laws.Count.{least}

-- C characters; the values at node n are `val n`, and `bel n c` is the node that n's belief for the character c names
module _ (C : ℕ) (val : ℕ → List ℕ) (bel : ℕ → ℕ → ℕ) where
  -- what node n means: the values found at the end of a chain of characters
  unfoldable pub at : ℕ → List ℕ → List ℕ
  at n [] = val n
  at n (c ∷ ch) = cond (ltb c C) (at (bel n c) ch) []

  pub at_in : (n c : ℕ) (ch : List ℕ) → c < C → at n (c ∷ ch) ≡ at (bel n c) ch
  unfolding at
  at_in n c ch h = rw lt-ltb

  pub at_out : (n c : ℕ) (ch : List ℕ) → C ≤ c → at n (c ∷ ch) ≡ []
  unfolding at
  at_out n c ch h = rw le-ltb

  -- n and m agree on every chain shorter than k
  abbrev pub Same : ℕ → ℕ → ℕ → Type 0
  Same k n m = (ch : List ℕ) → length ch < k → at n ch ≡ at m ch

  same_in : (k n m : ℕ) → val n ≡ val m → ((c : ℕ) → c < C → Same k (bel n c) (bel m c)) → Same (suc k) n m
  unfolding at
  same_in k n m v b [] l = v
  same_in k n m v b (c ∷ ch) l =
      by_cases (dec_lt c C) (λ h. at_in n c ch h ∙ b c h ch (le_of_suc-le-suc l) ∙ sym (at_in m c ch h))
      (λ h. at_out n c ch (omega arith) ∙ sym (at_out m c ch (omega arith)))

  same_out : (k n m c : ℕ) → c < C → Same (suc k) n m → Same k (bel n c) (bel m c)
  same_out k n m c h a ch l = sym (at_in n c ch h) ∙ a (c ∷ ch) (suc-le-suc l) ∙ at_in m c ch h

  pub same_suc : (k n m : ℕ) → Same (suc k) n m ↔ ((val n ≡ val m) × ((c : ℕ) → c < C → Same k (bel n c) (bel m c)))
  unfolding at
  same_suc k n m = (λ a. (a [] (zero-lt-suc k), λ c h. same_out k n m c h a), λ p. same_in k n m p.0 p.1)

  -- they differ on a chain shorter than k
  abbrev pub Apart : ℕ → ℕ → ℕ → Type 0
  Apart k n m = (ch : List ℕ) × (length ch < k) × (at n ch ≢ at m ch)

  pub same_or_apart : (k n m : ℕ) → Same k n m ⊎ Apart k n m
  unfolding at
  same_or_apart zero n m = inl (λ ch l. absurd (omega arith))
  same_or_apart (suc k) n m =
      go (List-discrete ℕ_discrete (val n) (val m)) (least (λ c. same_or_apart k (bel n c) (bel m c)) C)
    where
      go : Dec (val n ≡ val m)
          → ((c : ℕ) → c < C → Same k (bel n c) (bel m c))
          ⊎ ((c : ℕ) × (c < C) × Apart k (bel n c) (bel m c) × ((d : ℕ) → d < c → Same k (bel n d) (bel m d)))
          → Same (suc k) n m ⊎ Apart (suc k) n m
      go (no x) r = inr ([], zero-lt-suc k, x)
      go (yes v) (inl b) = inl (same_in k n m v b)
      go (yes v) (inr (c, h, a, _)) =
          inr (c ∷ a.0, suc-le-suc a.1, λ e. a.2 (sym (at_in n c a.0 h) ∙ e ∙ at_in m c a.0 h))

  pub sorts : (k : ℕ) → Sorts (Same k)
  sorts k = record {
    self = λ n ch l. refl;
    back = λ p ch l. sym (p ch l);
    join = λ p q ch l. p ch l ∙ q ch l;
    test = λ n m. ⊎_elim (λ a. yes a) (λ a. no (λ s. a.2 (s a.0 a.1))) (same_or_apart k n m);
  }

  -- class numbers of the nodes below N: the same for two nodes just where they agree on every chain shorter than k
  abbrev pub Exact : ℕ → ℕ → (ℕ → ℕ) → Type 0
  Exact N k key = (n m : ℕ) → n < N → m < N → (key n ≡ key m) ↔ Same k n m

  -- one class for all is exact at 0
  pub exact_zero : (N : ℕ) → Exact N 0 (λ n. 0)
  exact_zero N n m ln lm = (λ e ch l. absurd (omega arith), λ s. refl)

  -- the nodes are those below N, and every belief names one of them
  module _ (N : ℕ) (closed : (n c : ℕ) → n < N → c < C → bel n c < N) where
    -- to agree to depth k is to agree one deeper
    abbrev pub Stable : ℕ → Type 0
    Stable k = (n m : ℕ) → n < N → m < N → Same k n m → Same (suc k) n m

    pub stable_all : (k : ℕ) → Stable k → (ch : List ℕ) (n m : ℕ) → n < N → m < N → Same k n m → at n ch ≡ at m ch
    stable_all k st [] n m ln lm s = st n m ln lm s [] (zero-lt-suc k)
    stable_all k st (c ∷ ch) n m ln lm s =
        by_cases (dec_lt c C)
        (λ h. at_in n c ch h
        ∙ stable_all k st ch (bel n c) (bel m c) (closed n c ln h) (closed m c lm h)
        (same_out k n m c h (st n m ln lm s))
        ∙ sym (at_in m c ch h))
        (λ h. at_out n c ch (omega arith) ∙ sym (at_out m c ch (omega arith)))

    stable_suc : (k : ℕ) → Stable k → Stable (suc k)
    stable_suc k st n m ln lm s ch l = stable_all k st ch n m ln lm (λ ch' g. s ch' (omega arith))

    grow : 1 ≤ N → (k : ℕ) → Stable k ⊎ (suc k ≤ classes_of (sorts k) N)
    grow h zero = inr (classes_pos (sorts 0) N h)
    grow h (suc k) =
        ⊎_elim (λ st. inl (stable_suc k st))
        (λ g. by_cases (dec_le (classes_of (sorts (suc k)) N) (classes_of (sorts k) N))
        (λ e. inl (stable_suc k (classes_eq (sorts k) (sorts (suc k)) N (λ n m ln lm s ch l. s ch (omega arith)) e)))
        (λ ne. inr (omega arith)))
        (grow h k)

    -- the bound, N - 2 for N nodes: the chains shorter than N - 1 tell apart whatever any chain tells apart
    pub bound : (n m : ℕ) → n < N → m < N → Same (N - 1) n m → at n ≡ at m
    bound n m ln lm s = fun_ext λ ch.
        ⊎_elim (λ st. stable_all (N - 1) st ch n m ln lm s)
        (λ g. ap (λ x. at x ch) (classes-full (sorts (N - 1)) N (omega arith) n m ln lm s))
        (grow (omega arith) (N - 1))

    -- One round: new class numbers that are the same just where the values are and where the old class numbers of all
    -- beliefs are
    pub exact_suc : (k : ℕ) (key key' : ℕ → ℕ) → Exact N k key
        → ((n m : ℕ) → n < N → m < N
        → (key' n ≡ key' m) ↔ ((val n ≡ val m) × ((c : ℕ) → c < C → key (bel n c) ≡ key (bel m c))))
        → Exact N (suc k) key'
    exact_suc k key key' ex r n m ln lm =
        let e : (c : ℕ) → c < C
        → (key (bel n c) ≡ key (bel m c))
        ↔ Same k (bel n c) (bel m c) = λ c h. ex (bel n c) (bel m c) (closed n c ln h) (closed m c lm h) in
        Iff.trans (r n m ln lm) (Iff.trans (
          (λ p. (p.0, λ c h. (e c h).0 (p.1 c h))),
          (λ p. (p.0, λ c h. (e c h).1 (p.1 c h))),
        ) (Iff.symm (same_suc k n m)))

    -- the rounds may stop at k: then the class numbers are the meanings
    pub exact_all : (k : ℕ) (key : ℕ → ℕ) → Exact N k key → Stable k → (n m : ℕ) → n < N → m < N
        → (key n ≡ key m) ↔ (at n ≡ at m)
    exact_all k key ex st n m ln lm = (
      λ e. fun_ext λ ch. stable_all k st ch n m ln lm ((ex n m ln lm).0 e),
      λ p. (ex n m ln lm).1 (λ ch l. ap (λ f. f ch) p),
    )

    -- and before that where one more round, key', splits no class
    module _ (k : ℕ) (key key' : ℕ → ℕ) (ex : Exact N k key) (ex' : Exact N (suc k) key') where
      -- or by their number: each number below q is used before, and after the round all numbers are below q
      pub stop_count : (q : ℕ) → ((i : ℕ) → i < q → (n : ℕ) × (n < N) × (key n ≡ i)) → ((n : ℕ) → n < N → key' n < q)
          → Stable k
      stop_count q used below n m ln lm s =
          (ex' n m ln lm).0 (classes_eq (by_key key) (by_key key') N
          (λ a b la lb e. (ex a b la lb).1 (λ ch l. (ex' a b la lb).0 e ch (omega arith)))
          (le_trans (classes_below key' N q below) (classes_used key N q used)) n m ln lm ((ex n m ln lm).1 s))
