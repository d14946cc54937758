-- What the functions' proofs cite: one of a run and the rest, and what a number that was read is below. Assumes
-- nothing.
use Rattle.std.specs.Prelude.{ℕ, zero, suc, ◌+◌, ◌-◌, ◌<◌, ◌≤◌, ◌≡◌, refl, List, [], ◌∷◌, ◌++◌, take, set, ltb}
use Rattle.std.proofs.Common.{sym, ap, ◌∙◌, append_assoc, append-nil, sub-one, arith, subst, take-suc-set, get_or}
use Rattle.std.proofs.Math.Numerals.{add-one}
use Rattle.std.proofs.Math.ListN.{length}
use Rattle.pack.specs.Reading.{Reading, done, refused, Reader, pick, bind, mapped, runs, many}
use Rattle.pack.specs.Number.{number_at, between, item, counted, belief_at, rising_at}
use Rattle.pack.specs.Grammar.{Dimensions, test_at, condition_at, effect_at, effects_at, consenters_at}
use Rattle.pack.specs.Grammar.{action_at, trigger_at, rule_at, rules_at, theory_at, node_at, nodes_at}
use Rattle.pack.specs.Duties.Said.{forget}
use Rattle.pack.specs.Duties.Answer.{claim_at, values_at}
use Rattle.pack.specs.Laws.Number.{between_within}
use Rattle.pack.specs.Laws.Reading.{mapped-mapped, mapped-bind, bind-mapped, bind-bind, both, failed, same_value}

-- nothing is left to read
pub runs_none : {S A B : Type 0} (p : S → Reader A) (next : S → A → S) (z : S) (g : List A → B) (k : ℕ) (s : List ℕ)
    (at : ℕ)
    → k ≤ 0 → mapped g (runs p next z k s at) ≡ done (g []) at
unfolding runs
runs_none p next z g zero s at h = refl
runs_none p next z g (suc k) s at h = absurd (omega arith)

-- one and the rest
pub runs-one : {S A B : Type 0} (p : S → Reader A) (next : S → A → S) (z : S) (g : List A → B) (k : ℕ) (s : List ℕ)
    (at : ℕ)
    → 0 < k
    → mapped g (runs p next z k s at)
    ≡ bind (p z s at) (λ a n. mapped (λ rest. g (a ∷ rest)) (runs p next (next z a) (k - 1) s n))
unfolding runs
runs-one p next z g zero s at h = absurd (omega arith)
runs-one p next z g (suc k) s at h = simp (sub-one, mapped-bind, mapped-mapped)

-- the same where nothing is told of the values
pub many-forget : {A : Type 0} (p : Reader A) (k : ℕ) (s : List ℕ) (at : ℕ) → 0 < k
    → mapped forget (many p k s at) ≡ bind (mapped forget (p s at)) (λ u n. mapped forget (many p (k - 1) s n))
unfolding runs
many-forget p zero s at h = absurd (omega arith)
many-forget p (suc k) s at h = simp (sub-one, mapped-bind, bind-mapped, mapped-mapped)

-- one and the rest, where i of k are read
pub runs_step : {S A B : Type 0} (p : S → Reader A) (next : S → A → S) (z : S) (g : List A → B) (k i : ℕ) (s : List ℕ)
    (at : ℕ)
    → i < k
    → mapped g (runs p next z (k - i) s at)
    ≡ bind (p z s at) (λ a n. mapped (λ rest. g (a ∷ rest)) (runs p next (next z a) (k - (i + 1)) s n))
runs_step p next z g k i s at h =
    let e : (k - i) - 1 ≡ k - (i + 1) = omega arith in
    subst (λ (left : ℕ). mapped g (runs p next z (k - i) s at)
    ≡ bind (p z s at) (λ a n. mapped (λ rest. g (a ∷ rest)) (runs p next (next z a) left s n))) e
    (runs-one p next z g (k - i) s at (omega arith))

-- the same where nothing is told of the values
pub many_step : {A : Type 0} (p : Reader A) (k i : ℕ) (s : List ℕ) (at : ℕ) → i < k
    → mapped forget (many p (k - i) s at)
    ≡ bind (mapped forget (p s at)) (λ u n. mapped forget (many p (k - (i + 1)) s n))
many_step p k i s at h =
    let e : (k - i) - 1 ≡ k - (i + 1) = omega arith in
    subst (λ (left : ℕ). mapped forget (many p (k - i) s at)
    ≡ bind (mapped forget (p s at)) (λ u n. mapped forget (many p left s n))) e
    (many-forget p (k - i) s at (omega arith))

-- none is read yet, and k are left
pub runs_start : {S A B : Type 0} (p : S → Reader A) (next : S → A → S) (z : S) (g : List A → B) (k : ℕ) (s : List ℕ)
    (at : ℕ)
    → mapped g (runs p next z k s at) ≡ mapped g (runs p next z (k - 0) s at)
runs_start p next z g k s at =
    let e : k ≡ k - 0 = omega arith in ap (λ (left : ℕ). mapped g (runs p next z left s at)) e

-- k of them are read, and none is left
pub runs_end : {S A B : Type 0} (p : S → Reader A) (next : S → A → S) (z : S) (g : List A → B) (k i : ℕ) (s : List ℕ)
    (at : ℕ)
    → k ≤ i → mapped g (runs p next z (k - i) s at) ≡ done (g []) at
runs_end p next z g k i s at h = runs_none p next z g (k - i) s at (omega arith)

-- the value of one more fluent
pub item_step : (domains : List ℕ) (i : ℕ) (s : List ℕ) (at : ℕ) → i < length domains
    → mapped forget (runs (λ fluent. item (get_or domains fluent 0)) (λ fluent v. fluent + 1) i
    (length domains - i) s at)
    ≡ bind (mapped forget (item (get_or domains i 0) s at))
    (λ u n. mapped forget (runs (λ fluent. item (get_or domains fluent 0)) (λ fluent v. fluent + 1) (i + 1)
    (length domains - (i + 1)) s n))
item_step domains i s at h =
    runs_step (λ fluent. item (get_or domains fluent 0)) (λ fluent v. fluent + 1) i forget (length domains) i s at h
    ∙ sym (bind-mapped forget (item (get_or domains i 0) s at) _)

pub many_start : {A : Type 0} (p : Reader A) (k : ℕ) (s : List ℕ) (at : ℕ)
    → mapped forget (many p k s at) ≡ mapped forget (many p (k - 0) s at)
many_start p k s at = runs_start (λ (z : Unit {0}). p) (λ z a. z) tt forget k s at

pub many_end : {A : Type 0} (p : Reader A) (k i : ℕ) (s : List ℕ) (at : ℕ) → k ≤ i
    → mapped forget (many p (k - i) s at) ≡ done tt at
many_end p k i s at h = runs_end (λ (z : Unit {0}). p) (λ z a. z) tt forget k i s at h

-- things of which nothing is told, each told of as nothing
pub many_told : {A : Type 0} (p : Reader A) (k : ℕ) (s : List ℕ) (at : ℕ)
    → mapped forget (many (λ s n. mapped forget (p s n)) k s at) ≡ mapped forget (many p k s at)
unfolding runs
many_told p zero s at = refl
many_told {A = A} p (suc k) s at = go (p s at) (λ n. many_told p k s n)
  where
    go : (x : Reading A)
        → ((n : ℕ)
        → mapped forget (many (λ s n. mapped forget (p s n)) k s n) ≡ mapped forget (many p k s n))
        → mapped forget (bind (mapped forget x)
        (λ a n. mapped (λ rest. a ∷ rest) (many (λ s n. mapped forget (p s n)) k s n)))
        ≡ mapped forget (bind x (λ a n. mapped (λ rest. a ∷ rest) (many p k s n)))
    go (done a n) e = simp mapped-mapped (e n)
    go (refused j q) e = refl

pub counted_told : {A : Type 0} (low limit : ℕ) (p : Reader A) (s : List ℕ) (at : ℕ)
    → mapped forget (counted low limit (λ s n. mapped forget (p s n)) s at) ≡ mapped forget (counted low limit p s at)
counted_told low limit p s at = go (between low limit 3 s at)
  where
    go : (x : Reading ℕ)
        → mapped forget (bind x (λ k n. many (λ s n. mapped forget (p s n)) k s n))
        ≡ mapped forget (bind x (λ k n. many p k s n))
    go (done k n) = many_told p k s n
    go (refused j q) = refl

-- three things one after the other, of two of which something is told
pub three_forget : {A B C D X Y : Type 0} (g : A → X) (h : B → Y) (mk : A → B → C → D) (x : Reading A)
    (y : ℕ → Reading B) (z : ℕ → Reading C)
    → mapped forget (bind x (λ a n. bind (y n) (λ b n. mapped (mk a b) (z n))))
    ≡ bind (mapped g x) (λ k n. bind (mapped h (y n)) (λ l n. mapped forget (z n)))
three_forget g h mk x y z = simp (mapped-bind, bind-mapped, mapped-mapped)

-- a consenter that is read is one of the characters
pub rising_below : (characters least : ℕ) (s : List ℕ) (at v n : ℕ) → rising_at characters least s at ≡ done v n
    → v < characters
unfolding rising_at
rising_below characters least s at v n e =
    let b = both (item characters s at) (λ w m. pick (ltb w least) (refused 6 at) (done w m)) v n e in
    let h = between_within 0 characters 4 s at b.value b.place b.left in
    let q = failed (ltb b.value least) 6 at (done b.value b.place) v n b.right in
    omega (arith, same_value q.1, h.1)

pub mapped_id : {A : Type 0} (x : Reading A) → mapped (λ a. a) x ≡ x
mapped_id (done a n) = refl
mapped_id (refused k p) = refl

pub mapped_same : {A B : Type 0} (f g : A → B) → ((a : A) → f a ≡ g a) → (x : Reading A) → mapped f x ≡ mapped g x
mapped_same f g h (done a n) = ap (λ b. done b n) (h a)
mapped_same f g h (refused k p) = refl

pub bind_same : {A B : Type 0} (x : Reading A) (f g : A → ℕ → Reading B) → ((a : A) (n : ℕ) → f a n ≡ g a n)
    → bind x f ≡ bind x g
bind_same (done a n) f g h = h a n
bind_same (refused k p) f g h = refl

-- one number that is stored behind those before it, and the rest
stored : (l : List ℕ) (i v : ℕ) (rest : List ℕ) → i < length l
    → take i l ++ (v ∷ rest) ≡ take (i + 1) (set l i v) ++ rest
stored l i v rest h = rw (add-one, take-suc-set) (sym (append_assoc (take i l) (v ∷ []) rest))

pub stored_one : (p : Reader ℕ) (l : List ℕ) (i k : ℕ) (s : List ℕ) (at : ℕ) → i < k → i < length l
    → mapped (λ rest. take i l ++ rest) (many p (k - i) s at)
    ≡ bind (p s at) (λ v n. mapped (λ rest. take (i + 1) (set l i v) ++ rest) (many p (k - (i + 1)) s n))
stored_one p l i k s at h g =
    runs_step _ _ _ (λ rest. take i l ++ rest) k i s at h
    ∙ bind_same (p s at) _ _ (λ v n.
    mapped_same (λ rest. take i l ++ (v ∷ rest)) (λ rest. take (i + 1) (set l i v) ++ rest)
    (λ rest. stored l i v rest g) (many p (k - (i + 1)) s n))

pub stored_all : (p : Reader ℕ) (l : List ℕ) (k i : ℕ) (s : List ℕ) (at : ℕ) → k ≤ i → i ≤ k
    → mapped (λ rest. take i l ++ rest) (many p (k - i) s at) ≡ done (take k l) at
stored_all p l k i s at h g =
    let e : i ≡ k = omega arith in
    runs_end _ _ _ (λ rest. take i l ++ rest) k i s at h
    ∙ ap (λ (r : List ℕ). done r at) (append-nil (take i l) ∙ ap (λ (j : ℕ). take j l) e)

-- one more, where k are told
longer : {A : Type 0} (x : Reading A) (f : A → ℕ) (k : ℕ) → mapped f x ≡ mapped (λ (u : Unit {0}). k) (mapped forget x)
    → mapped (λ a. suc (f a)) x ≡ mapped (λ (u : Unit {0}). suc k) (mapped forget x)
longer (done a n) f k e = ap (λ (m : ℕ). done (suc m) n) (same_value e)
longer (refused j q) f k e = refl

-- a run is as long as was asked for
pub runs-length : {S A : Type 0} (p : S → Reader A) (next : S → A → S) (z : S) (k : ℕ) (s : List ℕ) (at : ℕ)
    → mapped length (runs p next z k s at) ≡ mapped (λ (u : Unit {0}). k) (mapped forget (runs p next z k s at))
unfolding runs
runs-length p next z zero s at = refl
runs-length {A = A} p next z (suc k) s at = go (p z s at) (λ a n. runs-length p next (next z a) k s n)
  where
    go : (x : Reading A)
        → ((a : A) (n : ℕ)
        → mapped length (runs p next (next z a) k s n)
        ≡ mapped (λ (u : Unit {0}). k) (mapped forget (runs p next (next z a) k s n)))
        → mapped length (bind x (λ a n. mapped (λ rest. a ∷ rest) (runs p next (next z a) k s n)))
        ≡ mapped (λ (u : Unit {0}). suc k)
        (mapped forget (bind x (λ a n. mapped (λ rest. a ∷ rest) (runs p next (next z a) k s n))))
    go (done a n) e =
        simp mapped-mapped (simp mapped-mapped at (longer (runs p next (next z a) k s n) length k (e a n)))
    go (refused j q) e = refl

pub counted-length : {A : Type 0} (low limit : ℕ) (p : Reader A) (s : List ℕ) (at : ℕ)
    → mapped length (counted low limit p s at)
    ≡ bind (between low limit 3 s at) (λ k n. mapped (λ (u : Unit {0}). k) (mapped forget (many p k s n)))
counted-length low limit p s at = simp (mapped-bind, runs-length)

module _ (d : Dimensions) (s : List ℕ) (at : ℕ) where
  -- a test, read as the code reads it
  pub test_forget : mapped forget (test_at d s at)
      ≡ bind (between 0 5 3 s at) (λ k n.
      bind (mapped forget (many (item d.characters) k s n))
      (λ u n. bind (item 3 s n) (λ kind n. claim_at d.domains s n)))
  unfolding test_at claim_at
  test_forget = simp (mapped-bind, bind-mapped, mapped-mapped) (bind-bind (between 0 5 3 s at) _ _)

  pub effect_forget : mapped forget (effect_at d s at)
      ≡ bind (item (d.characters + 1) s at) (λ whom n. claim_at d.domains s n)
  unfolding effect_at claim_at
  effect_forget = simp (mapped-bind, mapped-mapped)

  pub node-forget : (nodes : ℕ)
      → mapped forget (node_at d nodes s at) ≡ bind (mapped forget (values_at d.domains s at))
      (λ u n. mapped forget (many (belief_at nodes) d.characters s n))
  unfolding node_at
  node-forget nodes = simp (mapped-bind, bind-mapped, mapped-mapped)

  pub nodes_length : mapped length (nodes_at d s at)
      ≡ bind (between 1 33 3 s at) (λ k n. mapped (λ (u : Unit {0}). k) (mapped forget (many (node_at d k) k s n)))
  unfolding nodes_at
  nodes_length = simp (mapped-bind, runs-length)

  pub rule_forget : mapped forget (rule_at d s at)
      ≡ bind (mapped forget (condition_at d s at)) (λ u n. mapped forget (number_at s n))
  unfolding rule_at
  rule_forget = simp (mapped-bind, bind-mapped, mapped-mapped)

  pub trigger_forget : mapped forget (trigger_at d s at)
      ≡ bind (mapped forget (condition_at d s at)) (λ u n. mapped forget (effects_at d s n))
  unfolding trigger_at
  trigger_forget = simp (mapped-bind, bind-mapped, mapped-mapped)

  pub action_forget : mapped forget (action_at d s at)
      ≡ bind (mapped forget (condition_at d s at))
      (λ u n. bind (mapped forget (effects_at d s n))
      (λ u n.
      bind (mapped forget (consenters_at d s n)) (λ u n. mapped forget (many (condition_at d) d.characters s n))))
  unfolding action_at
  action_forget = simp (mapped-bind, bind-mapped, mapped-mapped)

  pub theory_forget : mapped forget (theory_at d s at)
      ≡ bind (mapped length (counted 0 33 (action_at d) s at))
      (λ k n. bind (mapped length (counted 0 17 (trigger_at d) s n))
      (λ k n. mapped forget (many (rules_at d) (d.characters + 1) s n)))
  unfolding theory_at
  theory_forget = rw add-one
      (three_forget length length (λ actions triggers utilities.
      record {
        characters = d.characters;
        domains = d.domains;
        actions = actions;
        triggers = triggers;
        utilities = utilities;
      })
      (counted 0 33 (action_at d) s at) (counted 0 17 (trigger_at d) s) (many (rules_at d) (suc d.characters) s))
