-- What fits the layout: members by their places, the rows of a table, and how long a chart's bytes are. Assumes
-- nothing.
use Rattle.std.specs.Prelude.{ℕ, zero, suc, ◌+◌, ◌*◌, ◌<◌, ◌≤◌, ◌≡◌, refl, List, [], ◌∷◌, ◌++◌, map, length, get_or}
use Rattle.std.specs.Prelude.{set, replicate}
use Rattle.std.proofs.Common.{sym, ap, ◌∙◌, append-nil, append_assoc, mul-le-mul, zero-mul, suc-mul, arith}
use Rattle.std.proofs.Common.{length-append, lt-ltb}
use Rattle.pack.specs.Syntax.{Node}
use Rattle.pack.specs.State.{nowhere, node, Closed, Sized}
use Rattle.pack.specs.Layout.{number_bytes, list_bytes, node_bytes, chart_bytes}
use Rattle.pack.specs.Layout.{Each, Valued, OfFluent, NodeFits, ChartFits}

-- Members by their places
pub each_in : {A : Type 0} (P : A → Type 0) (x : A) (l : List A) → Each P l → (i : ℕ) → i < length l → P (get_or l i x)
unfolding Each
each_in P x [] e i h = absurd (omega arith)
each_in P x (a ∷ l) e zero h = e.0
each_in P x (a ∷ l) e (suc i) h = each_in P x l e.1 i (omega arith)

pub each_from : {A : Type 0} (P : A → Type 0) (x : A) (l : List A) → ((i : ℕ) → i < length l → P (get_or l i x))
    → Each P l
unfolding Each
each_from P x [] h = tt
each_from P x (a ∷ l) h = (h 0 (omega arith), each_from P x l (λ i g. h (suc i) (omega arith)))

-- and past the end, where the property holds of what is found there
pub each_at : {A : Type 0} (P : A → Type 0) (x : A) → P x → (l : List A) → Each P l → (i : ℕ) → P (get_or l i x)
unfolding Each
each_at P x h [] e i = h
each_at P x h (a ∷ l) e zero = e.0
each_at P x h (a ∷ l) e (suc i) = each_at P x h l e.1 i

pub each_weak : {A : Type 0} (P Q : A → Type 0) → ((a : A) → P a → Q a) → (l : List A) → Each P l → Each Q l
unfolding Each
each_weak P Q f [] e = tt
each_weak P Q f (a ∷ l) e = (f a e.0, each_weak P Q f l e.1)

pub sizes_small : (ds : List ℕ) → Each (λ d. (1 ≤ d) × (d ≤ 128)) ds → (f : ℕ) → get_or ds f 0 ≤ 128
sizes_small ds h f =
    each_at (λ d. d ≤ 128) 0 (omega arith) ds (each_weak (λ d. (1 ≤ d) × (d ≤ 128)) (λ d. d ≤ 128) (λ d g. g.1) ds h) f

pub valued-length : (ds values : List ℕ) → Valued ds values → length values ≡ length ds
unfolding Valued
valued-length [] [] h = refl
valued-length [] (v ∷ values) h = absurd h
valued-length (x ∷ ds) [] h = absurd h
valued-length (x ∷ ds) (v ∷ values) h = ap suc (valued-length ds values h.1)

-- a value of the fluent's domain may be written
pub valued_set : (ds values : List ℕ) (f v : ℕ) → OfFluent ds f v → Valued ds values → Valued ds (set values f v)
unfolding Valued
valued_set [] [] f v h g = absurd (omega (arith, h.0))
valued_set [] (w ∷ values) f v h g = absurd g
valued_set (d ∷ ds) [] f v h g = absurd g
valued_set (d ∷ ds) (w ∷ values) zero v h g = (h.1, g.1)
valued_set (d ∷ ds) (w ∷ values) (suc f) v h g = (g.0, valued_set ds values f v (omega (arith, h.0), h.1) g.1)

-- A table that fits: its beliefs name its nodes, and each node has a value for each fluent
module _ (C : ℕ) (D : List ℕ) (t : List Node) (h : ChartFits C D t) where
  pub fits-node : (n : ℕ) → n < length t → NodeFits C D (length t) (node t n)
  fits-node = each_in (NodeFits C D (length t)) nowhere t h.2

  pub fits_closed : Closed C t
  fits_closed n c l g =
      let r = fits-node n l in
      each_in (λ b. b < length t) 0 (node t n).beliefs r.beliefs c (omega (arith, r.believers))

  pub fits_sized : Sized (length D) t
  fits_sized n l = valued-length D (node t n).values (fits-node n l).values

-- A number below 128 is one byte, so a chart has a byte for each number in it
pub one_byte : (v : ℕ) → v < 128 → length (number_bytes v) ≡ 1
unfolding number_bytes
one_byte v h = rw (lt-ltb v 128 h) refl

-- numbers below 128 are written as they are
pub plain_bytes : (l : List ℕ) → Each (λ v. v < 128) l → list_bytes number_bytes l ≡ l
unfolding Each list_bytes number_bytes
plain_bytes [] e = refl
plain_bytes (v ∷ l) e = rw (lt-ltb v 128 e.0) (ap (λ (l : List ℕ). v ∷ l) (plain_bytes l e.1))

pub next_bytes : (l : List ℕ) → Each (λ v. suc v < 128) l → list_bytes (λ v. number_bytes (suc v)) l ≡ map suc l
unfolding Each list_bytes number_bytes
next_bytes [] e = refl
next_bytes (v ∷ l) e = rw (lt-ltb (suc v) 128 e.0) (ap (λ (l : List ℕ). suc v ∷ l) (next_bytes l e.1))

-- one more at the end
pub list_snoc : {A : Type 0} (f : A → List ℕ) (l : List A) (a : A)
    → list_bytes f (l ++ (a ∷ [])) ≡ list_bytes f l ++ f a
unfolding list_bytes
list_snoc f [] a = append-nil (f a)
list_snoc f (b ∷ l) a = ap (λ (x : List ℕ). f b ++ x) (list_snoc f l a)
    ∙ sym (append_assoc (f b) (list_bytes f l) (f a))

list_length : {A : Type 0} (f : A → List ℕ) (k : ℕ) (l : List A) → Each (λ a. length (f a) ≡ k) l
    → length (list_bytes f l) ≡ length l * k
unfolding Each list_bytes
list_length f k [] e = omega (arith, zero-mul k)
list_length f k (a ∷ l) e =
    omega (arith, length-append (f a) (list_bytes f l), e.0, list_length f k l e.1, suc-mul (length l) k)

pub values_small : (ds values : List ℕ) → ((f : ℕ) → get_or ds f 0 ≤ 128) → Valued ds values
    → Each (λ v. v < 128) values
unfolding Valued Each
values_small [] [] small h = tt
values_small [] (v ∷ values) small h = absurd h
values_small (d ∷ ds) [] small h = absurd h
values_small (d ∷ ds) (v ∷ values) small h =
    (omega (arith, h.0, small 0), values_small ds values (λ f. small (suc f)) h.1)

module _ (C : ℕ) (D : List ℕ) (small : (f : ℕ) → get_or D f 0 ≤ 128) where
  node-length : (nodes : ℕ) → nodes ≤ 32 → (n : Node) → NodeFits C D nodes n → length (node_bytes n) ≡ length D + C
  node-length nodes w n h =
      omega (
        arith,
        length-append (list_bytes number_bytes n.values) (list_bytes (λ b. number_bytes (suc b)) n.beliefs),
        list_length number_bytes 1 n.values (each_weak (λ v. v < 128) (λ v. length (number_bytes v) ≡ 1)
            (λ v l. one_byte v l) n.values (values_small D n.values small h.values)),
        list_length (λ b. number_bytes (suc b)) 1 n.beliefs
            (each_weak (λ b. b < nodes) (λ b. length (number_bytes (suc b)) ≡ 1) (λ b l. one_byte (suc b) (omega arith))
            n.beliefs h.beliefs),
        valued-length D n.values h.values,
        h.believers,
      )

  -- a count, and a row for each node
  pub chart_length : (t : List Node) → ChartFits C D t → length (chart_bytes t) ≡ 1 + length t * (length D + C)
  chart_length t h =
      omega (
        arith,
        length-append (number_bytes (length t)) (list_bytes node_bytes t),
        one_byte (length t) (omega (arith, h.1)),
        list_length node_bytes (length D + C) t (each_weak (NodeFits C D (length t))
            (λ n. length (node_bytes n) ≡ length D + C) (node-length (length t) h.1) t h.2),
      )

  -- "It has at most 961 bytes"
  pub chart_short : C ≤ 6 → length D ≤ 24 → (t : List Node) → ChartFits C D t → length (chart_bytes t) ≤ 961
  chart_short few slim t h =
      let wide : length D + C ≤ 30 = omega arith in
      omega (arith, chart_length t h, mul-le-mul h.1 wide)

-- Domains of 128 values each hold all that smaller ones do
abbrev pub widest : List ℕ → List ℕ
widest D = replicate (length D) 128

pub widest_small : (D : List ℕ) (f : ℕ) → get_or (widest D) f 0 ≤ 128
widest_small [] f = omega arith
widest_small (d ∷ D) zero = omega arith
widest_small (d ∷ D) (suc f) = widest_small D f

valued-widest : (D values : List ℕ) → ((f : ℕ) → get_or D f 0 ≤ 128) → Valued D values → Valued (widest D) values
unfolding Valued
valued-widest [] [] small h = tt
valued-widest [] (v ∷ values) small h = absurd h
valued-widest (d ∷ D) [] small h = absurd h
valued-widest (d ∷ D) (v ∷ values) small h =
    (omega (arith, h.0, small 0), valued-widest D values (λ f. small (suc f)) h.1)

pub fits-widest : (C : ℕ) (D : List ℕ) → ((f : ℕ) → get_or D f 0 ≤ 128) → (t : List Node) → ChartFits C D t
    → ChartFits C (widest D) t
fits-widest C D small t h = (
  h.0,
  h.1,
  each_weak (NodeFits C D (length t)) (NodeFits C (widest D) (length t))
      (λ n f. record {
        values = valued-widest D n.values small f.values;
        believers = f.believers;
        beliefs = f.beliefs;
      }) t h.2,
)
