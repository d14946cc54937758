-- Readers that accept what is written, wherever it stands: numbers, and readers made of readers. Assumes nothing.
use Rattle.std.specs.Prelude.{ℕ, suc, ◌+◌, ◌*◌, ◌/◌, ◌%◌, ◌<◌, ◌≤◌, ◌≡◌, refl, Bool, true, false, length, get_or, ltb}
use Rattle.std.proofs.Common.{sym, ap, ◌∙◌, subst, arith, length-append, get_or-append-add, ltb-true, ltb-false, lt-ltb}
use Rattle.std.proofs.Common.{le-ltb, ne_eqb, eq-eqb}
use mathlib.Core.List.{List, [], ◌∷◌, ◌++◌, append_assoc, append-nil}
use Rattle.std.proofs.Math.Nat.{add-zero}
use Rattle.std.proofs.Math.Seq.{get_or-append_seam}
use Rattle.std.proofs.lemmas.Bool.{lt-leb}
use Rattle.pack.specs.Reading.{done, Reader, pick, bind, mapped, runs, many, gives, whole, ended}
use Rattle.pack.specs.Number.{number_at, between, item, counted}
use Rattle.pack.specs.Layout.{number_bytes, list_bytes, counted_bytes, Each, Some}

-- wherever these bytes stand, the value is read and the place after them
pub record Accepts {A : Type 0} (p : Reader A) (bytes : List ℕ) (a : A) : Type 0 where
  pub reads : (pre post : List ℕ) → p (pre ++ (bytes ++ post)) (length pre) ≡ done a (length pre + length bytes)

-- what a number is by its bytes, where the bytes stand
pub one : (s : List ℕ) (at a : ℕ) → at < length s → get_or s at 0 ≡ a → a < 128 → number_at s at ≡ done a (at + 1)
unfolding number_at
one s at a l e h =
    let m : a % 128 ≡ a = omega arith in
    simp (lt-leb (length s) at l, e, lt-ltb a 128 h, m)

pub two : (s : List ℕ) (at a b v : ℕ) → at + 1 < length s → get_or s at 0 ≡ a → get_or s (at + 1) 0 ≡ b → 128 ≤ a
    → 0 < b
    → b < 128 → a % 128 + 128 * (b % 128) ≡ v → number_at s at ≡ done v (at + 2)
unfolding number_at
two s at a b v l e f h i j m =
    let l0 : at < length s = omega arith in
    let i0 : b ≡ 0 → ⊥ = omega arith in
    simp (lt-leb (length s) at l0, lt-leb (length s) (at + 1) l, e, f, le-ltb a 128 h, ne_eqb b 0 i0, lt-ltb b 128 j, m)

pub three : (s : List ℕ) (at a b d v : ℕ) → at + 2 < length s → get_or s at 0 ≡ a → get_or s (at + 1) 0 ≡ b
    → get_or s (at + 2) 0 ≡ d → 128 ≤ a → 128 ≤ b → 0 < d → d ≤ 3 → a % 128 + 128 * (b % 128) + 16384 * (d % 128) ≡ v
    → number_at s at ≡ done v (at + 3)
unfolding number_at
three s at a b d v l e f g h i j k m =
    let l0 : at < length s = omega arith in
    let l1 : at + 1 < length s = omega arith in
    let i0 : b ≡ 0 → ⊥ = omega arith in
    let j0 : d ≡ 0 → ⊥ = omega arith in
    simp (
      lt-leb (length s) at l0,
      lt-leb (length s) (at + 1) l1,
      lt-leb (length s) (at + 2) l,
      e,
      f,
      g,
      le-ltb a 128 h,
      ne_eqb b 0 i0,
      le-ltb b 128 i,
      ne_eqb d 0 j0,
      le-ltb 3 d k,
      m,
    )

by_size : (v : ℕ) → v < 65536 → (x y : Bool) → ltb v 128 ≡ x → ltb v 16384 ≡ y
    → (pre post : List ℕ)
    → let bytes = pick x (v ∷ [])
    (pick y ((v % 128 + 128) ∷ (v / 128) ∷ []) ((v % 128 + 128) ∷ (v / 128 % 128 + 128) ∷ (v / 16384) ∷ [])) in
    number_at (pre ++ (bytes ++ post)) (length pre) ≡ done v (length pre + length bytes)
by_size v h true y p q pre post =
    one (pre ++ (v ∷ post)) (length pre) v (omega (arith, length-append pre (v ∷ post)))
    (get_or-append_seam pre v post 0)
    (ltb-true v 128 p)
by_size v h false true p q pre post =
    let big = ltb-false v 128 p in
    let less = ltb-true v 16384 q in
    let rest = (v % 128 + 128) ∷ (v / 128) ∷ post in
    two (pre ++ rest) (length pre) (v % 128 + 128) (v / 128) v (omega (arith, length-append pre rest))
    (get_or-append_seam pre (v % 128 + 128) ((v / 128) ∷ post) 0) (get_or-append-add pre rest 1 0) (omega arith)
    (omega arith) (omega arith) (omega arith)
by_size v h false false p q pre post =
    let big = ltb-false v 16384 q in
    let rest = (v % 128 + 128) ∷ (v / 128 % 128 + 128) ∷ (v / 16384) ∷ post in
    three (pre ++ rest) (length pre) (v % 128 + 128) (v / 128 % 128 + 128) (v / 16384) v
    (omega (arith, length-append pre rest)) (get_or-append_seam pre (v % 128 + 128)
    ((v / 128 % 128 + 128) ∷ (v / 16384) ∷ post) 0) (get_or-append-add pre rest 1 0) (get_or-append-add pre rest 2 0)
    (omega arith) (omega arith) (omega arith) (omega arith) (omega arith)

-- every number up to 65,535, written in its shortest form, is read
pub number_accepts : (v : ℕ) → v < 65536 → Accepts number_at (number_bytes v) v
unfolding number_bytes
number_accepts v h = record { reads = by_size v h (ltb v 128) (ltb v 16384) refl refl }

-- one thing and then another
pub then_accepts : {A B : Type 0} {p : Reader A} (q : A → Reader B) {xs ys : List ℕ} {a : A} {b : B} → Accepts p xs a
    → Accepts (q a) ys b → Accepts (λ s at. bind (p s at) (λ a n. q a s n)) (xs ++ ys) b
then_accepts q {xs = xs} {ys = ys} e f = record {
  reads = λ pre post.
      let all : pre ++ ((xs ++ ys) ++ post) ≡ pre ++ (xs ++ (ys ++ post)) = simp append_assoc in
      let again : pre ++ (xs ++ (ys ++ post)) ≡ (pre ++ xs) ++ (ys ++ post) = simp append_assoc in
      let there : length pre + length xs ≡ length (pre ++ xs) = sym (length-append pre xs) in
      let last : length (pre ++ xs) + length ys
      ≡ length pre + length (xs ++ ys) = omega (arith, length-append pre xs, length-append xs ys) in
      rw (all, e.reads pre (ys ++ post)) (rw (again, there, f.reads (pre ++ xs) post) (rw last));
}

-- a value told otherwise
pub mapped_accepts : {A B : Type 0} {p : Reader A} {xs : List ℕ} {a : A} (g : A → B) → Accepts p xs a
    → Accepts (λ s at. mapped g (p s at)) xs (g a)
mapped_accepts g e = record { reads = λ pre post. rw (e.reads pre post) }

pub between_accepts : (low limit number v : ℕ) → low ≤ v → v < limit → limit ≤ 65536
    → Accepts (between low limit number) (number_bytes v) v
unfolding between
between_accepts low limit number v h g w =
    record {
      reads = λ pre post. rw ((number_accepts v (omega arith)).reads pre post, le-ltb v low h, lt-ltb v limit g);
    }

pub item_accepts : (limit v : ℕ) → v < limit → limit ≤ 65536 → Accepts (item limit) (number_bytes v) v
item_accepts limit v h w = between_accepts 0 limit 4 v (omega arith) h w

-- Each of a list is read where it stands
module _ {S A : Type 0} (p : S → Reader A) (next : S → A → S) (f : A → List ℕ) where
  unfoldable pub Run : S → List A → Type 0
  Run z [] = Unit {0}
  Run z (a ∷ l) = Accepts (p z) (f a) a × Run (next z a) l

  pub runs_accepts : (l : List A) (z : S) → Run z l → Accepts (runs p next z (length l)) (list_bytes f l) l
  unfolding Run runs list_bytes
  runs_accepts [] z r = record { reads = λ pre post. rw add-zero }
  runs_accepts (a ∷ l) z r =
      then_accepts _ r.0 (mapped_accepts (λ rest. a ∷ rest) (runs_accepts l (next z a) r.1))

module _ {A : Type 0} {p : Reader A} {f : A → List ℕ} {P : A → Type 0} (h : (a : A) → P a → Accepts p (f a) a) where
  many_run : (l : List A) → Each P l → Run (λ (z : Unit {0}). p) (λ z a. z) f tt l
  unfolding Each Run
  many_run [] e = tt
  many_run (a ∷ l) e = (h a e.0, many_run l e.1)

  pub many_accepts : (l : List A) → Each P l → Accepts (many p (length l)) (list_bytes f l) l
  many_accepts l e = runs_accepts (λ (z : Unit {0}). p) (λ z a. z) f l tt (many_run l e)

  -- as many as are asked for
  pub many_of : (k : ℕ) (l : List A) → length l ≡ k → Each P l → Accepts (many p k) (list_bytes f l) l
  many_of k l g e = subst (λ (k : ℕ). Accepts (many p k) (list_bytes f l) l) g (many_accepts l e)

  pub counted_accepts : (low high : ℕ) → high < 65536 → (l : List A) → Some low high P l
      → Accepts (counted low (suc high) p) (counted_bytes f l) l
  counted_accepts low high w l e =
      then_accepts _ (between_accepts low (suc high) 3 (length l) e.0 (omega (arith, e.1)) w)
      (many_accepts l e.2)

-- what is accepted wherever it stands is accepted alone
pub whole_accepts : {A : Type 0} (p : Reader A) (bytes : List ℕ) (a : A) → Accepts p bytes a → whole p bytes ≡ gives a
whole_accepts p bytes a e =
    let h : p bytes 0 ≡ done a (length bytes) = ap (λ (l : List ℕ). p l 0) (sym (append-nil bytes)) ∙ e.reads [] []
    ∙ ap (done a) (let g : 0 + length bytes ≡ length bytes = omega arith in g) in
    ap (ended (length bytes)) h ∙ (rw (eq-eqb (length bytes) (length bytes) refl))
