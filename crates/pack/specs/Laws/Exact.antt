-- Readers of which each value that is read stands there as it is written: numbers, and readers made of readers. Assumes
-- nothing.
use Prim.Native.Nat.{ℕ, zero, suc, ◌+◌, ◌*◌, ◌/◌, ◌%◌, ◌-◌, ◌<◌, ◌≤◌}
use Rattle.std.specs.Prelude.{◌≡◌, Bool}
use Rattle.std.proofs.Math.Path.{refl, sym, ap, subst}
use Rattle.std.proofs.Common.{◌∙◌, add-zero, ext_get_or}
use Rattle.std.proofs.Math.Bool.{true, false}
use mathlib.Core.List.{List, [], ◌∷◌, ◌++◌}
use native.Mathlib.Omega.{arith}
use Rattle.std.proofs.Math.ListN.{length, get_or, length-append}
use Rattle.std.proofs.Math.Arith.{digits_div, digits_mod}
use Rattle.std.proofs.Math.Dec.{ltb, leb, eqb}
use borrow.Author.Tests.{ltb-true, ltb-false, leb-false, eqb-false, lt-ltb, le-ltb}
use Rattle.pack.specs.Reading.{done, refused, Reader, pick, bind, mapped, runs, many, gives, whole}
use Rattle.pack.specs.Number.{number_at, between, item, counted}
use Rattle.pack.specs.Layout.{number_bytes, list_bytes, counted_bytes, Each, Some}
use Rattle.pack.specs.Laws.Reading.{never, same_value, same_place, both, unmapped, passed, failed, ended_gives}

-- these bytes stand in s from a place on
unfoldable pub Stands : List ℕ → ℕ → List ℕ → Type 0
Stands s at [] = Unit {0}
Stands s at (x ∷ xs) = (at < length s) × (get_or s at 0 ≡ x) × Stands s (at + 1) xs

stands_append : (s : List ℕ) (at : ℕ) (xs ys : List ℕ) → Stands s at xs → Stands s (at + length xs) ys
    → Stands s at (xs ++ ys)
unfolding Stands
stands_append s at [] ys h g = subst (λ (n : ℕ). Stands s n ys) (add-zero at) g
stands_append s at (x ∷ xs) ys h g =
    let e : at + suc (length xs) ≡ (at + 1) + length xs = omega arith in
    (h.0, h.1, stands_append s (at + 1) xs ys h.2 (subst (λ (n : ℕ). Stands s n ys) e g))

stands_at : (s : List ℕ) (at : ℕ) (xs : List ℕ) → Stands s at xs → (i : ℕ) → i < length xs
    → get_or s (at + i) 0 ≡ get_or xs i 0
unfolding Stands
stands_at s at [] h i l = absurd (omega arith)
stands_at s at (x ∷ xs) h zero l = ap (λ (n : ℕ). get_or s n 0) (add-zero at) ∙ h.1
stands_at s at (x ∷ xs) h (suc i) l =
    let e : at + suc i ≡ (at + 1) + i = omega arith in
    ap (λ (n : ℕ). get_or s n 0) e ∙ stands_at s (at + 1) xs h.2 i (omega arith)

-- a list of bytes
abbrev pub Bytes : List ℕ → Type 0
Bytes s = (i : ℕ) → get_or s i 0 < 256

-- a value that is read has a property, and stands there as it is written
pub record Exact {A : Type 0} (p : Reader A) (P : A → Type 0) (f : A → List ℕ) : Type 0 where
  pub sound : (s : List ℕ) → Bytes s → (at : ℕ) (a : A) (n : ℕ) → p s at ≡ done a n
      → P a × Stands s at (f a) × (n ≡ at + length (f a))

-- a byte with its top bit set is 128 and its low seven bits
topped : (a : ℕ) → 128 ≤ a → a < 256 → a ≡ a % 128 + 128
topped a h l =
    let e : 1 * 128 + (a - 128) ≡ a = omega arith in
    let g : a - 128 < 128 = omega arith in
    let m : a % 128 ≡ a - 128 = ap (λ (n : ℕ). n % 128) (sym e) ∙ digits_mod 1 g in
    omega (arith, m)

-- Numbers
module _ (s : List ℕ) (bytes : Bytes s) (at : ℕ) where
  abbrev Goal : ℕ → ℕ → Type 0
  Goal v n = (v < 65536) × Stands s at (number_bytes v) × (n ≡ at + length (number_bytes v))

  one : (a : ℕ) → at < length s → get_or s at 0 ≡ a → a < 128 → Goal a (at + 1)
  unfolding Stands number_bytes
  one a l e h = rw (lt-ltb a 128 h) (omega arith, (l, e, tt), omega arith)

  two : (a b v : ℕ) → at + 1 < length s → get_or s at 0 ≡ a → get_or s (at + 1) 0 ≡ b → 128 ≤ a → 0 < b → b < 128
      → a % 128 + 128 * (b % 128) ≡ v → Goal v (at + 2)
  unfolding Stands number_bytes
  two a b v l e f h i j m =
      let w : a < 256 = omega (arith, bytes at) in
      let x : 128 ≤ v = omega arith in
      let y : v < 16384 = omega arith in
      let low : (b % 128) * 128 + a % 128 ≡ v = omega arith in
      let less : a % 128 < 128 = omega arith in
      let ea : a ≡ v % 128 + 128 = topped a h w
      ∙ ap (λ (n : ℕ). n + 128) (sym (ap (λ (n : ℕ). n % 128) (sym low) ∙ digits_mod (b % 128) less)) in
      let mb : b % 128 ≡ b = omega (arith, j) in
      let eb : b ≡ v / 128 = sym (ap (λ (n : ℕ). n / 128) (sym low) ∙ digits_div (b % 128) less ∙ mb) in
      rw (le-ltb v 128 x, lt-ltb v 16384 y) (omega arith, (omega arith, e ∙ ea, (l, f ∙ eb, tt)), omega arith)

  three : (a b d v : ℕ) → at + 2 < length s → get_or s at 0 ≡ a → get_or s (at + 1) 0 ≡ b → get_or s (at + 2) 0 ≡ d
      → 128 ≤ a
      → 128 ≤ b → 0 < d → d ≤ 3
      → a % 128 + 128 * (b % 128) + 16384 * (d % 128) ≡ v → Goal v (at + 3)
  unfolding Stands number_bytes
  three a b d v l e f g h i j k m =
      let wa : a < 256 = omega (arith, bytes at) in
      let wb : b < 256 = omega (arith, bytes (at + 1)) in
      let x : 128 ≤ v = omega arith in
      let y : 16384 ≤ v = omega arith in
      let low : ((d % 128) * 128 + b % 128) * 128 + a % 128 ≡ v = omega arith in
      let all : (d % 128) * 16384 + ((b % 128) * 128 + a % 128) ≡ v = omega arith in
      let la : a % 128 < 128 = omega arith in
      let lb : b % 128 < 128 = omega arith in
      let lab : (b % 128) * 128 + a % 128 < 16384 = omega arith in
      let mid : v / 128 ≡ (d % 128) * 128 + b % 128 = ap (λ (n : ℕ). n / 128) (sym low)
      ∙ digits_div ((d % 128) * 128 + b % 128) la in
      let ea : a ≡ v % 128 + 128 = topped a h wa
      ∙ ap (λ (n : ℕ). n + 128) (sym (ap (λ (n : ℕ). n % 128) (sym low) ∙ digits_mod ((d % 128) * 128 + b % 128) la)) in
      let eb : b ≡ v / 128 % 128 + 128 = topped b i wb
      ∙ ap (λ (n : ℕ). n + 128) (sym (ap (λ (n : ℕ). n % 128) mid ∙ digits_mod (d % 128) lb)) in
      let md : d % 128 ≡ d = omega arith in
      let ed : d ≡ v / 16384 = sym (ap (λ (n : ℕ). n / 16384) (sym all) ∙ digits_div (d % 128) lab ∙ md) in
      let third : (at + 1) + 1 ≡ at + 2 = omega arith in
      rw (le-ltb v 128 x, le-ltb v 16384 y) (
        omega arith,
        (omega arith, e ∙ ea, (omega arith, f ∙ eb, (omega arith, ap (λ (n : ℕ). get_or s n 0) third ∙ g ∙ ed, tt))),
        omega arith,
      )

  number : (v n : ℕ) → number_at s at ≡ done v n → Goal v n
  unfolding number_at
  number v n e =
      let a = get_or s at 0 in
      let b = get_or s (at + 1) 0 in
      let d = get_or s (at + 2) 0 in
      first a b d (leb (length s) at) (ltb a 128) refl refl (leb (length s) (at + 1)) (eqb b 0)
      (ltb b 128) refl refl refl (leb (length s) (at + 2)) (eqb d 0) (ltb 3 d) refl refl refl refl refl refl e
    where
      first : (a b d : ℕ) (x y : Bool) → leb (length s) at ≡ x → ltb a 128 ≡ y
          → (x1 y1 z1 : Bool) → leb (length s) (at + 1) ≡ x1 → eqb b 0 ≡ y1 → ltb b 128 ≡ z1
          → (x2 y2 z2 : Bool) → leb (length s) (at + 2) ≡ x2 → eqb d 0 ≡ y2 → ltb 3 d ≡ z2
          → get_or s at 0 ≡ a → get_or s (at + 1) 0 ≡ b → get_or s (at + 2) 0 ≡ d
          → pick x (refused 1 (length s)) (pick y (done (a % 128) (at + 1))
          (pick x1 (refused 1 (length s)) (pick y1 (refused 2 at) (pick z1 (done (a % 128 + 128 * (b % 128)) (at + 2))
          (pick x2 (refused 1 (length s)) (pick y2 (refused 2 at)
          (pick z2 (refused 2 at) (done (a % 128 + 128 * (b % 128) + 16384 * (d % 128)) (at + 3))))))))) ≡ done v n
          → Goal v n
      first a b d true y p q x1 y1 z1 p1 q1 r1 x2 y2 z2 p2 q2 r2 ea eb ed e = never e
      first a b d false true p q x1 y1 z1 p1 q1 r1 x2 y2 z2 p2 q2 r2 ea eb ed e =
          let l = leb-false (length s) at p in
          let h = ltb-true a 128 q in
          let v0 : a ≡ v = (let m : a % 128 ≡ a = omega arith in sym m ∙ same_value e) in
          let n0 : at + 1 ≡ n = same_place e in
          subst (λ (n : ℕ). Goal v n) n0 (one v (omega arith) (ea ∙ v0) (omega arith))
      first a b d false false p q true y1 z1 p1 q1 r1 x2 y2 z2 p2 q2 r2 ea eb ed e = never e
      first a b d false false p q false true z1 p1 q1 r1 x2 y2 z2 p2 q2 r2 ea eb ed e = never e
      first a b d false false p q false false true p1 q1 r1 x2 y2 z2 p2 q2 r2 ea eb ed e =
          let l = leb-false (length s) (at + 1) p1 in
          let h = ltb-false a 128 q in
          let i = eqb-false b 0 q1 in
          let j = ltb-true b 128 r1 in
          subst (λ (n : ℕ). Goal v n) (same_place e)
          (two a b v (omega arith) ea eb (omega arith) (omega arith) j (same_value e))
      first a b d false false p q false false false p1 q1 r1 true y2 z2 p2 q2 r2 ea eb ed e = never e
      first a b d false false p q false false false p1 q1 r1 false true z2 p2 q2 r2 ea eb ed e = never e
      first a b d false false p q false false false p1 q1 r1 false false true p2 q2 r2 ea eb ed e = never e
      first a b d false false p q false false false p1 q1 r1 false false false p2 q2 r2 ea eb ed e =
          let l = leb-false (length s) (at + 2) p2 in
          let h = ltb-false a 128 q in
          let i = ltb-false b 128 r1 in
          let j = eqb-false d 0 q2 in
          let k = ltb-false 3 d r2 in
          subst (λ (n : ℕ). Goal v n) (same_place e)
          (three a b d v (omega arith) ea eb ed (omega arith) (omega arith) (omega arith) (omega arith) (same_value e))

pub number_exact : Exact number_at (λ v. v < 65536) number_bytes
number_exact = record { sound = λ s b at v n e. number s b at v n e }

-- Readers made of readers
pub exact_weak : {A : Type 0} {p : Reader A} {f : A → List ℕ} (P Q : A → Type 0) → ((a : A) → P a → Q a) → Exact p P f
    → Exact p Q f
exact_weak P Q w x = record { sound = λ s b at a n e. let (h, st, m) = x.sound s b at a n e in (w a h, st, m) }

-- one thing and then another: f' writes the first as the whole has it, g what comes after it
pub then_exact : {A B : Type 0} {p : Reader A} (q : A → Reader B) {P : A → Type 0} {f : A → List ℕ} (R : B → Type 0)
    (f' g : B → List ℕ)
    → Exact p P f → ((a : A) → P a → Exact (q a) (λ b. R b × (f a ≡ f' b)) g)
    → Exact (λ s at. bind (p s at) (λ a n. q a s n)) R (λ b. f' b ++ g b)
then_exact {p = p} q {f = f} R f' g x y = record {
  sound = λ s bs at b n e.
      let both' = both (p s at) (λ a n. q a s n) b n e in
      let (ha, sa, na) = x.sound s bs at both'.value both'.place both'.left in
      let (hb, sb, nb) = (y both'.value ha).sound s bs both'.place b n both'.right in
      let same = hb.1 in
      let mid : both'.place ≡ at + length (f' b) = na ∙ ap (λ (l : List ℕ). at + length l) same in (
        hb.0,
        stands_append s at (f' b) (g b) (subst (Stands s at) same sa) (subst (λ (m : ℕ). Stands s m (g b)) mid sb),
        nb ∙ (let last : both'.place + length (g b)
            ≡ at + length (f' b ++ g b) = omega (arith, mid, length-append (f' b) (g b)) in last),
      );
}

-- a value told otherwise
pub mapped_exact : {A B : Type 0} {p : Reader A} {P : A → Type 0} {f : A → List ℕ} (mk : A → B) (R : B → Type 0)
    (g : B → List ℕ)
    → Exact p P f → ((a : A) → P a → R (mk a) × (f a ≡ g (mk a))) → Exact (λ s at. mapped mk (p s at)) R g
mapped_exact {p = p} mk R g x y = record {
  sound = λ s bs at b n e.
      let m = unmapped mk (p s at) b n e in
      let (ha, sa, na) = x.sound s bs at m.value n m.left in
      let (hr, same) = y m.value ha in
      let bytes = same ∙ ap g m.right in
      (subst R m.right hr, subst (Stands s at) bytes sa, na ∙ ap (λ (l : List ℕ). at + length l) bytes);
}

pub between_exact : (low limit number : ℕ) → Exact (between low limit number) (λ v. (low ≤ v) × (v < limit))
    number_bytes
unfolding between
between_exact low limit number = record {
  sound = λ s bs at v n e.
      let x = both (number_at s at)
      (λ v n. pick (ltb v low) (refused number at) (pick (ltb v limit) (done v n) (refused number at))) v n e in
      let (h, stands, place) = number_exact.sound s bs at x.value x.place x.left in
      let (below, rest) = failed (ltb x.value low) number at
      (pick (ltb x.value limit) (done x.value x.place) (refused number at)) v n x.right in
      let (above, given) = passed (ltb x.value limit) number at (done x.value x.place) v n rest in
      let same = same_value given in (
        (omega (arith, ltb-false x.value low below), omega (arith, ltb-true x.value limit above)),
        subst (λ (w : ℕ). Stands s at (number_bytes w)) same stands,
        sym (same_place given) ∙ place ∙ ap (λ (w : ℕ). at + length (number_bytes w)) same,
      );
}

pub item_exact : (limit : ℕ) → Exact (item limit) (λ v. v < limit) number_bytes
item_exact limit = exact_weak (λ v. (0 ≤ v) × (v < limit)) (λ v. v < limit) (λ v h. h.1) (between_exact 0 limit 4)

module _ {S A : Type 0} (p : S → Reader A) (next : S → A → S) (P : S → A → Type 0) (f : A → List ℕ)
    (x : (z : S) → Exact (p z) (P z) f) where
  -- each has the property that what stood before it asks for
  unfoldable pub Chained : S → List A → Type 0
  Chained z [] = Unit {0}
  Chained z (a ∷ l) = P z a × Chained (next z a) l

  pub runs_exact : (k : ℕ) (z : S) → Exact (runs p next z k) (λ l. (length l ≡ k) × Chained z l) (list_bytes f)
  unfolding Chained runs list_bytes
  runs_exact zero z = record {
    sound = λ s bs at l n e.
        let same = same_value e in
        subst (λ (l : List A).
        ((length l ≡ 0) × Chained z l) × Stands s at (list_bytes f l) × (n ≡ at + length (list_bytes f l))) same
        ((refl, tt), nothing s at, sym (same_place e) ∙ sym (add-zero at));
  }
    where
      nothing : (s : List ℕ) (at : ℕ) → Stands s at []
      nothing s at = unfold Stands in tt
  runs_exact (suc k) z = record {
    sound = λ s bs at l n e.
        let b = both (p z s at) (λ a n. mapped (λ rest. a ∷ rest) (runs p next (next z a) k s n)) l n e in
        let m = unmapped (λ rest. b.value ∷ rest) (runs p next (next z b.value) k s b.place) l n b.right in
        let (ha, sa, na) = (x z).sound s bs at b.value b.place b.left in
        let (hl, sl, nl) = (runs_exact k (next z b.value)).sound s bs b.place m.value n m.left in
        subst (λ (l : List A).
        ((length l ≡ suc k) × Chained z l) × Stands s at (list_bytes f l)
        × (n ≡ at + length (list_bytes f l))) m.right (
          (ap suc hl.0, (ha, hl.1)),
          stands_append s at (f b.value) (list_bytes f m.value) sa
              (subst (λ (q : ℕ). Stands s q (list_bytes f m.value)) na sl),
          omega (arith, nl, na, length-append (f b.value) (list_bytes f m.value)),
        );
  }

module _ {A : Type 0} {p : Reader A} (P : A → Type 0) {f : A → List ℕ} (x : Exact p P f) where
  chained_each : (l : List A) → Chained (λ (z : Unit {0}). p) (λ z a. z) (λ z. P) f (λ z. x) tt l → Each P l
  unfolding Chained Each
  chained_each [] h = tt
  chained_each (a ∷ l) h = (h.0, chained_each l h.1)

  pub many_exact : (k : ℕ) → Exact (many p k) (λ l. (length l ≡ k) × Each P l) (list_bytes f)
  many_exact k =
      exact_weak (λ l. (length l ≡ k) × Chained (λ (z : Unit {0}). p) (λ z a. z) (λ z. P) f (λ z. x) tt l)
      (λ l. (length l ≡ k) × Each P l)
      (λ l h. (h.0, chained_each l h.1)) (runs_exact (λ (z : Unit {0}). p) (λ z a. z) (λ z. P) f (λ z. x) k tt)

  pub counted_exact : (low high : ℕ) → Exact (counted low (suc high) p) (Some low high P) (counted_bytes f)
  counted_exact low high = then_exact _ _ _ _ (between_exact low (suc high) 3) (λ k h.
      exact_weak (λ l. (length l ≡ k) × Each P l) (λ l. Some low high P l × (number_bytes k ≡ number_bytes (length l)))
      (λ l g. ((omega (arith, g.0, h.0), omega (arith, g.0, h.1), g.1), ap number_bytes (sym g.0)))
      (many_exact k))

-- All bytes
pub whole_exact : {A : Type 0} (p : Reader A) (P : A → Type 0) (f : A → List ℕ) → Exact p P f → (bytes : List ℕ)
    → Bytes bytes → (a : A) → whole p bytes ≡ gives a → P a × (bytes ≡ f a)
whole_exact p P f x bytes b a e =
    let (h, stands, place) = x.sound bytes b 0 a (length bytes) (ended_gives (length bytes) (p bytes 0) a e) in
    let long : length bytes ≡ length (f a) = omega (arith, place) in (
      h,
      ext_get_or 0 bytes (f a) long (λ i l. let z : 0 + i ≡ i = omega arith in
          ap (λ (n : ℕ). get_or bytes n 0) (sym z) ∙ stands_at bytes 0 (f a) stands i (omega arith)),
    )
