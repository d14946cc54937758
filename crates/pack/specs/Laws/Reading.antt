-- Laws of readings: how they compose, and how one that gave a value is taken apart. Assumes nothing.
use Rattle.std.specs.Prelude.{ℕ, ◌≡◌, refl, Bool, true, false, eqb}
use Rattle.std.proofs.Common.{ap, arith, eqb-true}
use Rattle.pack.specs.Reading.{Reading, done, refused, pick, bind, mapped, Reply, gives, refuses, ended}

pub mapped-mapped : {A B C : Type 0} (f : B → C) (g : A → B) (x : Reading A)
    → mapped f (mapped g x) ≡ mapped (λ a. f (g a)) x
mapped-mapped f g (done a n) = refl
mapped-mapped f g (refused k p) = refl

pub mapped-bind : {A B C : Type 0} (f : B → C) (x : Reading A) (h : A → ℕ → Reading B)
    → mapped f (bind x h) ≡ bind x (λ a n. mapped f (h a n))
mapped-bind f (done a n) h = refl
mapped-bind f (refused k p) h = refl

pub bind-mapped : {A B C : Type 0} (g : A → B) (x : Reading A) (h : B → ℕ → Reading C)
    → bind (mapped g x) h ≡ bind x (λ a n. h (g a) n)
bind-mapped g (done a n) h = refl
bind-mapped g (refused k p) h = refl

pub bind-bind : {A B C : Type 0} (x : Reading A) (f : A → ℕ → Reading B) (h : B → ℕ → Reading C)
    → bind (bind x f) h ≡ bind x (λ a n. bind (f a n) h)
bind-bind (done a n) f h = refl
bind-bind (refused k p) f h = refl

-- a refusal is no value
pub never : {A B : Type 0} {k p : ℕ} {a : A} {n : ℕ} → ◌≡◌ {A = Reading A} (refused k p) (done a n) → B
never e = let z : ◌≡◌ {A = ℕ} 0 1 = cc in absurd (omega arith)

pub never_gives : {A B : Type 0} {k p : ℕ} {a : A} → ◌≡◌ {A = Reply A} (refuses k p) (gives a) → B
never_gives e = let z : ◌≡◌ {A = ℕ} 0 1 = cc in absurd (omega arith)

pub same_value : {A : Type 0} {a b : A} {n m : ℕ} → done a n ≡ done b m → a ≡ b
same_value e = cc

pub same_place : {A : Type 0} {a b : A} {n m : ℕ} → done a n ≡ done b m → n ≡ m
same_place e = cc

pub same_gift : {A : Type 0} {a b : A} → gives a ≡ gives b → a ≡ b
same_gift e = cc

pub same_number : {A : Type 0} {j k p q : ℕ} → ◌≡◌ {A = Reply A} (refuses j p) (refuses k q) → j ≡ k
same_number e = cc

-- both halves of a bind that gives a value
pub record Both {A B : Type 0} (x : Reading A) (f : A → ℕ → Reading B) (b : B) (n : ℕ) : Type 0 where
  pub value : A
  pub place : ℕ
  pub left : x ≡ done value place
  pub right : f value place ≡ done b n

pub both : {A B : Type 0} (x : Reading A) (f : A → ℕ → Reading B) (b : B) (n : ℕ) → bind x f ≡ done b n → Both x f b n
both (done a m) f b n e = record { value = a; place = m; left = refl; right = e }
both (refused k p) f b n e = never e

pub record Mapped {A B : Type 0} (g : A → B) (x : Reading A) (b : B) (n : ℕ) : Type 0 where
  pub value : A
  pub left : x ≡ done value n
  pub right : g value ≡ b

pub unmapped : {A B : Type 0} (g : A → B) (x : Reading A) (b : B) (n : ℕ) → mapped g x ≡ done b n → Mapped g x b n
unmapped g (done a m) b n e = record { value = a; left = ap (done a) (same_place e); right = same_value e }
unmapped g (refused k p) b n e = never e

-- a test that was passed, whose other side is a refusal
pub passed : {A : Type 0} (b : Bool) (k p : ℕ) (x : Reading A) (a : A) (n : ℕ) → pick b x (refused k p) ≡ done a n
    → (b ≡ true) × (x ≡ done a n)
passed true k p x a n e = (refl, e)
passed false k p x a n e = never e

pub failed : {A : Type 0} (b : Bool) (k p : ℕ) (x : Reading A) (a : A) (n : ℕ) → pick b (refused k p) x ≡ done a n
    → (b ≡ false) × (x ≡ done a n)
failed true k p x a n e = never e
failed false k p x a n e = (refl, e)

-- a whole reading that gives something has used all bytes
pub ended_gives : {A : Type 0} (end : ℕ) (x : Reading A) (a : A) → ended end x ≡ gives a → x ≡ done a end
ended_gives end (done b n) a e = go (eqb n end) refl e
  where
    go : (t : Bool) → eqb n end ≡ t → pick t (gives b) (refuses 7 n) ≡ gives a → done b n ≡ done a end
    go true q f = let x = same_gift f in let y = eqb-true n end q in cc
    go false q f = never_gives f
ended_gives end (refused k p) a e = never_gives e
