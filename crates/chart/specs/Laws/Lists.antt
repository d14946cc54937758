-- Lists by their places, and membership. Assumes nothing.
use Rattle.std.specs.Prelude.{ℕ, zero, suc, ◌<◌, ◌≡◌, refl, get_or, length}
use Rattle.std.proofs.Common.{sym, ◌∙◌, ap, ⊎_elim, eq-or-lt_of_le, le_of_suc-le-suc, arith, List, [], ◌∷◌, map}
use mathlib.Core.List.{Memᴰ}
use Rattle.std.proofs.Math.Bridge.{le_prop}

-- a list by its places
pub tabulate : {A : Type 0} (n : ℕ) → ((i : ℕ) → i < n → A) → List A
tabulate zero f = []
tabulate (suc n) f = f 0 (omega arith) ∷ tabulate n (λ i l. f (suc i) (omega arith))

pub length_tabulate : {A : Type 0} (n : ℕ) (f : (i : ℕ) → i < n → A) → length (tabulate n f) ≡ n
unfolding tabulate
length_tabulate zero f = refl
length_tabulate (suc n) f = ap suc (length_tabulate n (λ i l. f (suc i) (omega arith)))

pub get_d_tabulate : {A : Type 0} (n : ℕ) (f : (i : ℕ) → i < n → A) (d : A) (i : ℕ) (l : i < n)
    → get_or (tabulate n f) i d ≡ f i l
unfolding tabulate
get_d_tabulate zero f d i l = absurd (omega arith)
get_d_tabulate (suc n) f d zero l = ap (f 0) (le_prop _ _)
get_d_tabulate (suc n) f d (suc i) l =
    get_d_tabulate n (λ i l. f (suc i) (omega arith)) d i (omega arith) ∙ ap (f (suc i)) (le_prop _ _)

-- what stands at a place is a member, and a member stands at a place
pub stands : {A : Type 0} (l : List A) (d : A) (i : ℕ) → i < length l → Memᴰ (get_or l i d) l
stands [] d i h = absurd (omega arith)
stands (x ∷ l) d zero h = mathlib.Core.List.Memᴰ.head refl
stands (x ∷ l) d (suc i) h = mathlib.Core.List.Memᴰ.tail (stands l d i (omega arith))

pub place : {A : Type 0} (l : List A) (d x : A) → Memᴰ x l → (i : ℕ) × (i < length l) × (get_or l i d ≡ x)
place [] d x m = elim m [ ]
place (y ∷ l) d x m =
    ⊎_elim (λ (e : x ≡ y). (0, omega arith, sym e))
    (λ (m : Memᴰ x l). let (i, h, e) = place l d x m in (suc i, omega arith, e))
    (mathlib.Core.List.Memᴰ.cases_cons m)

-- the numbers below n
pub below : ℕ → List ℕ
below zero = []
below (suc n) = n ∷ below n

pub below_in : (n i : ℕ) → i < n → Memᴰ i (below n)
unfolding below
below_in zero i l = absurd (omega arith)
below_in (suc n) i l =
    ⊎_elim (λ (e : i ≡ n). mathlib.Core.List.Memᴰ.head e) (λ (h : i < n). mathlib.Core.List.Memᴰ.tail (below_in n i h))
    (eq-or-lt_of_le (le_of_suc-le-suc l))

pub below_out : (n i : ℕ) → Memᴰ i (below n) → i < n
unfolding below
below_out zero i m = elim m [ ]
below_out (suc n) i m =
    ⊎_elim (λ (e : i ≡ n). omega arith) (λ (h : Memᴰ i (below n)). omega (arith, below_out n i h))
    (mathlib.Core.List.Memᴰ.cases_cons m)

pub map_in : {A B : Type 0} (f : A → B) (l : List A) (x : A) → Memᴰ x l → Memᴰ (f x) (map f l)
map_in f [] x m = elim m [ ]
map_in f (y ∷ l) x m =
    ⊎_elim (λ (e : x ≡ y). mathlib.Core.List.Memᴰ.head (ap f e))
    (λ (m : Memᴰ x l). mathlib.Core.List.Memᴰ.tail (map_in f l x m))
    (mathlib.Core.List.Memᴰ.cases_cons m)

pub map_out : {A B : Type 0} (f : A → B) (l : List A) (y : B) → Memᴰ y (map f l)
    → (x : A) × Memᴰ x l × (y ≡ f x)
map_out f [] y m = elim m [ ]
map_out {A} f (a ∷ l) y m =
    ⊎_elim (λ (e : y ≡ f a). (a, mathlib.Core.List.Memᴰ.head refl, e))
    (λ (h : Memᴰ y (map f l)). let (x, n, e) = map_out f l y h in (x, mathlib.Core.List.Memᴰ.tail n, e))
    (mathlib.Core.List.Memᴰ.cases_cons m)
