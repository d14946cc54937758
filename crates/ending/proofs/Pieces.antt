-- Pieces of text one after the other. Assumes nothing.
use Prim.Native.Nat.{ℕ, zero, suc, ◌+◌, ◌-◌, ◌/◌, ◌%◌, ◌<◌, ◌≤◌}
use mathlib.Core.Path.{◌≡◌, refl, sym, ap, ◌∙◌, subst}
use mathlib.Core.List.{List, [], ◌∷◌, ◌++◌, append_assoc, append-nil}
use native.Mathlib.Numerals.{add-one}
use native.Mathlib.Omega.{arith}
use lib.ListN.{length, take, drop, set, get_or, length-append}
use lib.Seq.{sets, sets-eq, take-append_seam, take-suc, length-sets, length-take-le}
use borrow.Author.Tests.{lt-ltb, le-ltb}
use lib.Dec.{ltb}
use mathlib.Core.Bool.{Bool, true, false}
use Rattle.pack.specs.Reading.{pick}
use Rattle.ending.specs.Text.{digits, decimal, line, steps}
use Rattle.ending.specs.Put.{Put}

pub sets_append : (text : List ℕ) (place : ℕ) (a b : List ℕ) → sets text place (a ++ b) ≡ sets (sets text place a) (place + length a) b
sets_append text place [] b = ap (λ (n : ℕ). sets text n b) (omega arith)
sets_append text place (x ∷ a) b = sets_append (set text place x) (suc place) a b ∙ ap (λ (n : ℕ). sets (sets (set text place x) (suc place) a) n b) (omega arith)

-- a piece, and then another
pub put-append : {a b text middle end : List ℕ} {i j k : ℕ} → Put a text i middle j → Put b middle j end k → Put (a ++ b) text i end k
put-append {a} {b} {text} {middle} {end} {i} {j} {k} p q = record {
  ends = omega (arith, p.ends, q.ends, length-append a b);
  written = q.written ∙ ap (λ (l : List ℕ). sets l j b) p.written ∙ ap (λ (n : ℕ). sets (sets text i a) n b) p.ends ∙ sym (sets_append text i a b);
}

-- no piece
pub put-nothing : (text : List ℕ) (i : ℕ) → Put [] text i text i
put-nothing text i = record { ends = omega arith; written = refl }

pub put-length : {a text text' : List ℕ} {i r : ℕ} → Put a text i text' r → length text' ≡ length text
put-length {a} {text} {text'} {i} p = ap length p.written ∙ length-sets text i a

-- the text from its start on is the piece
pub put_front : {piece text text' : List ℕ} {r : ℕ} → Put piece text 0 text' r → length piece ≤ length text → take r text' ≡ piece
put_front {piece} {text} {text'} {r} p h =
    let e : r ≡ length piece = omega (arith, p.ends) in
    ap (λ (n : ℕ). take n text') e ∙ ap (take (length piece)) (p.written ∙ sets-eq piece text 0 (omega arith)) ∙ take-append_seam piece (drop (0 + length piece) text)

-- a word, and its next byte
pub put_next : (word : List ℕ) (i : ℕ) {text text' : List ℕ} {place : ℕ} → i < length word → Put (take i word) text place text' (place + i) → Put (take (i + 1) word) text place (set text' (place + i) (get_or word i 0)) (place + (i + 1))
put_next word i {text} {text'} {place} h p =
    let longer : take i word ++ (get_or word i 0 ∷ []) ≡ take (i + 1) word = sym (take-suc word i 0 h) ∙ ap (λ (n : ℕ). take n word) (sym (add-one i)) in
    record {
      ends = omega (arith, length-take-le (i + 1) word (omega arith));
      written = ap (λ (l : List ℕ). set l (place + i) (get_or word i 0)) p.written ∙ ap (λ (n : ℕ). set (sets text place (take i word)) n (get_or word i 0)) p.ends
          ∙ sym (sets_append text place (take i word) (get_or word i 0 ∷ [])) ∙ ap (sets text place) longer;
    }

-- no digits
pub put_none : {text : List ℕ} {i : ℕ} (most n : ℕ) → most ≡ 0 → Put (digits most n) text i text i
unfolding digits
put_none {text} {i} zero n e = put-nothing text i
put_none (suc most) n e = absurd (omega arith)

-- the only digit
pub put_single : {text text' : List ℕ} {i r last : ℕ} (most n : ℕ) → 0 < most → n < 10 → last ≡ 48 + n % 10 → Put (last ∷ []) text i text' r → Put (digits most n) text i text' r
unfolding digits
put_single zero n h small e p = absurd (omega arith)
put_single {text} {text'} {i} {r} {last} (suc most) n h small e p =
    subst (λ (b : Bool). Put (pick b [] (digits most (n / 10)) ++ ((48 + n % 10) ∷ [])) text i text' r) (sym (lt-ltb n 10 small)) (subst (λ (d : ℕ). Put (d ∷ []) text i text' r) e p)

-- the digits but the last, and the last
pub put_more : {text middle text' : List ℕ} {i j r last : ℕ} (most n : ℕ) → 0 < most → 10 ≤ n → Put (digits (most - 1) (n / 10)) text i middle j → last ≡ 48 + n % 10
    → Put (last ∷ []) middle j text' r → Put (digits most n) text i text' r
unfolding digits
put_more zero n h large p e q = absurd (omega arith)
put_more {text} {middle} {text'} {i} {j} {r} {last} (suc most) n h large p e q =
    subst (λ (b : Bool). Put (pick b [] (digits most (n / 10)) ++ ((48 + n % 10) ∷ [])) text i text' r) (sym (le-ltb n 10 large))
    (put-append (subst (λ (m : ℕ). Put (digits m (n / 10)) text i middle j) {x = suc most - 1} {y = most} (omega arith) p) (subst (λ (d : ℕ). Put (d ∷ []) middle j text' r) e q))

-- a number has at most so many digits
pub digits_most : (most n : ℕ) → length (digits most n) ≤ most
unfolding digits
digits_most zero n = omega arith
digits_most (suc most) n = at (ltb n 10) (digits_most most (n / 10))
  where
    at : (b : Bool) → length (digits most (n / 10)) ≤ most → length (pick b [] (digits most (n / 10)) ++ ((48 + n % 10) ∷ [])) ≤ suc most
    at true h = omega arith
    at false h = omega (arith, length-append (digits most (n / 10)) ((48 + n % 10) ∷ []))

-- one step more
steps_more : (place : ℕ) (list : List ℕ) (action : ℕ) → steps place (list ++ (action ∷ [])) ≡ steps place list ++ line (decimal (place + length list)) (decimal action ∷ [])
unfolding steps
steps_more place [] action = append-nil (line (decimal place) (decimal action ∷ [])) ∙ ap (λ (n : ℕ). line (decimal n) (decimal action ∷ [])) (omega arith)
steps_more place (first ∷ list) action =
    ap (λ (l : List ℕ). line (decimal place) (decimal first ∷ []) ++ l) (steps_more (suc place) list action ∙ ap (λ (n : ℕ). steps (suc place) list ++ line (decimal n) (decimal action ∷ [])) (omega arith))
    ∙ sym (append_assoc (line (decimal place) (decimal first ∷ [])) (steps (suc place) list) (line (decimal (place + suc (length list))) (decimal action ∷ [])))

-- no steps
pub put-steps_none : (text : List ℕ) → Put (steps 1 []) text 0 text 0
unfolding steps
put-steps_none text = put-nothing text 0

-- the steps passed, and the next one
pub put-steps_next : (list : List ℕ) (i : ℕ) {text middle text' : List ℕ} {j r action : ℕ} → i < length list → Put (steps 1 (take i list)) text 0 middle j → get_or list i 0 ≡ action
    → Put (line (decimal (i + 1)) (decimal action ∷ [])) middle j text' r → Put (steps 1 (take (i + 1) list)) text 0 text' r
put-steps_next list i {text} {middle} {text'} {j} {r} {action} h p e q =
    let longer : take i list ++ (action ∷ []) ≡ take (i + 1) list = ap (λ (a : ℕ). take i list ++ (a ∷ [])) (sym e) ∙ sym (take-suc list i 0 h) ∙ ap (λ (n : ℕ). take n list) (sym (add-one i)) in
    let place : 1 + length (take i list) ≡ i + 1 = omega (arith, length-take-le i list (omega arith)) in
    let more : steps 1 (take i list) ++ line (decimal (i + 1)) (decimal action ∷ []) ≡ steps 1 (take (i + 1) list)
    = ap (λ (n : ℕ). steps 1 (take i list) ++ line (decimal n) (decimal action ∷ [])) (sym place) ∙ sym (steps_more 1 (take i list) action) ∙ ap (steps 1) longer in
    subst (λ (l : List ℕ). Put l text 0 text' r) more (put-append p q)
