-- Numbers given on demand: no more than there are slots; one more; kept where their bytes are. Assumes nothing.
use Rattle.std.specs.Prelude.{◌≡◌, refl, List, ℕ, suc, ◌+◌, ◌<◌, ◌≤◌, max, length, get_or, set}
use Rattle.std.proofs.Common.{sym, ◌∙◌, ap, ⊎_elim, eq-or-lt_of_le, le_of_suc-le-suc, arith, length-set}
use Rattle.std.proofs.Common.{get_or-set_same, get_or-set_other}
use Rattle.std.proofs.Math.Logic.{by_cases}
use Rattle.std.proofs.Math.Decide.{dec_lt, ℕ_discrete}
use Rattle.pack.specs.Duties.Table.{Between}
use Rattle.chart.specs.Laws.Count.{all, count_all, count_inj}
use Rattle.chart.specs.Duties.Put.{Cleared}
use Rattle.chart.specs.Duties.Numbers.{slot_at, key_at, Numbering, Given}

-- `count` numbers, each of another slot
pub pigeons : (key : ℕ → ℕ) (count size : ℕ) → ((i : ℕ) → i < count → key i < size)
    → ((i j : ℕ) → i < j → j < count → key i ≡ key j → ⊥) → count ≤ size
pigeons key count size there apart =
    omega (
      arith,
      count_all count,
      count_all size,
      count_inj all all (λ i x. key i ≡ x) count size (λ i l _. (
        key i,
        there i l,
        tt,
        refl,
      )) (λ i j x l h _ p q. apart i j l h (p ∙ sym q)),
    )

module _ (bytes : List ℕ) (m size count : ℕ) (n : Numbering bytes m size count) where
  apart : (i j : ℕ) → i < j → j < count → key_at bytes m size i ≡ key_at bytes m size j → ⊥
  apart i j l h e = omega (arith, sym (n.back i (omega arith)) ∙ ap (slot_at bytes m) e ∙ n.back j h)

  pub few : count ≤ size
  few = pigeons (key_at bytes m size) count size n.there apart

  -- while a slot has none, one is left
  pub room : (x : ℕ) → x < size → slot_at bytes m x ≡ 0 → count < size
  room x l e = pigeons key (suc count) size there apart'
    where
      pick : (i : ℕ) → Dec (i < count) → ℕ
      pick i (yes h) = key_at bytes m size i
      pick i (no h) = x

      key : ℕ → ℕ
      key i = pick i (dec_lt i count)

      there : (i : ℕ) → i < suc count → key i < size
      there i h = elim (dec_lt i count) as (λ d. pick i d < size) [ yes g ↦ n.there i g | no g ↦ l ]

      differs : (i : ℕ) → i < count → key_at bytes m size i ≡ x → ⊥
      differs i h q = omega (arith, sym (n.back i h) ∙ ap (slot_at bytes m) q ∙ e)

      apart' : (i j : ℕ) → i < j → j < suc count → key i ≡ key j → ⊥
      apart' i j h g = elim (dec_lt i count) as (λ d. pick i d ≡ key j → ⊥) [
        | yes a ↦ elim (dec_lt j count) as (λ d. key_at bytes m size i ≡ pick j d → ⊥)
            [ yes b ↦ apart i j h b | no b ↦ differs i a ]
        | no a ↦ λ _. absurd (omega arith)
      ]

pub numbering_none : (was now : List ℕ) (m size : ℕ) → Cleared was now m size → Numbering now m size 0
numbering_none was now m size c =
    record {
      there = λ i l. absurd (omega arith);
      back = λ i l. absurd (omega arith);
      known = λ x r l e. absurd (omega (arith, c.clear x l));
    }

-- the numbers stay where their bytes do
pub numbering_same : (was now : List ℕ) (m size count : ℕ) → Numbering was m size count
    → Between was now m (m + size + size) → Numbering now m size count
numbering_same was now m size count n same =
    let key : (i : ℕ) → i < count
    → key_at now m size i ≡ key_at was m size i = λ i l.
    same (m + size + i) (omega arith) (omega (arith, few was m size count n)) in record {
      there = λ i l. omega (arith, key i l, n.there i l);
      back = λ i l.
          ap (slot_at now m) (key i l) ∙ same (m + key_at was m size i) (omega arith) (omega (arith, n.there i l))
          ∙ n.back i l;
      known = λ x r l e. let k = n.known x r l (sym (same (m + x) (omega arith) (omega arith)) ∙ e) in
          (k.0, key r k.0 ∙ k.1);
    }

-- a slot that has a number
pub given_old : (bytes : List ℕ) (m size count x r : ℕ) → Numbering bytes m size count → x < size
    → slot_at bytes m x ≡ suc r → Given bytes bytes m size count x r
given_old bytes m size count x r n l e =
    let k = n.known x r l e in
    let same : max count (suc r) ≡ count = omega arith in record {
      numbering = rw same n;
      next = omega arith;
      few = omega (arith, few bytes m size count n);
      key = k.1;
      kept = λ i h. refl;
      low = λ p h. refl;
      high = λ p h. refl;
    }

-- a slot that gets the next
module _ (bytes : List ℕ) (m size count x : ℕ) (fits : m + size + size ≤ length bytes)
    (n : Numbering bytes m size count) (l : x < size) (e : slot_at bytes m x ≡ 0) (room : count < size) where
  abbrev one : List ℕ
  one = set bytes (m + x) (count + 1)

  abbrev now : List ℕ
  now = set one (m + size + count) x

  other : (p : ℕ) → (p ≡ m + x → ⊥) → (p ≡ m + size + count → ⊥) → get_or now p 0 ≡ get_or bytes p 0
  other p a b = get_or-set_other one (m + size + count) p x 0 b ∙ get_or-set_other bytes (m + x) p (count + 1) 0 a

  slot : slot_at now m x ≡ suc count
  slot = get_or-set_other one (m + size + count) (m + x) x 0 (omega arith)
      ∙ get_or-set_same bytes (m + x) (count + 1) 0 (omega arith) ∙ (omega arith)

  key_here : key_at now m size count ≡ x
  key_here = get_or-set_same one (m + size + count) x 0 (omega (arith, length-set bytes (m + x) (count + 1)))

  key_kept : (i : ℕ) → i < count → key_at now m size i ≡ key_at bytes m size i
  key_kept i h = other (m + size + i) (λ q. omega arith) (λ q. omega arith)

  slot_kept : (y : ℕ) → y < size → (y ≡ x → ⊥) → slot_at now m y ≡ slot_at bytes m y
  slot_kept y h ne = other (m + y) (λ q. ne (omega arith)) (λ q. omega arith)

  pub given_new : Given bytes now m size count x count
  given_new =
      let more : max count (suc count) ≡ suc count = omega arith in record {
        numbering = rw more (record {
          there = λ i h.
              ⊎_elim (λ (q : i ≡ count). rw (q, key_here) l) (λ (h : i < count). rw (key_kept i h) (n.there i h))
              (eq-or-lt_of_le (le_of_suc-le-suc h));
          back = λ i h. ⊎_elim (λ (q : i ≡ count). rw (q, key_here) slot)
              (λ (h : i < count). ap (slot_at now m) (key_kept i h)
              ∙ slot_kept (key_at bytes m size i) (n.there i h) (λ q. omega (arith, ap (slot_at bytes m) q, n.back i h))
              ∙ n.back i h)
              (eq-or-lt_of_le (le_of_suc-le-suc h));
          known = λ y r h g. by_cases (ℕ_discrete y x)
              (λ q. let z : r ≡ count = omega (arith, slot, sym (ap (slot_at now m) q) ∙ g) in
              (omega arith, ap (key_at now m size) z ∙ key_here ∙ sym q))
              (λ ne. let k = n.known y r h (sym (slot_kept y h ne) ∙ g) in (omega arith, key_kept r k.0 ∙ k.1));
        });
        next = omega arith;
        few = room;
        key = key_here;
        kept = key_kept;
        low = λ p h. other p (λ q. omega arith) (λ q. omega arith);
        high = λ p h. other p (λ q. omega arith) (λ q. omega arith);
      }
