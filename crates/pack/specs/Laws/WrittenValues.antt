-- Effects written into the values of a row. Assumes nothing.
use Prim.Native.Nat.{ℕ, zero, suc, ◌+◌, ◌-◌, ◌<◌, ◌≤◌}
use Rattle.std.specs.Prelude.{◌≡◌, refl, cond, length, get_or, set, eqb}
use Rattle.std.proofs.Common.{sym, ◌∙◌, subst, sub-one, arith, length-set, get_or-set_same, get_or-set_other}
use Rattle.std.proofs.Common.{ext_get_or, eq-eqb, ne_eqb}
use Rattle.std.proofs.Math.Path.{ap}
use Rattle.std.proofs.Math.Logic.{by_cases}
use mathlib.Core.List.{List, [], ◌∷◌}
use Rattle.std.proofs.Math.Decide.{dec_lt}
use Rattle.pack.specs.Syntax.{Effect}
use Rattle.pack.specs.Reading.{done, mapped, runs, many}
use Rattle.pack.specs.Grammar.{Dimensions, effect_at}
use Rattle.pack.specs.Condition.{write}
use Rattle.pack.specs.Duties.Table.{cells}
use Rattle.pack.specs.Duties.Write.{RowOnly, EffectWritten}
use Rattle.pack.specs.Laws.Reading.{same_value, both, unmapped}
use Rattle.pack.specs.Laws.Rows.{upto-length, cells_at}
use Rattle.pack.specs.Laws.OneByte.{effect_bytes_lem}

pub cells-length : (bytes : List ℕ) (a k : ℕ) → length (cells bytes a k) ≡ k
unfolding cells
cells-length bytes a k = upto-length (λ i. get_or bytes (a + i) 0) k

-- a store into a row is a store into its values
pub cells-set : (bytes : List ℕ) (row k f v : ℕ) → f < k → row + k ≤ length bytes
    → cells (set bytes (row + f) v) row k ≡ set (cells bytes row k) f v
cells-set bytes row k f v h g =
    ext_get_or 0 _ _
    (cells-length (set bytes (row + f) v) row k ∙ sym (length-set (cells bytes row k) f v ∙ cells-length bytes row k))
    (λ i l. let m : i < k = (let q = cells-length (set bytes (row + f) v) row k in omega arith) in
    cells_at (set bytes (row + f) v) row k i m ∙ at i m)
  where
    at : (i : ℕ) → i < k → get_or (set bytes (row + f) v) (row + i) 0 ≡ get_or (set (cells bytes row k) f v) i 0
    at i m = by_cases (dec_lt i f)
        (λ lt. get_or-set_other bytes (row + f) (row + i) v 0 (omega arith)
        ∙ sym (get_or-set_other (cells bytes row k) f i v 0 (omega arith) ∙ cells_at bytes row k i m))
        (λ ge. by_cases (dec_lt f i)
        (λ gt. get_or-set_other bytes (row + f) (row + i) v 0 (omega arith)
        ∙ sym (get_or-set_other (cells bytes row k) f i v 0 (omega arith) ∙ cells_at bytes row k i m))
        (λ le. let e : f ≡ i = omega arith in
        subst (λ (i : ℕ). get_or (set bytes (row + f) v) (row + i) 0 ≡ get_or (set (cells bytes row k) f v) i 0) e
        (get_or-set_same bytes (row + f) v 0 (omega arith)
        ∙ sym (get_or-set_same (cells bytes row k) f v 0 (let q = cells-length bytes row k in omega arith)))))

pub only_none : (bytes : List ℕ) (row k : ℕ) → RowOnly bytes bytes row k
only_none bytes row k = record { long = refl; below = λ p h. refl; above = λ p h. refl }

pub only_set : (bytes : List ℕ) (row k f v : ℕ) → f < k → RowOnly bytes (set bytes (row + f) v) row k
only_set bytes row k f v h =
    record {
      long = length-set bytes (row + f) v;
      below = λ p l. get_or-set_other bytes (row + f) p v 0 (omega arith);
      above = λ p l. get_or-set_other bytes (row + f) p v 0 (omega arith);
    }

pub only_then : (a b c : List ℕ) (row k : ℕ) → RowOnly a b row k → RowOnly b c row k → RowOnly a c row k
only_then a b c row k x y =
    record {
      long = y.long ∙ x.long;
      below = λ p l. y.below p l ∙ x.below p l;
      above = λ p l. y.above p l ∙ x.above p l;
    }

-- an effect that is meant for whom, and one that is not
module _ (s : List ℕ) (at whom : ℕ) (bytes : List ℕ) (row k : ℕ) where
  pub effect_meant : (f v w : ℕ) → get_or s at 0 ≡ w → w ≡ whom → get_or s (at + 1) 0 ≡ f → get_or s (at + 2) 0 ≡ v
      → f < k
      → row + k ≤ length bytes → EffectWritten s at whom bytes (set bytes (row + f) v) row k
  effect_meant f v w q m ef ev h g = record {
    values = λ d small wide e n r.
        let b = effect_bytes_lem d small s at e n r in
        let meant : e.whom ≡ whom = b.whom ∙ q ∙ m in
        rw (eq-eqb e.whom whom meant) (cells-set bytes row k f v h g
        ∙ ap (λ (i : ℕ). set (cells bytes row k) i v) (sym (b.fluent ∙ ef))
        ∙ ap (set (cells bytes row k) e.fluent) (sym (b.value ∙ ev)));
    only = only_set bytes row k f v h;
  }

  pub effect_other : (w : ℕ) → get_or s at 0 ≡ w → (w ≡ whom → ⊥) → EffectWritten s at whom bytes bytes row k
  effect_other w q m = record {
    values = λ d small wide e n r.
        let b = effect_bytes_lem d small s at e n r in
        rw (ne_eqb e.whom whom (λ x. m (sym (b.whom ∙ q) ∙ x)));
    only = only_none bytes row k;
  }

-- effects written one by one, into values or into one of them: what a list makes of v, by its first effect
module _ {A : Type 0} (makes : List Effect → A → A) (d : Dimensions) (s : List ℕ) where
  -- what is left of the effects, from n on, still has to be written into v to make b
  pub record Owed (n left : ℕ) (v b : A) (end : ℕ) : Type 0 where
    pub rest : List Effect
    pub reads : many (effect_at d) left s n ≡ done rest end
    pub same : b ≡ makes rest v

  -- the next effect of what is left
  pub record Due (n left : ℕ) (v b : A) (end : ℕ) : Type 0 where
    pub item : Effect
    pub place : ℕ
    pub rest : List Effect
    pub here : effect_at d s n ≡ done item place
    pub more : many (effect_at d) (left - 1) s place ≡ done rest end
    pub same : b ≡ makes (item ∷ rest) v

  pub owed_one : (n left : ℕ) (v b : A) (end : ℕ) → Owed n left v b end → 0 < left → Due n left v b end
  unfolding runs
  owed_one n zero v b end l h = absurd (omega arith)
  owed_one n (suc left) v b end l h =
      let p = effect_at d in
      let w = both (p s n) (λ x n. mapped (λ rest. x ∷ rest) (many p left s n)) l.rest end l.reads in
      let u = unmapped (λ rest. w.value ∷ rest) (many p left s w.place) l.rest end w.right in
      record {
        item = w.value;
        place = w.place;
        rest = u.value;
        here = w.left;
        more = ap (λ (k : ℕ). many p k s w.place) (sub-one (suc left)) ∙ u.left;
        same = l.same ∙ ap (λ (r : List Effect). makes r v) (sym u.right);
      }

  pub owed_next : (n left : ℕ) (v b : A) (end : ℕ) (x : Due n left v b end) (m : ℕ) (now : A)
      → x.place ≡ m → makes (x.item ∷ x.rest) v ≡ makes x.rest now → Owed m (left - 1) now b end
  owed_next n left v b end x m now e g =
      record {
        rest = x.rest;
        reads = ap (many (effect_at d) (left - 1) s) (sym e) ∙ x.more;
        same = x.same ∙ g;
      }

  -- the same, counted up: behind effect i of count effects are those from i + 1 on
  pub owed_after : (n i count : ℕ) (v b : A) (end : ℕ) (x : Due n (count - i) v b end) (m : ℕ) (now : A)
      → x.place ≡ m → makes (x.item ∷ x.rest) v ≡ makes x.rest now → Owed m (count - (i + 1)) now b end
  owed_after n i count v b end x m now e g =
      let less : (count - i) - 1 ≡ count - (i + 1) = omega arith in
      subst (λ (k : ℕ). Owed m k now b end) less (owed_next n (count - i) v b end x m now e g)

  pub owed_none : (n left : ℕ) (v b : A) (end : ℕ) → Owed n left v b end → left ≤ 0 → makes [] v ≡ v → b ≡ v
  unfolding runs
  owed_none n zero v b end l h nil =
      l.same ∙ ap (λ (r : List Effect). makes r v) (sym (same_value l.reads)) ∙ nil
  owed_none n (suc left) v b end l h nil = absurd (omega arith)

-- the first effect of a list, and none
pub write-first : (whom : ℕ) (e : Effect) (es : List Effect) (values now : List ℕ)
    → now ≡ cond (eqb e.whom whom) (set values e.fluent e.value) values
    → write whom (e ∷ es) values ≡ write whom es now
unfolding write
write-first whom e es values now q = ap (write whom es) (sym q)

pub write_nil : (whom : ℕ) (values : List ℕ) → write whom [] values ≡ values
unfolding write
write_nil whom values = refl
