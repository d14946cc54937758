-- Nodes copied into a table: each number of a node is one byte, and rows stand one behind the other. Assumes nothing.
use Rattle.std.specs.Prelude.{ℕ, zero, suc, ◌+◌, ◌*◌, ◌-◌, ◌<◌, ◌≤◌, ◌≡◌, refl, length, set, leb, eqb}
use Rattle.std.proofs.Common.{sym, ◌∙◌, subst, add-zero, suc-mul, mul-le-mul_right, add-one, sub-one, length-set}
use Rattle.std.proofs.Common.{get_or-set_same, get_or-set_other, ext_get_or, leb-true}
use Rattle.std.proofs.Math.Path.{ap}
use Rattle.std.proofs.Math.Logic.{by_cases}
use mathlib.Core.List.{List, [], ◌∷◌, ◌++◌, append_assoc, append-nil}
use Rattle.std.proofs.Math.Decide.{dec_lt}
use native.Mathlib.Omega.{arith}
use Rattle.std.proofs.Math.ListN.{get_or}
use Rattle.std.proofs.lemmas.Bool.{eqb-false}
use Rattle.pack.specs.Syntax.{Node}
use Rattle.pack.specs.Reading.{done, refused, Reader, pick, mapped, runs, many}
use Rattle.pack.specs.Number.{number_at, belief_at}
use Rattle.pack.specs.Grammar.{Dimensions, value_at, node_at}
use Rattle.pack.specs.Duties.Table.{upto, cells, row_at, rows_at, Below}
use Rattle.pack.specs.Duties.Write.{RowOnly}
use Rattle.pack.specs.Duties.Copy.{Copyable, Copied, Shaped, RowCopied}
use Rattle.pack.specs.Laws.Reading.{same_value, same_place, both, unmapped, passed, failed}
use Rattle.pack.specs.Laws.Rows.{cells_at}
use Rattle.pack.specs.Laws.WrittenValues.{cells-length}
use Rattle.pack.specs.Laws.OneByte.{ByteAt, one_byte, between_byte}

pub belief_byte : (nodes : ℕ) (s : List ℕ) (at b n : ℕ) → nodes < 128 → belief_at nodes s at ≡ done b n
    → ByteAt s at (suc b) n
unfolding belief_at
belief_byte nodes s at b n few e =
    let x = both (number_at s at)
    (λ v n. pick (eqb v 0) (refused 5 at) (pick (leb v nodes) (done (v - 1) n) (refused 4 at))) b n e in
    let v = x.value in
    let (blank, rest) = failed (eqb v 0) 5 at (pick (leb v nodes) (done (v - 1) x.place) (refused 4 at)) b n
    x.right in
    let (there, given) = passed (leb v nodes) 4 at (done (v - 1) x.place) b n rest in
    let some = eqb-false v 0 blank in
    let low = leb-true v nodes there in
    let same : v ≡ suc b = omega (arith, same_value given, some) in
    subst (λ (w : ℕ). ByteAt s at w n) same (one_byte s at v n (x.left ∙ ap (done v) (same_place given)) (omega arith))

-- k things of one byte each
pub record RunBytes {A : Type 0} (code : A → ℕ) (s : List ℕ) (at k : ℕ) (xs : List A) (n : ℕ) : Type 0 where
  pub long : length xs ≡ k
  pub ends : n ≡ at + k
  pub each : (x : A) (i : ℕ) → i < k → (get_or s (at + i) 0 ≡ code (get_or xs i x)) × (at + i < length s)

pub run_bytes : {S A : Type 0} (p : S → Reader A) (next : S → A → S) (code : A → ℕ) (s : List ℕ)
    → ((z : S) (at : ℕ) (a : A) (n : ℕ) → p z s at ≡ done a n → ByteAt s at (code a) n)
    → (k : ℕ) (z : S) (at : ℕ) (xs : List A) (n : ℕ) → runs p next z k s at ≡ done xs n → RunBytes code s at k xs n
unfolding runs
run_bytes p next code s byte zero z at xs n e =
    record {
      long = ap length (sym (same_value e));
      ends = sym (same_place e) ∙ sym (add-zero at);
      each = λ x i l. absurd (omega arith);
    }
run_bytes {A = A} p next code s byte (suc k) z at xs n e =
    let b = both (p z s at) (λ a n. mapped (λ rest. a ∷ rest) (runs p next (next z a) k s n)) xs n e in
    let u = unmapped (λ rest. b.value ∷ rest) (runs p next (next z b.value) k s b.place) xs n b.right in
    let o = byte z at b.value b.place b.left in
    let r = run_bytes p next code s byte k (next z b.value) (at + 1) u.value n
    (ap (runs p next (next z b.value) k s) (sym o.next) ∙ u.left) in
    record {
      long = ap length (sym u.right) ∙ ap suc r.long;
      ends = (let q = r.ends in omega arith);
      each = λ x. go x b.value u.value u.right o.value o.inside (r.each x);
    }
  where
    go : (x a : A) (l : List A) → a ∷ l ≡ xs → get_or s at 0 ≡ code a → at < length s
        → ((i : ℕ) → i < k → (get_or s ((at + 1) + i) 0 ≡ code (get_or l i x)) × ((at + 1) + i < length s))
        → (i : ℕ) → i < suc k → (get_or s (at + i) 0 ≡ code (get_or xs i x)) × (at + i < length s)
    go x a l same value inside rest zero h = (
      ap (λ (j : ℕ). get_or s j 0) (add-zero at) ∙ value ∙ ap (λ (c : List A). code (get_or c 0 x)) same,
      omega arith,
    )
    go x a l same value inside rest (suc i) h =
        let r = rest i (omega arith) in
        let e : at + suc i ≡ (at + 1) + i = omega arith in (
          ap (λ (j : ℕ). get_or s j 0) e ∙ r.0 ∙ ap (λ (c : List A). code (get_or c (suc i) x)) same,
          let m = r.1 in omega arith,
        )

-- a node, byte by byte: its values, then its beliefs plus 1
pub record NodeBytes (s : List ℕ) (at F C : ℕ) (x : Node) (n : ℕ) : Type 0 where
  pub values : RunBytes (λ v. v) s at F x.values (at + F)
  pub beliefs : RunBytes suc s (at + F) C x.beliefs n

pub node_bytes_lem : (d : Dimensions) (F C : ℕ) → Shaped d F C → (nodes : ℕ) → nodes ≤ 32
    → (s : List ℕ) (at : ℕ) (x : Node) (n : ℕ) → node_at d nodes s at ≡ done x n → NodeBytes s at F C x n
unfolding node_at
node_bytes_lem d F C sized nodes few s at x n e =
    let b = both (runs (value_at d) (λ f v. f + 1) 0 (length d.domains) s at) _ x n e in
    let u = unmapped (λ beliefs. record { values = b.value; beliefs = beliefs })
    (many (belief_at nodes) d.characters s b.place) x n b.right in
    let vs : RunBytes (λ v. v) s at (length d.domains) b.value b.place = run_bytes (value_at d) (λ f v. f + 1)
    (λ v. v) s (λ f at a n e. between_byte 0 (get_or d.domains f 0) 4 s at a n (sized.small.sizes f) e)
    (length d.domains) 0 at b.value b.place b.left in
    let vsF : RunBytes (λ v. v) s at F b.value b.place = subst
    (λ (k : ℕ). RunBytes (λ v. v) s at k b.value b.place) sized.fluents vs in
    let start : many (belief_at nodes) C s (at + F)
    ≡ done u.value n = ap (λ (k : ℕ). many (belief_at nodes) k s (at + F)) (sym sized.characters)
    ∙ ap (many (belief_at nodes) d.characters s) (sym vsF.ends) ∙ u.left in
    let bs : RunBytes suc s (at + F) C u.value n = run_bytes (λ (z : Unit {0}). belief_at nodes) (λ z a. z) suc s
    (λ z at a n e. belief_byte nodes s at a n (omega arith) e) C tt (at + F) u.value n start in
    record {
      values = subst (λ (y : Node). RunBytes (λ v. v) s at F y.values (at + F)) u.right
          (subst (λ (m : ℕ). RunBytes (λ v. v) s at F b.value m) vsF.ends vsF);
      beliefs = subst (λ (y : Node). RunBytes suc s (at + F) C y.beliefs n) u.right bs;
    }

-- bytes that are copied make a row
cells_same : (bytes : List ℕ) (a k : ℕ) (xs : List ℕ) → length xs ≡ k
    → ((i : ℕ) → i < k → get_or bytes (a + i) 0 ≡ get_or xs i 0) → cells bytes a k ≡ xs
cells_same bytes a k xs long each =
    ext_get_or 0 (cells bytes a k) xs (cells-length bytes a k ∙ sym long)
    (λ i l. let m : i < k = (let q = cells-length bytes a k in omega arith) in cells_at bytes a k i m ∙ each i m)

module _ (s : List ℕ) (from : ℕ) (was mid now : List ℕ) (to F C : ℕ) (v : Copied s from was mid to F 0)
    (b : Copied s (from + F) mid now (to + F) C 1) where
  row_only : RowOnly was now to (F + C)
  row_only = record {
    long = b.only.long ∙ v.only.long;
    below = λ p l. b.only.below p (omega arith) ∙ v.only.below p l;
    above = λ p l. b.only.above p (omega arith) ∙ v.only.above p (omega arith);
  }

  row_same : (x : Node) (n : ℕ) → NodeBytes s from F C x n → row_at now F C to ≡ x
  unfolding row_at
  row_same x n nb =
      let vals : cells now to F ≡ x.values = cells_same now to F x.values nb.values.long
      (λ i l. b.only.below (to + i) (omega arith) ∙ v.copied i l
      ∙ (let q = (nb.values.each 0 i l).0 in let r : get_or s (from + i) 0 - 0 ≡ get_or x.values i 0 = omega arith in
      r)) in
      let bels : cells now (to + F) C ≡ x.beliefs = cells_same now (to + F) C x.beliefs nb.beliefs.long
      (λ i l. b.copied i l
      ∙ (let q = (nb.beliefs.each 0 i l).0 in
      let r : get_or s ((from + F) + i) 0 - 1 ≡ get_or x.beliefs i 0 = omega arith in r)) in
      ap (λ (y : List ℕ). record { values = y; beliefs = cells now (to + F) C }) vals
      ∙ ap (λ (y : List ℕ). record { values = x.values; beliefs = y }) bels

  pub row_copied : RowCopied s from was now to F C
  row_copied =
      record {
        row = λ d sized nodes few x n e. row_same x n (node_bytes_lem d F C sized nodes few s from x n e);
        only = row_only;
      }

-- the loop that copies bytes
pub record Copying (s : List ℕ) (from : ℕ) (was now : List ℕ) (to count less i : ℕ) : Type 0 where
  pub copied : (j : ℕ) → j < i → get_or now (to + j) 0 ≡ get_or s (from + j) 0 - less
  pub only : RowOnly was now to count

pub copying_start : (s : List ℕ) (from : ℕ) (was : List ℕ) (to count less : ℕ) → Copying s from was was to count less 0
copying_start s from was to count less =
    record {
      copied = λ j l. absurd (omega arith);
      only = record { long = refl; below = λ p h. refl; above = λ p h. refl };
    }

pub copying_more : (s : List ℕ) (from : ℕ) (was now : List ℕ) (to count less i v : ℕ)
    → Copying s from was now to count less i → i < count → to + i < length now → v ≡ get_or s (from + i) 0 - less
    → Copying s from was (set now (to + i) v) to count less (i + 1)
copying_more s from was now to count less i v c h g e = record {
  copied = λ j l. by_cases (dec_lt j i)
      (λ lt. get_or-set_other now (to + i) (to + j) v 0 (omega arith) ∙ c.copied j lt)
      (λ ge. let same : i ≡ j = omega arith in
      subst (λ (j : ℕ). get_or (set now (to + i) v) (to + j) 0 ≡ get_or s (from + j) 0 - less) same
      (get_or-set_same now (to + i) v 0 g ∙ e));
  only = record {
    long = length-set now (to + i) v ∙ c.only.long;
    below = λ p l. get_or-set_other now (to + i) p v 0 (omega arith) ∙ c.only.below p l;
    above = λ p l. get_or-set_other now (to + i) p v 0 (omega arith) ∙ c.only.above p l;
  };
}

-- rows that are kept are the same rows
upto_same : {A : Type 0} (g h : ℕ → A) (n : ℕ) → ((i : ℕ) → i < n → g i ≡ h i) → upto g n ≡ upto h n
unfolding upto
upto_same g h zero e = refl
upto_same {A = A} g h (suc n) e =
    ap (λ (l : List A). l ++ (g n ∷ [])) (upto_same g h n (λ i l. e i (omega arith)))
    ∙ ap (λ (a : A). upto h n ++ (a ∷ [])) (e n (omega arith))

row_kept : (was now : List ℕ) (F C a top : ℕ) → (a + F) + C ≤ top → Below was now top
    → row_at now F C a ≡ row_at was F C a
unfolding row_at cells
row_kept was now F C a top h kept =
    ap (λ (y : List ℕ). record { values = y; beliefs = upto (λ i. get_or now ((a + F) + i) 0) C })
    (upto_same _ _ F (λ i l. kept (a + i) (omega arith)))
    ∙ ap (λ (y : List ℕ). record { values = upto (λ i. get_or was (a + i) 0) F; beliefs = y })
    (upto_same _ _ C (λ i l. kept ((a + F) + i) (omega arith)))

pub row_fits : (i n w : ℕ) → i < n → i * w + w ≤ n * w
row_fits i n w h = let e = mul-le-mul_right w h in let q = suc-mul i w in omega arith

pub rows_kept : (was now : List ℕ) (F C a n : ℕ) → Below was now (a + n * (F + C))
    → rows_at now (F + C) F C a n ≡ rows_at was (F + C) F C a n
unfolding rows_at
rows_kept was now F C a n kept =
    upto_same _ _ n (λ i l.
    row_kept was now F C (a + i * (F + C)) (a + n * (F + C)) (let q = row_fits i n (F + C) l in omega arith) kept)

-- i rows are copied, and left are left, from a place on
pub record Rowing (d : Dimensions) (s : List ℕ) (from nodes left : ℕ) (rows t : List Node) (end : ℕ) : Type 0 where
  pub rest : List Node
  pub reads : many (node_at d nodes) left s from ≡ done rest end
  pub same : rows ++ rest ≡ t

pub record NextRow (d : Dimensions) (s : List ℕ) (from nodes left : ℕ) (rows t : List Node) (end : ℕ) : Type 0 where
  pub item : Node
  pub place : ℕ
  pub rest : List Node
  pub here : node_at d nodes s from ≡ done item place
  pub more : many (node_at d nodes) (left - 1) s place ≡ done rest end
  pub same : rows ++ (item ∷ rest) ≡ t

pub rowing_one : (d : Dimensions) (s : List ℕ) (from nodes left : ℕ) (rows t : List Node) (end : ℕ)
    → Rowing d s from nodes left rows t end → 0 < left → NextRow d s from nodes left rows t end
unfolding runs
rowing_one d s from nodes zero rows t end r h = absurd (omega arith)
rowing_one d s from nodes (suc left) rows t end r h =
    let p = node_at d nodes in
    let b = both (p s from) (λ a n. mapped (λ rest. a ∷ rest) (many p left s n)) r.rest end r.reads in
    let u = unmapped (λ rest. b.value ∷ rest) (many p left s b.place) r.rest end b.right in
    record {
      item = b.value;
      place = b.place;
      rest = u.value;
      here = b.left;
      more = ap (λ (k : ℕ). many p k s b.place) (sub-one (suc left)) ∙ u.left;
      same = ap (λ (l : List Node). rows ++ l) u.right ∙ r.same;
    }

pub rowing_next : (d : Dimensions) (F C : ℕ) → Shaped d F C
    → (s : List ℕ) (from nodes left a i : ℕ) (was now : List ℕ) (t : List Node) (end : ℕ) → nodes ≤ 32
    → (x : NextRow d s from nodes left (rows_at was (F + C) F C a i) t end)
    → RowCopied s from was now (a + i * (F + C)) F C
    → Rowing d s (from + (F + C)) nodes (left - 1) (rows_at now (F + C) F C a (i + 1)) t end
unfolding rows_at upto
rowing_next d F C sized s from nodes left a i was now t end few x c =
    let nb = node_bytes_lem d F C sized nodes few s from x.item x.place x.here in
    let place : x.place ≡ from + (F + C) = (let q = nb.beliefs.ends in omega arith) in
    let row : row_at now F C (a + i * (F + C)) ≡ x.item = c.row d sized nodes few x.item x.place x.here in
    let g : ℕ → Node = λ j. row_at now F C (a + j * (F + C)) in
    let more : upto g (i + 1) ≡ upto g i ++ (x.item ∷ []) = ap (upto g) (add-one i)
    ∙ ap (λ (y : Node). upto g i ++ (y ∷ [])) row in
    let before : upto g i ≡ rows_at was (F + C) F C a i = rows_kept was now F C a i c.only.below in
    record {
      rest = x.rest;
      reads = ap (many (node_at d nodes) (left - 1) s) (sym place) ∙ x.more;
      same = ap (λ (l : List Node). l ++ x.rest) (more ∙ ap (λ (l : List Node). l ++ (x.item ∷ [])) before)
          ∙ append_assoc (rows_at was (F + C) F C a i) (x.item ∷ []) x.rest ∙ x.same;
    }

-- the same, counted up: behind row i are the nodes from i + 1 on
pub rowing_after : (d : Dimensions) (F C : ℕ) → Shaped d F C
    → (s : List ℕ) (from nodes a i : ℕ) (was now : List ℕ) (t : List Node) (end : ℕ) → nodes ≤ 32
    → (x : NextRow d s from nodes (nodes - i) (rows_at was (F + C) F C a i) t end)
    → RowCopied s from was now (a + i * (F + C)) F C
    → Rowing d s (from + (F + C)) nodes (nodes - (i + 1)) (rows_at now (F + C) F C a (i + 1)) t end
rowing_after d F C sized s from nodes a i was now t end few x c =
    let less : (nodes - i) - 1 ≡ nodes - (i + 1) = omega arith in
    subst (λ (k : ℕ). Rowing d s (from + (F + C)) nodes k (rows_at now (F + C) F C a (i + 1)) t end) less
    (rowing_next d F C sized s from nodes (nodes - i) a i was now t end few x c)

pub rowing_none : (d : Dimensions) (s : List ℕ) (from nodes left : ℕ) (rows t : List Node) (end : ℕ)
    → Rowing d s from nodes left rows t end → left ≤ 0 → rows ≡ t
unfolding runs
rowing_none d s from nodes zero rows t end r h =
    sym (append-nil rows) ∙ ap (λ (l : List Node). rows ++ l) (same_value r.reads) ∙ r.same
rowing_none d s from nodes (suc left) rows t end r h = absurd (omega arith)

-- a run that lies within a bound ends within it
pub run_end : (from k len top : ℕ) → ((i : ℕ) → i < k → from + i < len) → from ≤ top → len ≤ top → from + k ≤ top
run_end from zero len top h g l = omega arith
run_end from (suc k) len top h g l = let q = h k (omega arith) in omega arith

-- what a node's bytes say to the copy of a row
pub row_values : (s : List ℕ) (from F C : ℕ) (x : Node) (n : ℕ) (buffer : List ℕ) (to : ℕ) → NodeBytes s from F C x n
    → to + (F + C) ≤ length buffer → Copyable s from buffer to F 0
row_values s from F C x n buffer to nb room =
    record { source = λ i l. (nb.values.each 0 i l).1; enough = λ i l. omega arith; room = omega arith }

pub row_beliefs : (s : List ℕ) (from F C : ℕ) (x : Node) (n : ℕ) (buffer : List ℕ) (to : ℕ) → NodeBytes s from F C x n
    → to + (F + C) ≤ length buffer → Copyable s (from + F) buffer (to + F) C 1
row_beliefs s from F C x n buffer to nb room =
    record {
      source = λ i l. (nb.beliefs.each 0 i l).1;
      enough = λ i l. let q = (nb.beliefs.each 0 i l).0 in omega arith;
      room = omega arith;
    }

-- the places after a row's values, and after the row
pub row_ends : (s : List ℕ) (from F C : ℕ) (x : Node) (n top : ℕ) → NodeBytes s from F C x n → from ≤ top
    → length s ≤ top → (from + F ≤ top) × ((from + F) + C ≤ top)
row_ends s from F C x n top nb g l =
    let a = run_end from F (length s) top (λ i h. (nb.values.each 0 i h).1) g l in
    (a, run_end (from + F) C (length s) top (λ i h. (nb.beliefs.each 0 i h).1) a l)
