-- Bytes and rows of a buffer: their number, each of them, one more, and the same where the bytes are. Assumes nothing.
use Rattle.std.specs.Prelude.{◌≡◌, List, [], ◌∷◌, ◌++◌, ℕ, zero, suc, ◌+◌, ◌*◌, ◌-◌, ◌<◌, ◌≤◌, length}
use Rattle.std.proofs.Math.Path.{refl}
use Rattle.std.proofs.Common.{◌∙◌, ap, ap₂, suc-mul, mul-le-mul_left, mul-le-mul_right, arith}
use Rattle.std.proofs.Math.Logic.{by_cases}
use Rattle.std.proofs.Math.Numerals.{add-one}
use Rattle.std.proofs.Math.Decide.{dec_lt}
use Rattle.std.proofs.Math.ListN.{get_or}
use Rattle.pack.specs.State.{node, nowhere}
use Rattle.pack.specs.Laws.Rows.{upto-length, upto-at}
use Rattle.pack.specs.Duties.Table.{upto, cells, row_at, rows_at}
use Rattle.chart.specs.Duties.Put.{Cleared, PartCopied}

upto_same : {A : Type 0} (g h : ℕ → A) (n : ℕ) → ((i : ℕ) → i < n → g i ≡ h i) → upto g n ≡ upto h n
unfolding upto
upto_same g h zero e = refl
upto_same g h (suc n) e = ap₂ (λ l x. l ++ (x ∷ [])) (upto_same g h n (λ i l. e i (omega arith))) (e n (omega arith))

module _ (bytes : List ℕ) (a : ℕ) where
  pub cells-length : (k : ℕ) → length (cells bytes a k) ≡ k
  unfolding cells
  cells-length k = upto-length (λ i. get_or bytes (a + i) 0) k

  pub cells_none : cells bytes a 0 ≡ []
  unfolding cells upto
  cells_none = refl

  pub cells_more : (k : ℕ) → cells bytes a (k + 1) ≡ cells bytes a k ++ (get_or bytes (a + k) 0 ∷ [])
  unfolding cells upto
  cells_more k = rw add-one

pub cells_same : (was now : List ℕ) (a b k : ℕ) → ((i : ℕ) → i < k → get_or now (b + i) 0 ≡ get_or was (a + i) 0)
    → cells now b k ≡ cells was a k
unfolding cells
cells_same was now a b k h = upto_same (λ i. get_or now (b + i) 0) (λ i. get_or was (a + i) 0) k h

-- a row below n lies within n rows
pub row_in : (n w i : ℕ) → i < n → i * w + w ≤ n * w
row_in n w i h = omega (arith, suc-mul i w, mul-le-mul_right w h)

-- at most k rows of at most 30 bytes
pub rows_most : {n k w : ℕ} → n ≤ k → w ≤ 30 → n * w ≤ k * 30
rows_most {n} {k} {w} few slim = omega (arith, mul-le-mul_left n slim, mul-le-mul_right 30 few)

module _ (bytes : List ℕ) (w f c a : ℕ) where
  pub rows_node : (n i : ℕ) → i < n
      → node (rows_at bytes w f c a n) i
      ≡ record { values = cells bytes (a + i * w) f; beliefs = cells bytes (a + i * w + f) c }
  unfolding rows_at row_at
  rows_node n i h = upto-at (λ i. row_at bytes f c (a + i * w)) n i nowhere h

  pub rows_none : rows_at bytes w f c a 0 ≡ []
  unfolding rows_at upto
  rows_none = refl

  pub rows_more : (n : ℕ)
      → rows_at bytes w f c a (n + 1) ≡ rows_at bytes w f c a n
      ++ (record { values = cells bytes (a + n * w) f; beliefs = cells bytes (a + n * w + f) c } ∷ [])
  unfolding rows_at row_at upto
  rows_more n = rw add-one

-- rows are the same where their bytes are
pub rows_same : (was now : List ℕ) (w f c a b n : ℕ) → f + c ≤ w
    → ((p : ℕ) → p < n * w → get_or now (b + p) 0 ≡ get_or was (a + p) 0)
    → rows_at now w f c b n ≡ rows_at was w f c a n
unfolding rows_at row_at
rows_same was now w f c a b n wide h = upto_same (λ i. row_at now f c (b + i * w)) (λ i. row_at was f c (a + i * w)) n
    (λ i l. let r = row_in n w i l in λ j. record {
      values = cells_same was now (a + i * w) (b + i * w) f
          (λ q lq. let x : b + i * w + q ≡ b + (i * w + q) = omega arith in
          let y : a + i * w + q ≡ a + (i * w + q) = omega arith in rw (x, y) (h (i * w + q) (omega arith))) j;
      beliefs = cells_same was now (a + i * w + f) (b + i * w + f) c
          (λ q lq. let x : b + i * w + f + q ≡ b + (i * w + f + q) = omega arith in
          let y : a + i * w + f + q ≡ a + (i * w + f + q) = omega arith in rw (x, y) (h (i * w + f + q) (omega arith)))
          j;
    })

-- bytes that are 0 need no clearing
pub cleared_already : (was : List ℕ) (a k : ℕ) → ((q : ℕ) → q < k → get_or was (a + q) 0 ≡ 0) → Cleared was was a k
cleared_already was a k h = record { clear = h; low = λ p l. refl; high = λ p l. refl }

-- one part cleared behind another
pub cleared_on : (was mid now : List ℕ) (a i k : ℕ) → Cleared was mid a i → Cleared mid now (a + i) k
    → Cleared was now a (i + k)
cleared_on was mid now a i k c d = record {
  clear = λ q h. by_cases (dec_lt q i)
      (λ l. d.low (a + q) (omega arith) ∙ c.clear q l)
      (λ g. let e : a + q ≡ a + i + (q - i) = omega arith in
      ap (λ (p : ℕ). get_or now p 0) e ∙ d.clear (q - i) (omega arith));
  low = λ p h. d.low p (omega arith) ∙ c.low p h;
  high = λ p h. d.high p (omega arith) ∙ c.high p (omega arith);
}

-- what stands behind the first f bytes of a part
pub part_behind : {was now : List ℕ} {a b : ℕ} (f c : ℕ) → PartCopied was now a b (f + c) → (d : ℕ) → d < c
    → get_or now (b + f + d) 0 ≡ get_or was (a + f + d) 0
part_behind {was} {now} {a} {b} f c p d l =
    let i : b + f + d ≡ b + (f + d) = omega arith in
    let o : a + (f + d) ≡ a + f + d = omega arith in
    ap (λ (q : ℕ). get_or now q 0) i ∙ p.part (f + d) (omega arith) ∙ ap (λ (q : ℕ). get_or was q 0) o
