-- The partition's theorems (`Moore`) said of a table: class numbers that may stop are what `Merged` asks for. Assumes
-- nothing.
use Rattle.std.specs.Prelude.{ℕ, ◌<◌, ◌≡◌, ◌↔◌, length}
use Rattle.std.proofs.Math.Path.{refl, fun_ext}
use Rattle.std.proofs.Common.{sym, ◌∙◌, ap, arith, List, [], ◌∷◌}
use Rattle.std.proofs.Math.Logic.Iff
use Rattle.chart.specs.Laws.Moore as moore
use Rattle.pack.specs.State.{State, node, meaning, target, Closed}
use Rattle.pack.specs.Syntax.{Node}
use Rattle.chart.specs.Chart.{Ordered}
use Rattle.chart.specs.States.{AtMost}
use Rattle.chart.specs.Laws.Counted.{at_least_so_many}
use Rattle.chart.specs.Laws.Merged.{classes, Numbered, first}
use Rattle.chart.specs.Laws.Unique.{ordered_reached}

module _ (C : ℕ) (t : List Node) where
  abbrev pub val : ℕ → List ℕ
  val n = (node t n).values

  pub meaning_at : (n : ℕ) → meaning C t n ≡ moore.at C val (target t) n
  unfolding meaning moore.at
  meaning_at n = fun_ext λ chain. go chain n
    where
      go : (chain : List ℕ) (n : ℕ) → meaning C t n chain ≡ moore.at C val (target t) n chain
      go [] n = refl
      go (c ∷ chain) n = rw (go chain (target t n c))

  -- class numbers of level k, where the partition is stable
  pub exact : (closed : Closed C t) (k : ℕ) (cls : ℕ → ℕ) → moore.Exact C val (target t) (length t) k cls
      → moore.Stable C val (target t) (length t) closed k
      → (i j : ℕ) → i < length t → j < length t → (cls i ≡ cls j) ↔ (meaning C t i ≡ meaning C t j)
  exact closed k cls e st i j li lj =
      Iff.trans (moore.exact_all C val (target t) (length t) closed k cls e st i j li lj)
      (λ x. meaning_at i ∙ x ∙ sym (meaning_at j), λ x. sym (meaning_at i) ∙ x ∙ meaning_at j)

  -- class numbers of any level: rows that mean the same are of one class
  pub coarse : (k : ℕ) (cls : ℕ → ℕ) → moore.Exact C val (target t) (length t) k cls → (i j : ℕ) → i < length t
      → j < length t → meaning C t i ≡ meaning C t j → cls i ≡ cls j
  coarse k cls e i j li lj x = (e i j li lj).1
      (λ ch l. ap (λ (s : State). s ch) (sym (meaning_at i) ∙ x ∙ meaning_at j))

-- more classes than n at any level: more states than n
pub many : (C : ℕ) (t : List Node) → Ordered C t → (cls : ℕ → ℕ) → Numbered cls (length t)
    → ((i j : ℕ) → i < length t → j < length t → meaning C t i ≡ meaning C t j → cls i ≡ cls j)
    → (n : ℕ) → n < classes cls (length t) → ¬ AtMost n C (meaning C t 0)
many C t w cls d same n h x =
    omega (
      arith,
      at_least_so_many C t (ordered_reached C t w) cls (classes cls (length t))
          (λ i l. let (r, lr, e, f) = first cls (length t) d i l in (r, lr, e)) same n x,
    )
