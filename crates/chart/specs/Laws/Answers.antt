-- Start's and Compare's functions are their relations over chains; they depend on what the tables mean alone, and what
-- Start gives is a table again. Assumes nothing.
use Rattle.std.specs.Prelude.{ℕ, ◌<◌, ◌≤◌, ◌+◌, ◌-◌, ◌≡◌, ◌↔◌}
use Rattle.std.proofs.Common.{sym, ◌∙◌, ap, subst, arith, List, []}
use Rattle.std.proofs.Math.Logic.{dite}
use Rattle.std.proofs.Math.ListN.{length}
use Rattle.pack.specs.State.{State, Valid, meaning, Closed, nowhere, node, walk, after}
use Rattle.pack.specs.Syntax.{Node}
use Rattle.pack.specs.Layout.{Valued, NodeFits, ChartFits}
use Rattle.pack.specs.Laws.Fits.{each_from, fits-node, fits_closed, fits_sized}
use Rattle.pack.specs.Laws.Table.{same_valid, finds_walk, walk_inside, after-walk}
use Rattle.chart.specs.Answers.{start_table, compare_table}
use Rattle.chart.specs.Chart.{Written, Starts}
use Rattle.chart.specs.Compare.{Compared, Verdict, same, differ}
use Rattle.chart.specs.States.{Everywhere}
use Rattle.chart.specs.Laws.Charted.{chart}
use Rattle.chart.specs.Laws.Comparing.{compare_of, compared, compared_one, compare_short}
use Rattle.chart.specs.Laws.Count.{all, count_all, count_inj}
use Rattle.chart.specs.Laws.Tables.{IsTable, tabled, IsFull, everywhere_table, on_table_lem, full?, full}
use Rattle.chart.specs.Laws.Unique.{unique, ordered_reached, some}

pub starts_one : (C : ℕ) (s : State) (t u : List Node) → Starts C s t → Starts C s u → t ≡ u
starts_one C s t u x y = unique C t u x.0 y.0 (x.1 ∙ sym y.1)

module _ (C : ℕ) (t : List Node) (r : IsTable C t) where
  abbrev means0 : State
  means0 = meaning C t 0

  pub start_table_lem : Starts C means0 (start_table C t)
  unfolding start_table
  start_table_lem = on_table_lem C t (λ x. (chart x).rows) [] (Starts C means0) r
      (λ x. ((chart x).written, (chart x).means))

  pub start_table_iff : (rows : List Node) → Starts C means0 rows ↔ (start_table C t ≡ rows)
  start_table_iff rows = (
    λ y. starts_one C means0 (start_table C t) rows start_table_lem y,
    λ e. subst (Starts C means0) e start_table_lem,
  )

-- one meaning is: no chain of characters that are there tells them apart
pub one_meaning : (C : ℕ) (t u : List Node)
    → ((chain : List ℕ) → Valid C chain → meaning C t 0 chain ≡ meaning C u 0 chain) → meaning C t 0 ≡ meaning C u 0
one_meaning C t u h = (same_valid C t u 0 0).1 h

-- a written chart is a table
pub written_table : (C : ℕ) (t : List Node) → Written C t → IsTable C t
written_table C t w = (w.ordered.closed, some t w.ordered.whole)

-- what holds wherever chains lead holds of each of its rows
pub written_everywhere : (C : ℕ) (P : List ℕ → Type 0) (t : List Node) → Written C t → Everywhere C P (meaning C t 0)
    → (n : ℕ) → n < length t → P (node t n).values
written_everywhere C P t w h n l =
    let (chain, v, e) = ordered_reached C t w.ordered n l in
    subst (λ (n : ℕ). P (node t n).values) e (subst P (finds_walk C t chain 0 v) (h chain v))

-- and so a written chart of values within their domains, with at most 32 rows, is one that is read
pub written_fits : (C : ℕ) (D : List ℕ) (t : List Node) → Written C t → Everywhere C (Valued D) (meaning C t 0)
    → length t ≤ 32 → ChartFits C D t
written_fits C D t w h few = (
  some t w.ordered.whole,
  few,
  each_from (NodeFits C D (length t)) nowhere t (λ n l. record {
    values = written_everywhere C (Valued D) t w h n l;
    believers = w.ordered.wide n l;
    beliefs = each_from (λ b. b < length t) 0 (node t n).beliefs
        (λ c g. w.ordered.closed n c l (omega (arith, w.ordered.wide n l)));
  }),
)

-- it has no more rows than any table of its state
pub written_short : (C : ℕ) (t u : List Node) → Written C t → Closed C u → 0 < length u → meaning C t 0 ≡ meaning C u 0
    → length t ≤ length u
written_short C t u w closed pos e =
    omega (
      arith,
      count_all (length t),
      count_all (length u),
      count_inj all all (λ i j. meaning C t i ≡ meaning C u j) (length t) (length u)
          (λ i l _. let (chain, v, g) = ordered_reached C t w.ordered i l in (
            walk u 0 chain,
            walk_inside C u closed chain 0 pos v,
            tt,
            ap (meaning C t) (sym g)
                ∙ sym (after-walk C t chain 0 v) ∙ ap (λ (s : State). after s chain) e ∙ after-walk C u chain 0 v,
          ))
          (λ i j k l h _ x y. w.apart i j l h (x ∙ sym y)),
    )

-- a chart that is read is a table
pub fits_table : (C : ℕ) (D : List ℕ) (t : List Node) → ChartFits C D t → IsTable C t
fits_table C D t h = (fits_closed C D t h, h.0)

pub fits-full : (C : ℕ) (D : List ℕ) (t : List Node) → ChartFits C D t → IsFull C (length D) t
fits-full C D t h = (fits_table C D t h, fits_sized C D t h)

pub fits_everywhere : (C : ℕ) (D : List ℕ) (t : List Node) → ChartFits C D t → Everywhere C (Valued D) (meaning C t 0)
fits_everywhere C D t h =
    everywhere_table C (Valued D) t (fits_closed C D t h) h.0 (λ n l. (fits-node C D t h n l).values)

-- What Start gives is a chart that is read, with no more rows
module _ (C : ℕ) (D : List ℕ) (t : List Node) (h : ChartFits C D t) where
  pub start_short : length (start_table C t) ≤ length t
  start_short =
      let (w, e) = start_table_lem C t (fits_table C D t h) in
      written_short C (start_table C t) t w (fits_closed C D t h) h.0 e

  pub start_fits : ChartFits C D (start_table C t)
  start_fits =
      let (w, e) = start_table_lem C t (fits_table C D t h) in
      written_fits C D (start_table C t) w (subst (Everywhere C (Valued D)) (sym e) (fits_everywhere C D t h))
      (omega (arith, start_short, h.1))

module _ (C F : ℕ) (t u : List Node) (r : IsFull C F t) (q : IsFull C F u) where
  abbrev Said : Verdict → Type 0
  Said v = Compared C (meaning C t 0) (meaning C u 0) v

  compare_table_lem : Said (compare_table C F t u)
  unfolding compare_table
  compare_table_lem =
      elim (full? C F t) as (λ d.
      Said (dite d (λ r. dite (full? C F u) (λ q. compare_of (full C F t r) (full C F u q)) (λ n. same)) (λ n. same))) [
        | yes a ↦ elim (full? C F u) as (λ d. Said (dite d (λ q. compare_of (full C F t a) (full C F u q)) (λ n. same)))
            [ yes b ↦ compared (full C F t a) (full C F u b) | no n ↦ absurd (n q) ]
        | no n ↦ absurd (n r)
      ]

  pub compare_table_iff : (v : Verdict) → Said v ↔ (compare_table C F t u ≡ v)
  compare_table_iff v = (
    λ h. compared_one C (meaning C t 0) (meaning C u 0) (compare_table C F t u) v compare_table_lem h,
    λ e. subst Said e compare_table_lem,
  )

  -- with at most 32 nodes each the chain has at most 62 characters
  pub compare_table_short : (chain : List ℕ) (f : ℕ) → compare_table C F t u ≡ differ chain f
      → length chain ≤ (length t + length u) - 2
  unfolding compare_table full tabled
  compare_table_short chain f =
      elim (full? C F t) as (λ d.
      dite d (λ r. dite (full? C F u) (λ q. compare_of (full C F t r) (full C F u q)) (λ n. same)) (λ n. same)
      ≡ differ chain f
      → length chain ≤ (length t + length u) - 2) [
        | yes a ↦ elim (full? C F u) as (λ d.
            dite d (λ q. compare_of (full C F t a) (full C F u q)) (λ n. same) ≡ differ chain f
            → length chain ≤ (length t + length u) - 2) [
              | yes b ↦ λ e. compare_short (full C F t a) (full C F u b) chain f e
              | no n ↦ absurd (n q)
            ]
        | no n ↦ absurd (n r)
      ]
