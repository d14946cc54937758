-- The rows of a table that row 0 reaches, numbered breadth first: every table's state has an ordered table. Assumes
-- nothing.
use Rattle.std.specs.Prelude.{ℕ, zero, suc, ◌+◌, ◌<◌, ◌≤◌, max, ◌≡◌, refl, ◌≢◌, List, [], ◌∷◌, ◌++◌, length}
use Rattle.std.proofs.Common.{sym, ◌∙◌, ap, ap₂, subst, ⊎_elim, length-append, eq-or-lt_of_le, le_of_suc-le-suc, arith}
use Rattle.std.proofs.Math.Logic.{by_cases}
use Rattle.std.proofs.Math.ListN.{get_or, get_or-append}
use Rattle.std.proofs.Math.Seq.{get_or-append_seam}
use Rattle.std.proofs.Math.Decide.{ℕ_discrete, dec_lt}
use Rattle.pack.specs.State.{node, nowhere, meaning, target, Closed}
use Rattle.pack.specs.Syntax.{Node}
use Rattle.chart.specs.Chart.{meets, Fresh, met, Ordered}
use Rattle.chart.specs.Laws.Built.{built, copied}
use Rattle.chart.specs.Laws.Count.{all, count_all, count_inj, least, turn}
use Rattle.chart.specs.Laws.Lists.{tabulate, length_tabulate, get_d_tabulate}
use Rattle.chart.specs.Laws.Pass.{numbered, Pass, pass_start, pass_row, pass_end}

-- rows numbered so far: all different, all below N
record Keys (N : ℕ) (keys : List ℕ) : Type 0 where
  differ : (i j : ℕ) → i < j → j < length keys → get_or keys i 0 ≢ get_or keys j 0
  within : (i : ℕ) → i < length keys → get_or keys i 0 < N

keys_few : {N : ℕ} (keys : List ℕ) → Keys N keys → length keys ≤ N
keys_few {N} keys k =
    omega (
      arith,
      count_all (length keys),
      count_all N,
      count_inj all all (λ i j. get_or keys i 0 ≡ j) (length keys) N
          (λ i l _. (get_or keys i 0, k.within i l, tt, refl))
          (λ i j n l h _ e f. k.differ i j l h (e ∙ sym f)),
    )

-- the number of one row, given or new
record Numbered1 (N : ℕ) (keys : List ℕ) (b i : ℕ) (keys' : List ℕ) : Type 0 where
  good : Keys N keys'
  low : i ≤ length keys
  count : length keys' ≡ max (length keys) (suc i)
  keep : (j : ℕ) → j < length keys → get_or keys' j 0 ≡ get_or keys j 0
  names : get_or keys' i 0 ≡ b

number1 : {N : ℕ} (keys : List ℕ) → Keys N keys → (b : ℕ) → b < N
    → (i : ℕ) × (keys' : List ℕ) × Numbered1 N keys b i keys'
number1 {N} keys k b h = ⊎_elim new old (least (λ i. turn (ℕ_discrete (get_or keys i 0) b)) (length keys))
  where
    old : (i : ℕ) × (i < length keys) × (get_or keys i 0 ≡ b) × ((m : ℕ) → m < i → get_or keys m 0 ≢ b)
        → (i : ℕ) × (keys' : List ℕ) × Numbered1 N keys b i keys'
    old (i, l, e, _) =
        (i, keys, record { good = k; low = omega arith; count = omega arith; keep = λ j _. refl; names = e })

    long : length (keys ++ (b ∷ [])) ≡ suc (length keys)
    long = omega (arith, length-append keys (b ∷ []))

    keep : (j : ℕ) → j < length keys → get_or (keys ++ (b ∷ [])) j 0 ≡ get_or keys j 0
    keep j l = get_or-append keys (b ∷ []) 0 j l

    last : get_or (keys ++ (b ∷ [])) (length keys) 0 ≡ b
    last = get_or-append_seam keys b [] 0

    new : ((i : ℕ) → i < length keys → get_or keys i 0 ≢ b) → (i : ℕ) × (keys' : List ℕ) × Numbered1 N keys b i keys'
    new f = (
      length keys,
      keys ++ (b ∷ []),
      record {
        good = record {
          differ = λ i j l g e. ⊎_elim
              (λ (z : j ≡ length keys).
              f i (omega arith) (sym (keep i (omega arith)) ∙ e ∙ ap (λ (j : ℕ). get_or (keys ++ (b ∷ [])) j 0) z
              ∙ last))
              (λ (lj : j < length keys). k.differ i j l lj (sym (keep i (omega arith)) ∙ e ∙ keep j lj))
              (eq-or-lt_of_le (le_of_suc-le-suc (rw long at g)));
          within = λ i g. ⊎_elim
              (λ (z : i ≡ length keys). rw (z, last) h)
              (λ (l : i < length keys). omega (arith, keep i l, k.within i l))
              (eq-or-lt_of_le (le_of_suc-le-suc (rw long at g)));
        };
        low = omega arith;
        count = omega (arith, long);
        keep = keep;
        names = last;
      },
    )

record Numbers (N : ℕ) (keys bs out keys' : List ℕ) : Type 0 where
  good : Keys N keys'
  more : length keys ≤ length keys'
  keep : (j : ℕ) → j < length keys → get_or keys' j 0 ≡ get_or keys j 0
  long : length out ≡ length bs
  fresh : Fresh (length keys) out
  count : meets (length keys) out ≡ length keys'
  names : (j : ℕ) → j < length bs → get_or keys' (get_or out j 0) 0 ≡ get_or bs j 0

number : {N : ℕ} (bs : List ℕ) → ((j : ℕ) → j < length bs → get_or bs j 0 < N) → (keys : List ℕ) → Keys N keys
    → (out : List ℕ) × (keys' : List ℕ) × Numbers N keys bs out keys'
unfolding meets Fresh
number [] h keys k = (
  [],
  keys,
  record {
    good = k;
    more = omega arith;
    keep = λ j l. refl;
    long = refl;
    fresh = tt;
    count = refl;
    names = λ j l. absurd (omega arith);
  },
)
number (b ∷ bs) h keys k =
    let (i, k1, r1) = number1 keys k b (h 0 (omega arith)) in
    let (out, k2, r2) = number bs (λ j l. h (suc j) (omega arith)) k1 r1.good in (
      i ∷ out,
      k2,
      record {
        good = r2.good;
        more = omega (arith, r1.count, r2.more);
        keep = λ j l. r2.keep j (omega (arith, r1.count)) ∙ r1.keep j l;
        long = ap suc r2.long;
        fresh = (r1.low, subst (λ (n : ℕ). Fresh n out) r1.count r2.fresh);
        count = ap (λ (n : ℕ). meets n out) (sym r1.count) ∙ r2.count;
        names = λ j. elim j as (λ j. j < suc (length bs) → get_or k2 (get_or (i ∷ out) j 0) 0 ≡ get_or (b ∷ bs) j 0) [
          | zero ↦ λ l. r2.keep i (omega (arith, r1.count)) ∙ r1.names
          | suc j ↦ λ l. r2.names j (omega arith)
        ];
      },
    )

met-append : (t : List Node) (row : Node) (i : ℕ) → i ≤ length t → met (t ++ (row ∷ [])) i ≡ met t i
unfolding met
met-append t row zero h = refl
met-append t row (suc i) h =
    ap₂ meets (met-append t row i (omega arith))
    (ap (λ (n : Node). n.beliefs) (get_or-append t (row ∷ []) nowhere i h))

numbered-append : (t : List Node) (row : Node) → numbered (t ++ (row ∷ [])) ≡ meets (numbered t) row.beliefs
unfolding met
numbered-append t row =
    let e : length (t ++ (row ∷ [])) ≡ suc (length t) = omega (arith, length-append t (row ∷ [])) in
    ap (met (t ++ (row ∷ []))) e
    ∙ ap₂ meets (met-append t row (length t) (omega arith))
    (ap (λ (n : Node). n.beliefs) (get_or-append_seam t row [] nowhere))

module _ (C : ℕ) (t : List Node) (closed : Closed C t) (some : 0 < length t) where
  abbrev Real : ℕ → Type 0
  Real n = Unit {0}

  abbrev val : ℕ → List ℕ
  val n = (node t n).values

  record Under (u : List Node) (keys : List ℕ) : Type 0 where
    pass : Pass C Real val (target t) u (λ i. get_or keys i 0)
    good : Keys (length t) keys
    count : numbered u ≡ length keys
    open' : length u ≤ length keys
    some' : 0 < length keys
    first : get_or keys 0 0 ≡ 0

  under_start : Under [] (0 ∷ [])
  unfolding met
  under_start = record {
    pass = pass_start C Real val (target t) (λ i. get_or (0 ∷ []) i 0) tt;
    good =
        record { differ = λ i j l h. absurd (omega arith); within = λ i l. let e : i ≡ 0 = omega arith in rw e some };
    count = refl;
    open' = omega arith;
    some' = omega arith;
    first = refl;
  }

  under_row : (u : List Node) (keys : List ℕ) → Under u keys → length u < length keys
      → (u' : List Node) × (keys' : List ℕ) × (length u' ≡ suc (length u)) × Under u' keys'
  under_row u keys d h =
      let k = get_or keys (length u) 0 in
      let lk : k < length t = d.good.within (length u) h in
      let f : (c : ℕ) → c < C → ℕ = λ c g. target t k c in
      let bs : List ℕ = tabulate C f in
      let long : length bs ≡ C = length_tabulate C f in
      let inb : (j : ℕ) → j < length bs → get_or bs j 0 < length t = λ j l. let lj : j < C = omega arith in
      omega (arith, get_d_tabulate C f 0 j lj, closed k j lk lj) in
      let (out, keys', r) = number bs inb keys d.good in
      let row : Node = record { values = (node t k).values; beliefs = out } in
      let count : numbered (u ++ (row ∷ [])) ≡ length keys' = numbered-append u row
      ∙ ap (λ (n : ℕ). meets n out) d.count ∙ r.count in (
        u ++ (row ∷ []),
        keys',
        omega (arith, length-append u (row ∷ [])),
        record {
          pass = pass_row C Real val (target t) u row (λ i. get_or keys i 0) (λ i. get_or keys' i 0) d.pass
              (λ i l. r.keep i (omega (arith, d.count))) (λ i l. tt)
              (omega (arith, d.count)) refl (r.long ∙ long)
              (subst (λ (n : ℕ). Fresh n out) (sym d.count) r.fresh)
              (λ c lc. r.names c (omega arith) ∙ get_d_tabulate C f 0 c lc);
          good = r.good;
          count = count;
          open' = omega (arith, length-append u (row ∷ []), r.more);
          some' = omega (arith, d.some', r.more);
          first = r.keep 0 d.some' ∙ d.first;
        },
      )

  under_end : (n : ℕ) (u : List Node) (keys : List ℕ) → Under u keys → length t ≤ n + length u
      → (u : List Node) × (keys : List ℕ) × Under u keys × (numbered u ≡ length u)
  under_end zero u keys d h =
      by_cases (dec_lt (length u) (length keys)) (λ l. absurd (omega (arith, keys_few keys d.good)))
      (λ g. (u, keys, d, omega (arith, d.count, d.open')))
  under_end (suc n) u keys d h =
      by_cases (dec_lt (length u) (length keys))
      (λ l. let (u', keys', e, d') = under_row u keys d l in under_end n u' keys' d' (omega arith))
      (λ g. (u, keys, d, omega (arith, d.count, d.open')))

  pub reaching : (u : List Node) × Ordered C u × (meaning C u 0 ≡ meaning C t 0)
  reaching =
      let (u, keys, d, e) = under_end (length t) [] (0 ∷ []) under_start (omega arith) in
      let (rows, ordered) = pass_end C Real val (target t) u (λ i. get_or keys i 0) d.pass e in
      (u, ordered, built (copied C t) rows 0 (omega (arith, d.some', d.count)) ∙ ap (meaning C t) d.first)
