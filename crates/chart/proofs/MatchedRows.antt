-- Rows compared: the first pair whose values differ, and the verdict on what they mean. Assumes nothing.
use Rattle.std.proofs.Common.{ℕ, ◌+◌, ◌*◌, ◌<◌, ◌≤◌, ◌≡◌, refl, sym, ap, ap₂, ◌∙◌, subst, List, ◌++◌, le_trans, arith}
use Rattle.std.proofs.Common.{length, get_or, drop}
use Rattle.std.proofs.Math.Logic.{by_cases}
use mathlib.Core.List.{List-discrete}
use Rattle.std.proofs.Math.Decide.{ℕ_discrete, dec_le}
use Rattle.std.specs.Prelude.{Option, Some, None}
use Rattle.std.proofs.lemmas.Option.{MatchOption-at_some, MatchOption-at_none}
use Rattle.pack.specs.Syntax.{Node}
use Rattle.pack.specs.State.{State, node, target, meaning, Closed}
use Rattle.pack.specs.Duties.Table.{cells, rows_at, Above}
use Rattle.pack.specs.Reading.{gives}
use Rattle.pack.specs.Laws.Table.{finds_walk}
use Rattle.pack.specs.Laws.Rows.{cells_at, rows_length}
use Rattle.std.specs.Prelude.{Option, Some, None}
use Rattle.chart.specs.declared.Difference as parting
use Rattle.chart.specs.Compare.{Verdict, same, differ, Compared, Differ}
use Rattle.chart.specs.Call.{work_room}
use Rattle.chart.specs.Promises.{after}
use Rattle.chart.specs.Laws.Answers.{compare_table_iff}
use Rattle.chart.specs.Laws.Tables.{IsFull}
use Rattle.chart.specs.Laws.Bridge.{val, meaning_at}
use Rattle.chart.specs.Laws.Comparing.{differ_valid}
use Rattle.chart.specs.Laws.Moore as moore
use Rattle.chart.specs.Duties.Numbers.{Sound}
use Rattle.chart.specs.Duties.Level.{FirstNot, SameByte}
use Rattle.chart.specs.Inner.Pairs.{left_at, right_at, Paired, PairsIn, FirstMet, FirstOther, Sought, Ways, Writable}
use Rattle.chart.specs.Inner.Pairs.{LongWay, WayWritten}
use Rattle.chart.specs.Duties.Look.{NodesRead}
use Rattle.chart.specs.Duties.Put.{Cleared}
use Rattle.chart.specs.Inner.Match.{Joinable, Joined, Matchable, Said, RowsMatched, ChartsMatched}
use Rattle.chart.specs.Laws.Cells.{row_in, rows_node, rows_same, rows_most}
use Rattle.chart.proofs.PartitionLevels.{sound_closed}
use Rattle.chart.proofs.MetPairs.{entries_most, pairs_first}
use Rattle.chart.specs.Laws.ChartBytes.{front_back}
use Rattle.chart.specs.Laws.LookedUp.{cleared_all}
use Rattle.chart.proofs.JoinedCharts.{read_long, read_closed, read_values}

module _ {work : List ℕ} {n m f c : ℕ} {chain : List ℕ} (p : Matchable work chain n m f c) where
  abbrev w : ℕ
  w = f + c

  abbrev T : List Node
  T = rows_at work w f c 1 (n + m)

  pub rows_room : 1 + (n + m) * w ≤ 1921
  rows_room = let few : n + m ≤ 64 = omega (arith, p.few) in omega (arith, rows_most few p.slim.0)

  pub match_paired : {mid : List ℕ} → length mid ≡ length work → Paired mid (n + m) w f c 1 2048 6144
  match_paired long = record { few = omega (arith, p.few); wide = omega arith; narrow = omega (arith, p.slim); source = omega (arith, rows_room); marks = omega arith; room = omega (arith, p.room) }

  -- rows 0 and n are the first pair
  module _ {mid : List ℕ} (b : FirstMet work mid 2048 6144 0 n) where
    kept : rows_at mid w f c 1 (n + m) ≡ T
    kept = rows_same work mid w f c 1 1 (n + m) (omega arith) (λ q h. b.low (1 + q) (omega (arith, rows_room)))

    pub match_sound : Sound mid (n + m) w f c 1
    match_sound = record { beliefs = λ i d h l. omega (arith, b.low (1 + i * w + f + d) (omega (arith, row_in (n + m) w i h, rows_room)), p.sound.beliefs i d h l) }

    pub match_pairs : PairsIn mid (n + m) w f c 1 2048 6144 1 0 0
    match_pairs = pairs_first (rows_at mid w f c 1 (n + m)) (omega (arith, p.few)) (omega (arith, p.some)) (omega (arith, p.some)) b

    module _ {now : List ℕ} {r : Option (ℕ × ℕ)} (x : Sought mid now (n + m) w f c 1 2048 6144 r) where
      -- bytes of the rows are as they were
      low : (q : ℕ) → q < 2048 → get_or now q 0 ≡ get_or work q 0
      low q h = x.low q h ∙ b.low q h

      high : Above work now 26624
      high q h = x.high q (omega arith) ∙ b.high q (omega arith)

      pub matched_same : r ≡ None → RowsMatched work now chain chain None n m f c
      matched_same e = record {
        verdict = same;
        true = ap₂ (λ (t : List Node) (i : ℕ). meaning c t i) (sym kept) (sym b.left) ∙ MatchOption-at_none _ _ e x.found ∙ ap₂ (λ (t : List Node) (i : ℕ). meaning c t i) kept b.right;
        said = record { answer = refl; result = refl };
        high = high;
      }

      module _ {k fluent : ℕ} (e : r ≡ Some (k, fluent)) (long : length now ≡ length work) where
        -- its entry, and the first value that is another
        found : FirstOther (rows_at mid w f c 1 (n + m)) (left_at mid 6144 0) (right_at mid 6144 0) now (n + m) c 2048 6144 k
            × FirstNot (SameByte now (1 + left_at now 6144 k * w) (1 + right_at now 6144 k * w)) f fluent
        found = MatchOption-at_some _ _ (k, fluent) e x.found

        -- the first pair of which the values differ
        other : FirstOther T 0 n now (n + m) c 2048 6144 k
        other = subst (λ (t : List Node). FirstOther t 0 n now (n + m) c 2048 6144 k) kept
            (subst (λ (r : ℕ). FirstOther (rows_at mid w f c 1 (n + m)) r n now (n + m) c 2048 6144 k) b.left
            (subst (λ (s : ℕ). FirstOther (rows_at mid w f c 1 (n + m)) (left_at mid 6144 0) s now (n + m) c 2048 6144 k) b.right found.0))

        abbrev way : List ℕ
        way = other.pairs.met.way k

        abbrev u : ℕ
        u = left_at now 6144 k

        abbrev v : ℕ
        v = right_at now 6144 k

        some : k < 4096
        some = omega (arith, other.there, entries_most (omega (arith, p.few)) other.pairs)

        inside : (u < n + m) × (v < n + m)
        inside = other.pairs.inside k other.there

        left : meaning c T 0 way ≡ (node T u).values
        left = let (g, e, _) = other.pairs.met.led k other.there in finds_walk c T way 0 g ∙ ap (λ (i : ℕ). (node T i).values) (sym e)

        right : meaning c T n way ≡ (node T v).values
        right = let (g, _, e) = other.pairs.met.led k other.there in finds_walk c T way n g ∙ ap (λ (i : ℕ). (node T i).values) (sym e)

        -- chains of at most 62 characters tell apart whatever any chain does
        short : length way ≤ 62
        short =
            by_cases (dec_le (length way) 62) (λ h. h)
            (λ h. absurd (other.first.good.1 (ap (λ (s : State). s way)
            (meaning_at c T 0 ∙ moore.bound c (val c T) (target T) (length T) closed 0 n (omega (arith, size, p.some)) (omega (arith, size, p.some)) (λ ch l. agree ch (omega (arith, size, p.few)) h) ∙ sym (meaning_at c T n)))))
          where
            size : length T ≡ n + m
            size = rows_length work w f c 1 (n + m)

            closed : Closed c T
            closed = sound_closed work (n + m) w f c 1 p.sound

            agree : (ch : List ℕ) → length ch ≤ 62 → ¬ (length way ≤ 62) → moore.at c (val c T) (target T) 0 ch ≡ moore.at c (val c T) (target T) n ch
            agree ch l h =
                ap (λ (s : State). s ch) (sym (meaning_at c T 0))
                ∙ by_cases (List-discrete ℕ_discrete (meaning c T 0 ch) (meaning c T n ch)) (λ e. e) (λ e. absurd (h (le_trans (other.first.shortest ch (differ_valid c T T ch 0 n e, e)) l)))
                ∙ ap (λ (s : State). s ch) (meaning_at c T n)

        ways : Ways now 6144 k
        ways = record { way = other.pairs.met.way; root = other.pairs.met.root; on = λ i h l. other.pairs.met.on i h (omega (arith, other.there)); room = omega (arith, some, p.room) }

        pub match_writable : Writable now chain 6144 k
        unfolding ways
        match_writable = record { ways = ways; room = omega (arith, short, p.has_chain_room) }

        -- a value of a row is a byte
        value : (i q : ℕ) → i < n + m → q < f → get_or (node T i).values q 0 ≡ get_or now (1 + i * w + q) 0
        value i q h l =
            ap (λ (x : Node). get_or x.values q 0) (rows_node work w f c 1 (n + m) i h) ∙ cells_at work (1 + i * w) f q l
            ∙ sym (low (1 + i * w + q) (omega (arith, rows_room, row_in (n + m) w i h)))

        module _ {chain' : List ℕ} {size : ℕ} (l : LongWay now 6144 k size) (y : WayWritten now chain chain' 6144 k size) where
          z : FirstNot (SameByte now (1 + u * w) (1 + v * w)) f fluent
          z = found.1

          alike : (q : ℕ) → q < fluent → get_or (node T u).values q 0 ≡ get_or (node T v).values q 0
          alike q h = value u q inside.0 (omega (arith, z.within)) ∙ z.before q h ∙ sym (value v q inside.1 (omega (arith, z.within)))

          differs : Differ c (meaning c T 0) (meaning c T n) way fluent
          differs = record {
            first = other.first;
            here = λ e. z.here (sym (value u fluent inside.0 z.within) ∙ ap (λ (l : List ℕ). get_or l fluent 0) (sym left) ∙ e ∙ ap (λ (l : List ℕ). get_or l fluent 0) right ∙ value v fluent inside.1 z.within);
            lowest = λ q l. ap (λ (l : List ℕ). get_or l q 0) left ∙ alike q l ∙ ap (λ (l : List ℕ). get_or l q 0) (sym right);
          }

          pub matched_differ : length chain' ≡ length chain → RowsMatched work now chain chain' (Some (record { length = size; fluent = fluent })) n m f c
          unfolding ways
          matched_differ same-long =
              let e : length way ≡ size = l ways in
              let g : cells chain' 0 size ≡ way = y.chain ways e in
              record {
                verdict = differ way fluent;
                true = differs;
                said = record {
                  answer = ap (λ (l : ℕ). gives (after l fluent)) (sym e);
                  result = front_back chain chain' size (omega (arith, e, short, p.has_chain_room)) same-long y.high ∙ ap₂ (λ (f : List ℕ) (l : ℕ). f ++ drop l chain) g (sym e);
                };
                high = high;
              }

-- the nodes of a chart make a table with a value for each fluent
read_full : {chart : List ℕ} {n f c : ℕ} {t : List Node} → NodesRead chart n f c t → IsFull c f t
read_full r = let long = read_long r in ((read_closed r, omega (arith, r.some)), λ j h. read_values r j (omega arith))

-- two charts
module _ {first second work : List ℕ} {n m f c : ℕ} (p : Joinable first second work n m f c) {mid : List ℕ} (x : Joined first second work mid n m f c) (long : length mid ≡ length work) where
  pub charts_matched : {chain chain' mid' now : List ℕ} {r : Option parting.Difference} → RowsMatched mid mid' chain chain' r n m f c → Cleared mid' now 0 work_room → length now ≡ length work → ChartsMatched first second chain chain' work now r n m f c
  charts_matched {chain} {chain'} {r = r} y z same-long = record {
    said = λ t u a b.
        subst (λ (v : Verdict). Said v chain chain' r)
        (sym ((compare_table_iff c f t u (read_full a) (read_full b) y.verdict).0
        (subst (λ (s : State). Compared c s (meaning c u 0) y.verdict) (x.left t a) (subst (λ (s : State). Compared c (meaning c (rows_at mid (f + c) f c 1 (n + m)) 0) s y.verdict) (x.right u b) y.true))))
        y.said;
    scratch = cleared_all work z (λ q h. y.high q (omega arith) ∙ x.high q (omega arith)) same-long p.room;
  }
