-- Explained: what the checks leave, as the verdict asks it, and what it gives. Assumes nothing.
use Prim.Native.Nat.{ℕ, ◌+◌, ◌*◌, ◌<◌, ◌≤◌}
use mathlib.Core.Path.{◌≡◌, refl, sym, ap, ap₂, ◌∙◌, subst}
use mathlib.Core.Bool.{Bool, true, false, ◌&&◌}
use mathlib.Core.List.{List, [], ◌∷◌, map}
use native.Mathlib.Nat.{mul-le-mul_left, mul-le-mul_right}
use native.Mathlib.Omega.{arith}
use lib.ListN.{length, get_or}
use lib.Dec.{ltb, leb}
use borrow.Author.Tests.{ltb-true, leb-true}
use Rattle.pack.specs.Syntax.{Theory, Node, Pack}
use Rattle.pack.specs.State.{meaning}
use Rattle.pack.specs.Reading.{Reply, gives, refuses, with, told}
use Rattle.pack.specs.Grammar.{pack_of}
use Rattle.pack.specs.Duties.Copy.{TableCopied}
use Rattle.pack.specs.Refusals.{refusal_number, place_of}
use Rattle.pack.specs.Refusals.{replied}
use Rattle.pack.specs.Duties.Contents.{PackRead}
use Rattle.pack.specs.Duties.Table.{Above}
use Rattle.pack.specs.Laws.Exact.{Bytes}
use Rattle.pack.specs.declared.contents.Contents.{Contents}
use Rattle.std.specs.Prelude.{Result, Ok, Err}
use Rattle.pack.specs.declared.refusal.Refusal.{Refusal}
use Rattle.pack.specs.declared.table.Table.{Table}
use Rattle.pack.specs.Laws.Accepted.{small_pack}
use Rattle.chart.specs.Call.{fits, by_checks, work_room, work_after}
use Rattle.chart.specs.Replies.{first_of}
use Rattle.chart.specs.Laws.Answers.{fits_table}
use Rattle.chart.specs.Laws.Replies.{chart_fits}
use Rattle.chart.specs.Duties.Look.{NodesRead}
use Rattle.chart.specs.Duties.Put.{Cleared}
use Rattle.chart.specs.Laws.Arguments.{and_true}
use Rattle.chart.specs.Laws.LoadedNodes.{read_small}
use Rattle.chart.specs.Laws.LookedUp.{cleared_all}
use Rattle.chart.specs.Laws.Checks.{counted, lent, lent_told, pack_refused, Accepted, FirstRead, first_read, nodes_read, refused_by, accepted_by, left_alone, check_one}
use Rattle.transition.specs.Laws.Loaded.{read_tabled}
use Rattle.transition.specs.Laws.Loaded.{short-pack}
use Rattle.planner.specs.declared.limits.Foresight.{Foresight}
use Rattle.planner.specs.declared.limits.Context.{Context}
use Rattle.planner.specs.Ending.{Explained}
use Rattle.planner.specs.Answers.{explained_table}
use Rattle.planner.specs.Replies.{foresight_limit, nesting_limit, explained_reply}
use Rattle.planner.specs.Promises.{Judgement}
use Rattle.planner.specs.Laws.Answers.{explained_table_iff}
use Rattle.planner.specs.Inner.Lists as slots
use Rattle.planner.specs.Inner.Lists.{slot_table}
use Rattle.planner.specs.Inner.Memory.{Memory}
use Rattle.planner.proofs.TrueMemory.{emptied, memory_clear}
use Rattle.planner.proofs.Explanations.{stage_same}
use Rattle.planner.specs.Inner.Layout.{laid_out}
use Rattle.planner.specs.Inner.Explain.{Stage, Told, Judging, Judgeable, Verdict, VerdictOf}
use Rattle.planner.proofs.Slots.{laid_fits, laid_free, first_count}

module _ {th : Theory} {T : List Node} {pack places : List ℕ} {h : Context} {chart : List ℕ} {nodes c a K e : ℕ} {work : List ℕ} (x : Judging th T pack places h chart nodes c a K e work) where
  abbrev f : ℕ
  f = h.fluents

  abbrev C : ℕ
  C = h.characters

  abbrev pub judge_from : Table
  judge_from = record { rows = 1; nodes = nodes; fluents = f; characters = C; width = f + C }

  -- the first slot lies before the memory
  pub judge_first : h.stride ≤ h.memory
  judge_first = omega (arith, x.slots)

  -- and the chart within it
  judge_fits : 1 + nodes * (f + C) ≤ h.stride
  judge_fits = let most : nodes * (f + C) ≤ 32 * (f + C) = mul-le-mul_right (f + C) x.read.few in omega (arith, most, x.laid.wide)

  module _ {mid : List ℕ} (y : TableCopied chart 1 nodes work mid 0 f C) where
    pub judge_stage : Stage th T pack places h mid judge_from (0 + h.stride)
    judge_stage = record {
      theorized = x.theorized;
      tabled = read_tabled x.read (record { small = x.theorized.small; characters = x.same_characters; fluents = x.same_fluents }) x.room y;
      same_fluents = refl;
      same_characters = refl;
      behind = omega (arith, judge_fits);
      room = omega (arith, y.long, x.room);
      laid = x.laid;
      slotted = record { number = 0; rows = omega arith; counted = first_count h mid ∙ y.count; before = omega arith };
      free = omega arith;
    }

    -- the memory is empty then
    module _ {then : List ℕ} (cl : Cleared mid then h.memory (436 + 9 * h.lists)) (long : length then ≡ length mid) where
      pub judge_ready : Stage th T pack places h then (slot_table h then 0) (0 + h.stride)
      judge_ready = subst (λ (n : ℕ). Stage th T pack places h then (slots.counted h 0 n) (0 + h.stride)) (sym (cl.low 0 (omega (arith, judge_first, x.laid.some)) ∙ y.count)) (stage_same judge_stage (λ q l. cl.low q (omega (arith, l, judge_first))) long)

      pub judge_memory : Memory th K h (0 + h.stride) then
      judge_memory = memory_clear h x.laid (emptied h cl)

      pub judge_high : Above mid then work_room
      judge_high q l = cl.high q (omega (arith, l, x.laid.room))

    pub judge_verdict : {M : List ℕ → Type 0} {P : Type 0} {then mid' now : List ℕ} {r : Bool} → Above mid then work_room → Told M (0 + h.stride) then mid' r P → Cleared mid' now 0 work_room → length now ≡ length work → Verdict P work now r
    judge_verdict high told cl long = record { sound = told.sound; complete = told.complete; scratch = cleared_all work cl (λ q g. told.high q g ∙ high q g ∙ y.above q (omega (arith, read_small x.read))) long x.room }

module _ (pack chart : List ℕ) (c a K e : ℕ) (work : List ℕ) where
  abbrev verdict_of : Pack → List (List Node) → Reply Bool
  verdict_of p tables = gives (explained_table p.theory K e c a (first_of tables))

  abbrev wanted : Theory → Bool
  wanted p = ltb c p.characters && (ltb a (length p.actions) && (foresight_limit K && nesting_limit e))

  abbrev the_reply : Reply Bool
  the_reply = explained_reply pack chart c a K e work

  abbrev room : Bool
  room = fits work_room work

  unjudged : (why : Refusal) → (the_reply ≡ refuses (refusal_number why) (place_of why)) × (by_checks (refusal_number why) ≡ true)
      → Judgement pack chart c a K e work work (Err why)
  unjudged why z = record { answer = sym z.0; scratch = left_alone the_reply work (refusal_number why) (place_of why) z }

  pub judge_unread : {places : List ℕ} (why : Refusal) → PackRead pack places (Err why) → Judgement pack chart c a K e work work (Err why)
  unfolding explained_reply
  judge_unread why read = unjudged why (pack_refused pack (chart ∷ []) room wanted verdict_of (refusal_number why) (place_of why) read.answer)

  module _ {places : List ℕ} {p : Contents} (got : PackRead pack places (Ok p)) (there : Bool) (here : there ≡ (ltb c p.characters && (ltb a p.actions && (foresight_limit K && nesting_limit e)))) where
    is_in_range : (x : Pack) → pack_of pack ≡ gives x → there ≡ wanted x.theory
    is_in_range x q =
        let g = got.found x q in
        here ∙ ap₂ (λ (k m : ℕ). ltb c k && (ltb a m && (foresight_limit K && nesting_limit e))) (sym g.characters) (sym g.theory.actions)

    abbrev said : Reply ℕ
    said = with (counted p chart) (λ v. lent room there (gives v))

    refused : (why : Refusal) → said ≡ refuses (refusal_number why) (place_of why) → Judgement pack chart c a K e work work (Err why)
    unfolding explained_reply
    refused why z =
        unjudged why (refused_by (chart ∷ []) got room there wanted is_in_range verdict_of (λ ns. get_or ns 0 0) said (check_one p room there chart) (refusal_number why) (place_of why) z)

    pub judge_chart : (why : Refusal) → counted p chart ≡ refuses (refusal_number why) (place_of why) → Judgement pack chart c a K e work work (Err why)
    judge_chart why z = refused why (ap (λ (y : Reply ℕ). with y (λ v. lent room there (gives v))) z)

    module _ (n : ℕ) (read_chart : counted p chart ≡ gives n) (r : Result (Unit {0}) Refusal) (says : replied r ≡ lent room there (gives tt)) where
      agrees : said ≡ told (λ (u : Unit {0}). n) (replied r)
      agrees = ap (λ (y : Reply ℕ). with y (λ v. lent room there (gives v))) read_chart ∙ lent_told room there n r says

      pub judge_lent : (why : Refusal) → r ≡ Err why → Judgement pack chart c a K e work work (Err why)
      judge_lent why q = refused why (agrees ∙ ap (λ (r : Result (Unit {0}) Refusal). told (λ (u : Unit {0}). n) (replied r)) q)

      module _ (pack-bytes : Bytes pack) (chart-bytes : Bytes chart) (marked : 327 ≤ length places) (q : r ≡ Ok tt) where
        accepted_now : (ns : List ℕ) × (get_or ns 0 0 ≡ n) × ((x : Accepted pack places (chart ∷ []) p ns room there) × (the_reply ≡ verdict_of x.the_pack x.tables))
        unfolding explained_reply
        accepted_now =
            accepted_by (chart ∷ []) got room there wanted is_in_range verdict_of (λ ns. get_or ns 0 0) said (check_one p room there chart) n
            (agrees ∙ ap (λ (r : Result (Unit {0}) Refusal). told (λ (u : Unit {0}). n) (replied r)) q)

        abbrev theory : Theory
        theory = accepted_now.2.0.the_pack.theory

        first : FirstRead theory chart [] accepted_now.2.0.tables
        first = let x = accepted_now.2.0 in first_read theory chart [] x.tables x.read

        read : NodesRead chart n p.domains.fluents p.characters first.table
        read =
            let (ns, g, (x, replies)) = accepted_now in
            nodes_read x.accepted x.found first.read (ap (λ (l : List (List Node)). get_or (map length l) 0 0) (sym first.same) ∙ ap (λ (l : List ℕ). get_or l 0 0) x.long ∙ g)

        -- the numbers are those of something there
        pub judge_ranges : (c < p.characters) × (a < p.actions) × (0 < K) × (K ≤ 6) × (e ≤ 3)
        judge_ranges =
            let (who, rest) = and_true (ltb c p.characters) (ltb a p.actions && (foresight_limit K && nesting_limit e)) (sym here ∙ accepted_now.2.0.is_in_range) in
            let (what, limits) = and_true (ltb a p.actions) (foresight_limit K && nesting_limit e) rest in
            let (foresight, nesting) = and_true (foresight_limit K) (nesting_limit e) limits in
            let (low, high) = and_true (leb 1 K) (leb K 6) foresight in
            (ltb-true c p.characters who, ltb-true a p.actions what, leb-true 1 K low, leb-true K 6 high, leb-true e 3 nesting)

        -- what the context is made of
        pub judge_sizes : (p.characters ≤ 6) × (1 + (1 + K) * e ≤ 30)
        judge_sizes =
            let x = accepted_now.2.0 in
            let small = small_pack pack x.the_pack x.accepted in
            let (who, what, low, high, nested) = judge_ranges in
            (omega (arith, small.characters, x.found.characters), omega (arith, mul-le-mul_left (1 + K) nested, mul-le-mul_right 3 high))

        -- laid out by the foresight limit
        module _ (f : Foresight) (seen : f.0 ≡ K) where
          abbrev pub context : Context
          context = laid_out p f (1 + (1 + K) * e)

          ready : Judging theory first.table pack places context chart n c a K e work
          ready =
              let x = accepted_now.2.0 in
              let (who, what, low, high, nested) = judge_ranges in
              record {
                theorized = record { small = small_pack pack x.the_pack x.accepted; found = x.found.theory; short = short-pack pack x.the_pack x.accepted; marked = marked };
                read = read;
                same_characters = x.found.characters;
                same_fluents = x.found.fluents;
                who = who;
                what = what;
                foreseen = (low, high);
                laid = laid_fits p f (1 + (1 + K) * e) (omega (arith, who)) judge_sizes;
                slots = laid_free p f (1 + (1 + K) * e);
                room = leb-true work_room (length work) x.enough_there;
              }

          pub judge_able : (h : Context) → h ≡ context → Judgeable pack places h chart n c a h.foresight.0 e work
          judge_able h made = subst (λ (h : Context). Judgeable pack places h chart n c a h.foresight.0 e work) (sym made) (subst (λ (k : ℕ). Judgeable pack places context chart n c a k e work) (sym seen) (theory, (first.table, ready)))

          pub judge_done : (h : Context) → h ≡ context → (now : List ℕ) (v : Bool) → VerdictOf pack places h chart n c a h.foresight.0 e work now v → Judgement pack chart c a K e work now (Ok v)
          unfolding work_after
          judge_done h made now v put =
              let (ns, g, (x, replies)) = accepted_now in
              let z = subst (λ (k : ℕ). VerdictOf pack places context chart n c a k e work now v) seen (subst (λ (h : Context). VerdictOf pack places h chart n c a h.foresight.0 e work now v) made put) theory first.table ready in
              let table = fits_table theory.characters theory.domains first.table (chart_fits (record { bytewise = pack-bytes; accepted = x.accepted }) (record { bytewise = chart-bytes; accepted = first.read })) in
              let same : meaning p.characters first.table 0 ≡ meaning theory.characters first.table 0 = ap (λ (k : ℕ). meaning k first.table 0) (sym x.found.characters) in
              let iff = explained_table_iff theory first.table table K e c a in
              let is : v ≡ explained_table theory K e c a first.table = decided v (explained_table theory K e c a first.table) (λ h. iff.1 (subst (Explained theory K e c a) same (z.sound h))) (λ h k. z.complete h (subst (Explained theory K e c a) (sym same) (iff.0 k))) in
              let gave : the_reply ≡ gives (explained_table theory K e c a first.table) = replies ∙ ap (λ (l : List (List Node)). gives (explained_table theory K e c a (first_of l))) first.same in
              record { answer = ap gives is ∙ sym gave; scratch = z.scratch ∙ sym (ap (λ (y : Reply Bool). work_after y work) gave) }
            where
              decided : (v w : Bool) → (v ≡ true → w ≡ true) → (v ≡ false → w ≡ true → ⊥) → v ≡ w
              decided true w f g = sym (f refl)
              decided false true f g = absurd (g refl refl)
              decided false false f g = refl
