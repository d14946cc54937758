-- Search: length after length; what the checks leave, as the search asks it, and what it gives. Assumes nothing.
use Prim.Native.Nat.{ℕ, ◌+◌, ◌*◌, ◌<◌, ◌≤◌}
use mathlib.Core.Path.{◌≡◌, refl, sym, ap, ap₂, ◌∙◌, subst}
use mathlib.Core.Logic.{by_cases}
use mathlib.Core.Bool.{Bool, true, ◌&&◌}
use mathlib.Core.List.{List, [], ◌++◌}
use native.Mathlib.Decide.{ℕ_discrete, dec_le}
use native.Mathlib.Nat.{mul-le-mul_left, mul-le-mul_right}
use native.Mathlib.Omega.{arith}
use lib.ListN.{length, get_or, drop}
use lib.Dec.{leb}
use borrow.Author.Tests.{leb-true}
use lib.Seq.{ext_get_or}
use Rattle.pack.specs.Syntax.{Node, Theory, Pack}
use Rattle.pack.specs.State.{State, meaning}
use Rattle.pack.specs.Reading.{Reply, gives, refuses, told}
use Rattle.pack.specs.Layout.{ChartFits}
use Rattle.pack.specs.Refusals.{refusal_number, place_of}
use Rattle.pack.specs.Refusals.{replied}
use Rattle.pack.specs.Duties.Contents.{PackRead}
use Rattle.pack.specs.Laws.Exact.{Bytes}
use Rattle.pack.specs.Laws.PackExact.{pack_exactly}
use Rattle.pack.specs.declared.contents.Contents.{Contents}
use Rattle.std.specs.Prelude.{Result, Ok, Err}
use Rattle.pack.specs.declared.refusal.Refusal.{Refusal}
use Rattle.pack.specs.Duties.Table.{table_of, Below, Above, cells}
use Rattle.pack.specs.Laws.Accepted.{small_pack}
use Rattle.pack.specs.Laws.Rows.{cells_at, rows_length}
use Rattle.chart.specs.Call.{fits, by_checks, list_room, work_room, cleared, result_after, work_after}
use Rattle.chart.specs.Laws.Answers.{fits_table}
use Rattle.chart.specs.Laws.Unique.{some}
use Rattle.chart.specs.Duties.Put.{Cleared}
use Rattle.chart.specs.Laws.Arguments.{and_true}
use Rattle.chart.specs.Laws.Cells.{cells-length}
use Rattle.chart.specs.Laws.ChartBytes.{front_back}
use Rattle.chart.specs.Laws.Checks.{nodes_packed, lent, lent_told, pack_refused, checks, Accepted, refused_by, accepted_by, left_alone, check_none}
use Rattle.chart.specs.Laws.LookedUp.{cleared_all}
use Rattle.transition.specs.Laws.Loaded.{short-pack}
use Rattle.pack.specs.declared.refusal.Refusal.TheVariants.{NoEnding}
use Rattle.planner.specs.declared.Ending as answers
use Rattle.planner.specs.declared.limits.Context.{Context}
use Rattle.planner.specs.declared.limits.Foresight.{Foresight}
use Rattle.planner.specs.declared.search.Ended.{Ended}
use Rattle.std.specs.Prelude.{Option, Some, None}
use Rattle.planner.proofs.EarliestList.{no_some, some_is}
use Rattle.planner.specs.Ending.{Ending, author_utility}
use Rattle.planner.specs.Search.{Answer, ending, none, Sought, Searched}
use Rattle.planner.specs.Answers.{search_table}
use Rattle.planner.specs.Replies.{story_limit, foresight_limit, nesting_limit, Plan, answer_reply, search_reply}
use Rattle.planner.specs.Promises.{summary, Searching}
use Rattle.planner.specs.Laws.Answers.{search_table_iff}
use Rattle.planner.specs.Inner.Lists.{slot_table, Ends}
use Rattle.planner.specs.Inner.Explain.{Stage}
use Rattle.planner.specs.Inner.Memory.{Memory}
use Rattle.planner.specs.Inner.Layout.{laid_out}
use Rattle.planner.proofs.TrueMemory.{memory_clear}
use Rattle.planner.proofs.Slots.{laid_fits, laid_free, first_count}
use Rattle.planner.specs.Inner.Search.{Laying, LaidStart, Chosen, Put, Best, Shortest, Seeking, Seekable, SearchPut, SearchPutFrom}

module _ {Good : List ℕ → ℕ → Type 0} where
  -- no list of fewer than n actions, and none of n
  pub shorter : {n : ℕ} → ((l : List ℕ) (v : ℕ) → 0 < length l → length l < n → ¬ Good l v) → ((l : List ℕ) (v : ℕ) → length l ≡ n → ¬ Good l v) → (l : List ℕ) (v : ℕ) → 0 < length l → length l < n + 1 → ¬ Good l v
  shorter {n} f g l v h k = by_cases (ℕ_discrete (length l) n) (λ e. g l v e) (λ e. f l v h (omega (arith, e)))

  module _ {h : Context} {story : ℕ} {was work mid : List ℕ} (low : Below work mid (0 + h.stride)) (high : Above work mid work_room) where
    pub shortest_found : {M : List ℕ → Type 0} {n : ℕ} {work' now : List ℕ} {r : Option ℕ} {v : ℕ} → 0 < n → n ≤ story → ((l : List ℕ) (v : ℕ) → 0 < length l → length l < n → ¬ Good l v) → r ≡ Some v → Best M Good n was now 0 (0 + h.stride) mid work' r → Shortest h Good story was now work work' (Some (record { count = n; after = v }))
    shortest_found {M} {n} {work'} {now} {r} {v} pos le f is b = record {
      none = λ e. no_some (sym e);
      some = λ e same. subst (λ (e : Ended). (list : List ℕ) × Chosen Good e.count list e.after × Put was now 0 list) (some_is same) (b.some v is);
      within = λ e same. subst (λ (e : Ended). (0 < e.count) × (e.count ≤ story)) (some_is same) (pos, le);
      shortest = λ e same. subst (λ (e : Ended). (l : List ℕ) (v : ℕ) → 0 < length l → length l < e.count → ¬ Good l v) (some_is same) f;
      low = λ q l. b.low q l ∙ low q l;
      high = λ q l. b.high q l ∙ high q l;
    }

    pub shortest_none : {n : ℕ} {now : List ℕ} → story < n → now ≡ was → ((l : List ℕ) (v : ℕ) → 0 < length l → length l < n → ¬ Good l v) → Shortest h Good story was now work mid None
    shortest_none le same f = record {
      none = λ e. (same, λ l v h k. f l v h (omega (arith, k, le)));
      some = λ e is. no_some is;
      within = λ e is. no_some is;
      shortest = λ e is. no_some is;
      low = low;
      high = high;
    }

-- from the bytes of a pack to the answer
module _ {th : Theory} {T : List Node} {pack places : List ℕ} {h : Context} {first nodes story foresight nesting : ℕ} {list work : List ℕ} (x : Seeking th T pack places h first nodes story foresight nesting list work) where
  abbrev f : ℕ
  f = h.fluents

  abbrev C : ℕ
  C = h.characters

  -- the first slot lies before the memory
  seek_first : h.stride ≤ h.memory
  seek_first = omega (arith, x.slots)

  pub seek_laying : Laying T pack first nodes h work
  seek_laying = record { end = x.end; read = x.read; laid = x.laid; slot = seek_first; room = x.room }

  module _ {then : List ℕ} (y : LaidStart T h work then) (long : length then ≡ length work) where
    abbrev pub seek_table : List Node
    seek_table = table_of (slot_table h then 0) then

    rows_small : 1 + get_or then 0 0 * (f + C) ≤ h.stride
    rows_small = let most : get_or then 0 0 * (f + C) ≤ 32 * (f + C) = mul-le-mul_right (f + C) y.few in omega (arith, most, x.laid.wide)

    pub seek_slot : Stage th seek_table pack places h then (slot_table h then 0) (0 + h.stride)
    seek_slot = record {
      theorized = x.theorized;
      tabled = record {
        over = record { small = x.theorized.small; characters = x.same_characters; fluents = x.same_fluents };
        fits = record { wide = refl; inside = omega (arith, rows_small, seek_first, x.laid.room, long, x.room); closed = y.starts.0.ordered.closed };
        same = refl;
        few = y.few;
        some = omega (arith, some seek_table y.starts.0.ordered.whole, rows_length then (f + C) f C 1 (get_or then 0 0));
      };
      same_fluents = refl;
      same_characters = refl;
      behind = omega (arith, rows_small);
      room = omega (arith, long, x.room);
      laid = x.laid;
      slotted = record { number = 0; rows = omega arith; counted = first_count h then; before = omega arith };
      free = omega arith;
    }

    pub seek_memory : Memory th foresight h (0 + h.stride) then
    seek_memory = memory_clear h x.laid y.empty

    seek_means : meaning C seek_table 0 ≡ meaning C T 0
    seek_means = y.starts.1

    -- the author's utility there
    module _ {base : ℕ} (is : base ≡ author_utility th (meaning C seek_table 0)) where
      pub seek_base : author_utility th (meaning C seek_table 0) ≤ base
      seek_base = omega (arith, is)

      pub seek_from : base ≡ author_utility th (meaning C T 0)
      seek_from = is ∙ ap (author_utility th) seek_means

    pub seek_same : {base : ℕ} {list' work' : List ℕ} {r : Option Ended} → Shortest h (Ends th foresight nesting base (meaning C seek_table 0)) story list list' then work' r → Shortest h (Ends th foresight nesting base (meaning C T 0)) story list list' then work' r
    seek_same {base} {list'} {work'} {r} z = subst (λ (s : State). Shortest h (Ends th foresight nesting base s) story list list' then work' r) seek_means z

    module _ {base : ℕ} (is : base ≡ author_utility th (meaning C T 0)) {list' work' now : List ℕ} {r : Option Ended} (z : Shortest h (Ends th foresight nesting base (meaning C T 0)) story list list' then work' r) (cl : Cleared work' now 0 work_room) (long' : length now ≡ length work) (listed : length list' ≡ length list) where
      abbrev s : State
      s = meaning C T 0

      all_clear : now ≡ cleared work
      all_clear = cleared_all work cl (λ q g. z.high q g ∙ y.high q g) long' x.room

      -- an ending is such a list
      ends : {other : List ℕ} → (e : Ending th story foresight nesting s other) → Ends th foresight nesting base s other (author_utility th e.end)
      ends e = (e.end, e.leads, (refl, omega (arith, is, e.better)))

      pub seek_none : r ≡ None → SearchPut th story foresight nesting s list list' work now (Err NoEnding)
      unfolding result_after
      seek_none e = record {
        answer = none;
        is_so = λ other g. (z.none e).1 other _ g.some g.within (ends g);
        said = refl;
        result = (z.none e).0;
        scratch = all_clear;
      }

      module _ {found : Ended} (is_found : r ≡ Some found) where
        pos : 0 < found.count
        pos = (z.within found is_found).0

        few : found.count ≤ story
        few = (z.within found is_found).1

        abbrev chosen : List ℕ
        chosen = (z.some found is_found).0

        abbrev best : Chosen (Ends th foresight nesting base s) found.count chosen found.after
        best = (z.some found is_found).1

        abbrev good : Ending th story foresight nesting s chosen
        good = let g = best.good in record { some = omega (arith, best.long, pos); within = omega (arith, best.long, few); end = g.0; leads = g.1; better = omega (arith, is, g.2) }

        sought : Sought th story foresight nesting s chosen base found.after
        sought = record {
          first = record {
            good = good;
            shortest = λ other g. by_cases (dec_le (length chosen) (length other)) (λ h. h) (λ h. absurd (z.shortest found is_found other _ g.some (omega (arith, h, best.long)) (ends g)));
            earliest = λ other g l. best.earliest other _ (l ∙ best.long) (ends g);
          };
          at_start = sym is;
          at_end = best.good.2.0;
        }

        put_down : list' ≡ chosen ++ drop (length chosen) list
        put_down =
            let p = (z.some found is_found).2 in
            let short : found.count ≤ length list = omega (arith, few, x.storied, x.has_list_room) in
            front_back list list' found.count short listed (λ q l. p.high q (omega (arith, l, best.long)))
            ∙ ap₂ (λ (l : List ℕ) (k : ℕ). l ++ drop k list) (ext_get_or 0 (cells list' 0 found.count) chosen (cells-length list' 0 found.count ∙ sym best.long) (λ i l.
            let z' : i < found.count = omega (arith, l, cells-length list' 0 found.count) in
            cells_at list' 0 found.count i z' ∙ p.put i (omega (arith, z', best.long)))) (sym best.long)

        pub seek_found : SearchPut th story foresight nesting s list list' work now (Ok (record { length = found.count; before = base; after = found.after }))
        unfolding result_after
        seek_found = record {
          answer = ending chosen base found.after;
          is_so = sought;
          said = ap (λ (k : ℕ). gives (record { count = k; before = base; after = found.after })) (sym best.long);
          result = put_down;
          scratch = all_clear;
        }

-- the checks
module _ (pack : List ℕ) (T K E : ℕ) (list work : List ℕ) where
  abbrev room : Bool
  room = fits list_room list && fits work_room work

  abbrev wanted : Theory → Bool
  wanted p = story_limit T && (foresight_limit K && nesting_limit E)

  abbrev plan_of : Pack → List (List Node) → Reply Plan
  plan_of x tables = answer_reply (search_table x.theory T K E x.nodes)

  abbrev the_reply : Reply Plan
  the_reply = search_reply pack T K E list work

  -- nothing is written
  unwritten : (why : Refusal) → (the_reply ≡ refuses (refusal_number why) (place_of why)) × (by_checks (refusal_number why) ≡ true)
      → Searching pack T K E list work list work (Err why)
  unfolding result_after
  unwritten why z = record {
    answer = sym (ap (told summary) z.0);
    result = sym (ap (λ (y : Reply Plan). result_after (told (λ p. p.list) y) list) z.0);
    scratch = left_alone the_reply work (refusal_number why) (place_of why) z;
  }

  pub search_unread : {places : List ℕ} (why : Refusal) → PackRead pack places (Err why) → Searching pack T K E list work list work (Err why)
  unfolding search_reply
  search_unread why read = unwritten why (pack_refused pack [] room wanted plan_of (refusal_number why) (place_of why) read.answer)

  module _ {places : List ℕ} {p : Contents} (got : PackRead pack places (Ok p)) (enough : Bool) (here : enough ≡ room) (there : Bool) (within : there ≡ (story_limit T && (foresight_limit K && nesting_limit E)))
      (r : Result (Unit {0}) Refusal) (says : replied r ≡ lent enough there (gives tt)) where
    agrees : told (λ (u : Unit {0}). p.nodes) (replied r) ≡ told (λ ns. p.nodes) (checks p [] room there)
    agrees = sym (lent_told room there p.nodes r (says ∙ ap (λ (b : Bool). lent b there (gives tt)) here)) ∙ check_none p room there p.nodes

    pub search_refused : (why : Refusal) → r ≡ Err why → Searching pack T K E list work list work (Err why)
    unfolding search_reply
    search_refused why e =
        unwritten why (refused_by [] got room there wanted (λ x e. within) plan_of (λ ns. p.nodes) (told (λ (u : Unit {0}). p.nodes) (replied r)) agrees (refusal_number why) (place_of why)
        (ap (λ (r : Result (Unit {0}) Refusal). told (λ (u : Unit {0}). p.nodes) (replied r)) e))

    module _ (bytes : Bytes pack) (marked : 327 ≤ length places) (e : r ≡ Ok tt) where
      accepted_now : (ns : List ℕ) × (p.nodes ≡ p.nodes) × ((x : Accepted pack places [] p ns room there) × (the_reply ≡ plan_of x.the_pack x.tables))
      unfolding search_reply
      accepted_now =
          accepted_by [] got room there wanted (λ x e. within) plan_of (λ ns. p.nodes) (told (λ (u : Unit {0}). p.nodes) (replied r)) agrees p.nodes
          (ap (λ (r : Result (Unit {0}) Refusal). told (λ (u : Unit {0}). p.nodes) (replied r)) e)

      abbrev theory : Theory
      theory = accepted_now.2.0.the_pack.theory

      abbrev the_nodes : List Node
      the_nodes = accepted_now.2.0.the_pack.nodes

      fit : ChartFits theory.characters theory.domains the_nodes
      fit = let y = accepted_now.2.0 in ((pack_exactly pack bytes y.the_pack).0 y.accepted).0.nodes

      -- the limits are within theirs
      pub search_ranges : (T ≤ 8) × (0 < K) × (K ≤ 6) × (E ≤ 3)
      search_ranges =
          let (told, rest) = and_true (story_limit T) (foresight_limit K && nesting_limit E) (sym within ∙ accepted_now.2.0.is_in_range) in
          let (foresight, nesting) = and_true (foresight_limit K) (nesting_limit E) rest in
          let (least, most) = and_true (leb 1 K) (leb K 6) foresight in
          (leb-true T 8 (and_true (leb 1 T) (leb T 8) told).1, leb-true 1 K least, leb-true K 6 most, leb-true E 3 nesting)

      -- what the context is made of
      pub search_sizes : (p.characters ≤ 6) × (1 + T + (1 + K) * E ≤ 30)
      search_sizes =
          let y = accepted_now.2.0 in
          let small = small_pack pack y.the_pack y.accepted in
          let (told, least, most, nested) = search_ranges in
          (omega (arith, small.characters, y.found.characters), omega (arith, told, mul-le-mul_left (1 + K) nested, mul-le-mul_right 3 most))

      -- laid out by the foresight limit
      module _ (f : Foresight) (seen : f.0 ≡ K) where
        abbrev pub context : Context
        context = laid_out p f (1 + T + (1 + K) * E)

        ready : Seeking theory the_nodes pack places context p.first p.nodes T K E list work
        ready =
            let y = accepted_now.2.0 in
            let x = y.the_pack in
            let g = y.found in
            let (has_list_room, has_work_room) = and_true (fits list_room list) (fits work_room work) y.enough_there in
            let (told, least, most, nested) = search_ranges in
            let some = ((pack_exactly pack bytes x).0 y.accepted).0.characters.0 in
            record {
              theorized = record { small = small_pack pack x y.accepted; found = g.theory; short = short-pack pack x y.accepted; marked = marked };
              end = g.rows.end;
              read = nodes_packed bytes y.accepted g;
              same_characters = g.characters;
              same_fluents = g.fluents;
              storied = told;
              foreseen = (least, most);
              laid = laid_fits p f (1 + T + (1 + K) * E) (omega (arith, some, g.characters)) search_sizes;
              slots = laid_free p f (1 + T + (1 + K) * E);
              has_list_room = leb-true list_room (length list) has_list_room;
              room = leb-true work_room (length work) has_work_room;
            }

        pub search_able : (h : Context) → h ≡ context → Seekable pack places h p.first p.nodes T h.foresight.0 E list work
        search_able h made = subst (λ (h : Context). Seekable pack places h p.first p.nodes T h.foresight.0 E list work) (sym made) (subst (λ (k : ℕ). Seekable pack places context p.first p.nodes T k E list work) (sym seen) (theory, (the_nodes, ready)))

        pub search_done : (h : Context) → h ≡ context → (list' work' : List ℕ) (v : Result answers.Ending Refusal) → SearchPutFrom pack places h p.first p.nodes T h.foresight.0 E list list' work work' v → Searching pack T K E list work list' work' v
        unfolding work_after result_after
        search_done h made list' work' v put =
            let (ns, g, (y, replies)) = accepted_now in
            let z = subst (λ (k : ℕ). SearchPutFrom pack places context p.first p.nodes T k E list list' work work' v) seen (subst (λ (h : Context). SearchPutFrom pack places h p.first p.nodes T h.foresight.0 E list list' work work' v) made put) theory the_nodes ready in
            let same : meaning p.characters the_nodes 0 ≡ meaning theory.characters the_nodes 0 = ap (λ (k : ℕ). meaning k the_nodes 0) (sym y.found.characters) in
            let so : search_table theory T K E the_nodes ≡ z.answer = (search_table_iff theory the_nodes (fits_table theory.characters theory.domains the_nodes fit) T K E z.answer).0 (subst (λ (s : State). Searched theory T K E s z.answer) same z.is_so) in
            let gave : the_reply ≡ answer_reply z.answer = replies ∙ ap answer_reply so in
            record {
              answer = z.said ∙ sym (ap (told summary) gave);
              result = z.result ∙ sym (ap (λ (y : Reply Plan). result_after (told (λ p. p.list) y) list) gave);
              scratch = z.scratch ∙ sym (ap (λ (y : Reply Plan). work_after y work) gave ∙ after z.answer);
            }
          where
            after : (a : Answer) → work_after (answer_reply a) work ≡ cleared work
            after (ending l v w) = refl
            after none = refl
