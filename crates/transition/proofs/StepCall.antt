-- Step: what the checks leave, as playing the action asks it, and what it gives. Assumes nothing.
use Prim.Native.Nat.{ℕ, ◌<◌, ◌≤◌}
use mathlib.Core.Path.{◌≡◌, sym, ap, ◌∙◌}
use mathlib.Core.Bool.{Bool, true, ◌&&◌}
use mathlib.Core.List.{List, [], ◌∷◌, map}
use native.Mathlib.Omega.{arith}
use lib.ListN.{length, get_or}
use lib.Dec.{ltb}
use borrow.Author.Tests.{ltb-true, leb-true}
use Rattle.pack.specs.Syntax.{Theory, Node, Pack}
use Rattle.pack.specs.Reading.{Reply, gives, refuses, with, told}
use Rattle.pack.specs.Grammar.{pack_of}
use Rattle.pack.specs.Layout.{ChartFits}
use Rattle.pack.specs.Refusals.{refusal_number, place_of}
use Rattle.pack.specs.Refusals.{replied}
use Rattle.pack.specs.Duties.Contents.{PackRead}
use Rattle.pack.specs.Laws.Exact.{Bytes}
use Rattle.pack.specs.declared.contents.Contents.{Contents}
use Rattle.std.specs.Prelude.{Result, Ok, Err}
use Rattle.pack.specs.declared.refusal.Refusal.{Refusal}
use Rattle.pack.specs.Laws.Accepted.{small_pack}
use Rattle.chart.specs.Call.{fits, by_checks, chart_room, work_room, result_after, work_after}
use Rattle.chart.specs.Replies.{first_of}
use Rattle.chart.specs.Laws.Replies.{given_fits, chart_fits}
use Rattle.chart.specs.Duties.Look.{NodesRead}
use Rattle.chart.specs.Laws.Arguments.{and_true}
use Rattle.chart.specs.Laws.Checks.{counted, lent, lent_told, pack_refused, Accepted, FirstRead, first_read, nodes_read, refused_by, accepted_by, left_alone, check_one}
use Rattle.transition.specs.Answers.{step_table}
use Rattle.transition.specs.Replies.{outcome_reply, step_reply}
use Rattle.transition.specs.Promises.{Stepped}
use Rattle.transition.specs.Laws.Step.{step_fits}
use Rattle.transition.specs.Laws.Loaded.{short-pack}
use Rattle.transition.specs.Inner.Steppable.{Stepping, Steppable, StepPut}
use Rattle.transition.proofs.StepOnCharts.{step_cleared}

module _ (pack chart : List ℕ) (action : ℕ) (out work : List ℕ) where
  abbrev room : Bool
  room = fits chart_room out && fits work_room work

  abbrev outcome_of : Pack → List (List Node) → Reply (List ℕ)
  outcome_of p tables = outcome_reply (step_table p.theory (first_of tables) action)

  abbrev wanted : Theory → Bool
  wanted p = ltb action (length p.actions)

  abbrev the_reply : Reply (List ℕ)
  the_reply = step_reply pack chart action out work

  -- nothing is written
  unwritten : (why : Refusal) → (the_reply ≡ refuses (refusal_number why) (place_of why)) × (by_checks (refusal_number why) ≡ true)
      → Stepped pack chart action out work out work (Err why)
  unfolding result_after
  unwritten why z = record {
    answer = sym (ap (told length) z.0);
    result = sym (ap (λ (y : Reply (List ℕ)). result_after y out) z.0);
    scratch = left_alone the_reply work (refusal_number why) (place_of why) z;
  }

  pub step_unread : {places : List ℕ} (why : Refusal) → PackRead pack places (Err why) → Stepped pack chart action out work out work (Err why)
  unfolding step_reply
  step_unread why read = unwritten why (pack_refused pack (chart ∷ []) room wanted outcome_of (refusal_number why) (place_of why) read.answer)

  module _ {places : List ℕ} {p : Contents} (got : PackRead pack places (Ok p)) where
    is_in_range : (x : Pack) → pack_of pack ≡ gives x → ltb action p.actions ≡ wanted x.theory
    is_in_range x e = ap (ltb action) (sym (got.found x e).theory.actions)

    abbrev said : Reply ℕ
    said = with (counted p chart) (λ v. lent room (ltb action p.actions) (gives v))

    refused : (why : Refusal) → said ≡ refuses (refusal_number why) (place_of why) → Stepped pack chart action out work out work (Err why)
    unfolding step_reply
    refused why e =
        unwritten why (refused_by (chart ∷ []) got room (ltb action p.actions) wanted is_in_range outcome_of (λ ns. get_or ns 0 0) said (check_one p room (ltb action p.actions) chart) (refusal_number why) (place_of why) e)

    pub step_chart : (why : Refusal) → counted p chart ≡ refuses (refusal_number why) (place_of why) → Stepped pack chart action out work out work (Err why)
    step_chart why e = refused why (ap (λ (y : Reply ℕ). with y (λ v. lent room (ltb action p.actions) (gives v))) e)

    module _ (n : ℕ) (read_chart : counted p chart ≡ gives n) (enough : Bool) (here : enough ≡ room) (r : Result (Unit {0}) Refusal) (says : replied r ≡ lent enough (ltb action p.actions) (gives tt)) where
      agrees : said ≡ told (λ (u : Unit {0}). n) (replied r)
      agrees =
          ap (λ (y : Reply ℕ). with y (λ v. lent room (ltb action p.actions) (gives v))) read_chart
          ∙ lent_told room (ltb action p.actions) n r (says ∙ ap (λ (b : Bool). lent b (ltb action p.actions) (gives tt)) here)

      pub step_lent : (why : Refusal) → r ≡ Err why → Stepped pack chart action out work out work (Err why)
      step_lent why e = refused why (agrees ∙ ap (λ (r : Result (Unit {0}) Refusal). told (λ (u : Unit {0}). n) (replied r)) e)

      module _ (pack-bytes : Bytes pack) (chart-bytes : Bytes chart) (marked : 327 ≤ length places) (e : r ≡ Ok tt) where
        accepted_now : (ns : List ℕ) × (get_or ns 0 0 ≡ n) × ((x : Accepted pack places (chart ∷ []) p ns room (ltb action p.actions)) × (the_reply ≡ outcome_of x.the_pack x.tables))
        unfolding step_reply
        accepted_now =
            accepted_by (chart ∷ []) got room (ltb action p.actions) wanted is_in_range outcome_of (λ ns. get_or ns 0 0) said (check_one p room (ltb action p.actions) chart) n
            (agrees ∙ ap (λ (r : Result (Unit {0}) Refusal). told (λ (u : Unit {0}). n) (replied r)) e)

        abbrev theory : Theory
        theory = accepted_now.2.0.the_pack.theory

        first : FirstRead theory chart [] accepted_now.2.0.tables
        first = let x = accepted_now.2.0 in first_read theory chart [] x.tables x.read

        read : NodesRead chart n p.domains.fluents p.characters first.table
        read =
            let (ns, g, (x, replies)) = accepted_now in
            nodes_read x.accepted x.found first.read (ap (λ (l : List (List Node)). get_or (map length l) 0 0) (sym first.same) ∙ ap (λ (l : List ℕ). get_or l 0 0) x.long ∙ g)

        fit : ChartFits theory.characters theory.domains first.table
        fit = let x = accepted_now.2.0 in chart_fits (record { bytewise = pack-bytes; accepted = x.accepted }) (record { bytewise = chart-bytes; accepted = first.read })

        inside : action < p.actions
        inside = let x = accepted_now.2.0 in ltb-true action p.actions x.is_in_range

        step_ready : Stepping theory first.table pack places p.actions p.triggers action chart n p.domains.fluents p.characters out work
        step_ready =
            let x = accepted_now.2.0 in
            let (out_room, has_work_room) = and_true (fits chart_room out) (fits work_room work) x.enough_there in
            record {
              theorized = record { small = small_pack pack x.the_pack x.accepted; found = x.found.theory; short = short-pack pack x.the_pack x.accepted; marked = marked };
              there = inside;
              read = read;
              same_characters = x.found.characters;
              same_fluents = x.found.fluents;
              fit = fit;
              kept = λ U q. step_fits x.the_pack (given_fits (record { bytewise = pack-bytes; accepted = x.accepted })) first.table fit action U q;
              out_room = leb-true chart_room (length out) out_room;
              has_work_room = leb-true work_room (length work) has_work_room;
            }

        pub step_able : Steppable pack places p.triggers action chart n p.domains.fluents p.characters out work
        step_able = (theory, (first.table, (p.actions, step_ready)))

        pub step_done : (out' work' : List ℕ) (k : Result ℕ Refusal) → StepPut pack places p.triggers action chart n p.domains.fluents p.characters out work out' work' k → Stepped pack chart action out work out' work' k
        step_done out' work' k put =
            let (ns, g, (x, replies)) = accepted_now in
            let z = put theory first.table p.actions step_ready in
            let gave : the_reply ≡ outcome_reply (step_table theory first.table action) = replies ∙ ap (λ (l : List (List Node)). outcome_reply (step_table theory (first_of l) action)) first.same in
            record {
              answer = z.answer ∙ sym (ap (told length) gave);
              result = z.result ∙ sym (ap (λ (y : Reply (List ℕ)). result_after y out) gave);
              scratch = z.scratch ∙ sym (ap (λ (y : Reply (List ℕ)). work_after y work) gave ∙ step_cleared theory first.table fit action (omega (arith, inside, x.found.theory.actions)) work);
            }
