-- Query: what the checks leave, as looking a value up asks it, and what it gives. Assumes nothing.
use Rattle.std.proofs.Common.{ℕ, ◌≡◌, refl, sym, ap, ap₂, ◌∙◌, Bool, ◌&&◌, List, [], ◌∷◌, map, length, get_or, ltb, ltb-true}
use Rattle.std.proofs.Common.{leb-true}
use Rattle.pack.specs.Syntax.{Theory, Node, Pack}
use Rattle.pack.specs.State.{meaning}
use Rattle.std.specs.Prelude.{Result, Ok, Err}
use Rattle.pack.specs.Reading.{Reply, gives, refuses, with, told}
use Rattle.pack.specs.Grammar.{pack_of}
use Rattle.pack.specs.Refusals.{refusal_number, place_of}
use Rattle.pack.specs.Refusals.{replied}
use Rattle.pack.specs.Duties.Contents.{PackRead}
use Rattle.pack.specs.declared.contents.Contents.{Contents}
use Rattle.pack.specs.declared.refusal.Refusal.{Refusal}
use Rattle.chart.specs.Call.{fits, work_room, work_after}
use Rattle.chart.specs.Replies.{all_below, first_of, query_reply}
use Rattle.chart.specs.Promises.{Asked}
use Rattle.chart.specs.Duties.Look.{NodesRead, Lookable, Looked}
use Rattle.chart.specs.Laws.Arguments.{and_true, below_valid}
use Rattle.chart.specs.Laws.Checks.{counted, lent, lent_told, pack_refused, Accepted, FirstRead, first_read, nodes_read, refused_by, accepted_by, left_alone, check_one}

module _ (pack chart chain : List ℕ) (fluent : ℕ) (work : List ℕ) where
  abbrev value_of : Pack → List (List Node) → Reply ℕ
  value_of p tables = gives (get_or (meaning p.theory.characters (first_of tables) 0 chain) fluent 0)

  abbrev wanted : Theory → Bool
  wanted p = all_below p.characters chain && ltb fluent (length p.domains)

  abbrev room : Bool
  room = fits work_room work

  pub ask_unread : {places : List ℕ} (why : Refusal) → PackRead pack places (Err why) → Asked pack chart chain fluent work work (Err why)
  unfolding query_reply
  ask_unread why read =
      let z = pack_refused pack (chart ∷ []) room wanted value_of (refusal_number why) (place_of why) read.answer in
      record { answer = sym z.0; scratch = left_alone (query_reply pack chart chain fluent work) work (refusal_number why) (place_of why) z }

  module _ {places : List ℕ} {p : Contents} (got : PackRead pack places (Ok p)) (there : Bool) (here : there ≡ (all_below p.characters chain && ltb fluent p.domains.fluents)) where
    is_in_range : (x : Pack) → pack_of pack ≡ gives x → there ≡ wanted x.theory
    is_in_range x e =
        let f = got.found x e in
        here ∙ ap₂ (λ (c k : ℕ). all_below c chain && ltb fluent k) (sym f.characters) (sym f.fluents)

    abbrev said : Reply ℕ
    said = with (counted p chart) (λ v. lent room there (gives v))

    pub ask_refused : (why : Refusal) → said ≡ refuses (refusal_number why) (place_of why) → Asked pack chart chain fluent work work (Err why)
    unfolding query_reply
    ask_refused why e =
        let z = refused_by (chart ∷ []) got room there wanted is_in_range value_of (λ ns. get_or ns 0 0) said (check_one p room there chart) (refusal_number why) (place_of why) e in
        record { answer = sym z.0; scratch = left_alone (query_reply pack chart chain fluent work) work (refusal_number why) (place_of why) z }

    module _ (n : ℕ) (counts : counted p chart ≡ gives n) (r : Result (Unit {0}) Refusal) (says : replied r ≡ lent room there (gives tt)) where
      agrees : said ≡ told (λ (u : Unit {0}). n) (replied r)
      agrees = ap (λ (y : Reply ℕ). with y (λ v. lent room there (gives v))) counts ∙ lent_told room there n r says

      pub ask_lent : (why : Refusal) → r ≡ Err why → Asked pack chart chain fluent work work (Err why)
      ask_lent why e = ask_refused why (agrees ∙ ap (λ (r : Result (Unit {0}) Refusal). told (λ (u : Unit {0}). n) (replied r)) e)

      module _ (e : r ≡ Ok tt) where
        accepted_now : (ns : List ℕ) × (get_or ns 0 0 ≡ n) × ((x : Accepted pack places (chart ∷ []) p ns room there) × (query_reply pack chart chain fluent work ≡ value_of x.the_pack x.tables))
        unfolding query_reply
        accepted_now =
            accepted_by (chart ∷ []) got room there wanted is_in_range value_of (λ ns. get_or ns 0 0) said (check_one p room there chart) n
            (agrees ∙ ap (λ (r : Result (Unit {0}) Refusal). told (λ (u : Unit {0}). n) (replied r)) e)

        first : let x = accepted_now.2.0 in FirstRead x.the_pack.theory chart [] x.tables
        first = let x = accepted_now.2.0 in first_read x.the_pack.theory chart [] x.tables x.read

        read : NodesRead chart n p.domains.fluents p.characters first.table
        read =
            let (ns, g, (x, replies)) = accepted_now in
            nodes_read x.accepted x.found first.read (ap (λ (l : List (List Node)). get_or (map length l) 0 0) (sym first.same) ∙ ap (λ (l : List ℕ). get_or l 0 0) x.long ∙ g)

        pub ask_look : Lookable chart n p.domains.fluents p.characters chain fluent work
        ask_look =
            let x = accepted_now.2.0 in
            let (valid, fluent-there) = and_true (all_below p.characters chain) (ltb fluent p.domains.fluents) (sym here ∙ x.is_in_range) in record {
              table = first.table;
              read = read;
              valid = below_valid p.characters chain valid;
              there = ltb-true fluent p.domains.fluents fluent-there;
              room = leb-true work_room (length work) x.enough_there;
            }

        pub ask_value : (now : List ℕ) (v : ℕ) → Looked chart n p.domains.fluents p.characters chain fluent work now v → Asked pack chart chain fluent work now (Ok v)
        unfolding work_after
        ask_value now v l =
            let (ns, g, (x, replies)) = accepted_now in
            record {
              answer = ap gives (l.value first.table read ∙ ap₂ (λ (c : ℕ) (l : List (List Node)). get_or (meaning c (first_of l) 0 chain) fluent 0) (sym x.found.characters) (sym first.same)) ∙ sym replies;
              scratch = l.work ∙ sym (ap (λ (y : Reply ℕ). work_after y work) replies);
            }

  -- the chart is refused
  pub ask_chart : {places : List ℕ} {p : Contents} (got : PackRead pack places (Ok p)) (why : Refusal) → counted p chart ≡ refuses (refusal_number why) (place_of why)
      → Asked pack chart chain fluent work work (Err why)
  ask_chart {p = p} got why e =
      let there = all_below p.characters chain && ltb fluent p.domains.fluents in
      ask_refused got there refl why (ap (λ (y : Reply ℕ). with y (λ v. lent room there (gives v))) e)
