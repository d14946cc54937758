-- Compare: what the checks leave, as matching two charts asks it, and what it gives. Assumes nothing.
use Rattle.std.proofs.Common.{ℕ, ◌≤◌, ◌≡◌, refl, sym, ap, ap₂, ◌∙◌, subst, Bool, true, ◌&&◌, List, [], ◌∷◌, map}
use Rattle.std.proofs.Common.{length, get_or, leb-true}
use Rattle.pack.specs.Syntax.{Node, Pack}
use Rattle.pack.specs.Reading.{Reply, gives, refuses, with, told}
use Rattle.pack.specs.Refusals.{refusal_number, place_of}
use Rattle.pack.specs.Refusals.{replied}
use Rattle.pack.specs.Duties.Contents.{PackRead}
use Rattle.pack.specs.declared.contents.Contents.{Contents}
use Rattle.std.specs.Prelude.{Option, Result, Ok, Err}
use Rattle.pack.specs.declared.refusal.Refusal.{Refusal}
use Rattle.chart.specs.declared.Difference as found
use Rattle.chart.specs.Compare.{Verdict}
use Rattle.chart.specs.Answers.{compare_table}
use Rattle.chart.specs.Call.{fits, by_checks, chain_room, work_room, result_after, work_after}
use Rattle.chart.specs.Replies.{first_of, second_of, compare_reply, chain_of}
use Rattle.chart.specs.Promises.{Comparison, difference}
use Rattle.chart.specs.Duties.Look.{NodesRead}
use Rattle.chart.specs.Inner.Match.{Joinable, ChartsMatched}
use Rattle.chart.specs.Laws.Arguments.{and_true}
use Rattle.chart.specs.Laws.Checks.{counted, lent, checks, lent_told, pack_refused, Accepted, FirstRead, first_read, nodes_read, refused_by, accepted_by, left_alone, check_two}

module _ (pack first second chain work : List ℕ) where
  abbrev enough : Bool
  enough = fits chain_room chain && fits work_room work

  abbrev charts : List (List ℕ)
  charts = first ∷ second ∷ []

  abbrev verdict_of : Pack → List (List Node) → Reply Verdict
  verdict_of p tables = gives (compare_table p.theory.characters (length p.theory.domains) (first_of tables) (second_of tables))

  abbrev the_reply : Reply Verdict
  the_reply = compare_reply pack first second chain work

  -- nothing is written
  unwritten : (why : Refusal) (z : (the_reply ≡ refuses (refusal_number why) (place_of why)) × (by_checks (refusal_number why) ≡ true))
      → Comparison pack first second chain work chain work (Err why)
  unfolding result_after
  unwritten why z = record {
    answer = sym (ap (told difference) z.0);
    result = sym (ap (λ (y : Reply Verdict). result_after (told chain_of y) chain) z.0);
    scratch = left_alone the_reply work (refusal_number why) (place_of why) z;
  }

  pub compare_unread : {places : List ℕ} (why : Refusal) → PackRead pack places (Err why) → Comparison pack first second chain work chain work (Err why)
  unfolding compare_reply
  compare_unread why read = unwritten why (pack_refused pack charts enough (λ p. true) verdict_of (refusal_number why) (place_of why) read.answer)

  same_told : (x : Reply (List ℕ)) → x ≡ told (λ ns. ns) x
  same_told (gives ns) = refl
  same_told (refuses k q) = refl

  module _ {places : List ℕ} {p : Contents} (got : PackRead pack places (Ok p)) where
    abbrev said : Reply (List ℕ)
    said = with (counted p first) (λ n. with (counted p second) (λ m. lent enough true (gives (n ∷ m ∷ []))))

    agrees : said ≡ told (λ ns. ns) (checks p charts enough true)
    agrees = check_two p enough true first second ∙ same_told (checks p charts enough true)

    refused : (why : Refusal) → said ≡ refuses (refusal_number why) (place_of why) → Comparison pack first second chain work chain work (Err why)
    unfolding compare_reply
    refused why e = unwritten why (refused_by charts got enough true (λ p. true) (λ x e. refl) verdict_of (λ ns. ns) said agrees (refusal_number why) (place_of why) e)

    pub compare_first : (why : Refusal) → counted p first ≡ refuses (refusal_number why) (place_of why) → Comparison pack first second chain work chain work (Err why)
    compare_first why e = refused why (ap (λ (y : Reply ℕ). with y (λ n. with (counted p second) (λ m. lent enough true (gives (n ∷ m ∷ []))))) e)

    module _ (n : ℕ) (one_read : counted p first ≡ gives n) where
      abbrev rest : Reply (List ℕ)
      rest = with (counted p second) (λ m. lent enough true (gives (n ∷ m ∷ [])))

      behind : said ≡ rest
      behind = ap (λ (y : Reply ℕ). with y (λ n. with (counted p second) (λ m. lent enough true (gives (n ∷ m ∷ []))))) one_read

      pub compare_second : (why : Refusal) → counted p second ≡ refuses (refusal_number why) (place_of why) → Comparison pack first second chain work chain work (Err why)
      compare_second why e = refused why (behind ∙ ap (λ (y : Reply ℕ). with y (λ m. lent enough true (gives (n ∷ m ∷ [])))) e)

      module _ (m : ℕ) (other_read : counted p second ≡ gives m) (room : Bool) (here : room ≡ enough) (r : Result (Unit {0}) Refusal) (says : replied r ≡ lent room true (gives tt)) where
        told_both : said ≡ told (λ (u : Unit {0}). n ∷ m ∷ []) (replied r)
        told_both =
            behind ∙ ap (λ (y : Reply ℕ). with y (λ m. lent enough true (gives (n ∷ m ∷ [])))) other_read
            ∙ lent_told enough true (n ∷ m ∷ []) r (says ∙ ap (λ (b : Bool). lent b true (gives tt)) here)

        pub compare_lent : (why : Refusal) → r ≡ Err why → Comparison pack first second chain work chain work (Err why)
        compare_lent why e = refused why (told_both ∙ ap (λ (r : Result (Unit {0}) Refusal). told (λ (u : Unit {0}). n ∷ m ∷ []) (replied r)) e)

        module _ (e : r ≡ Ok tt) where
          both_read : (x : Accepted pack places charts p (n ∷ m ∷ []) enough true) × (the_reply ≡ verdict_of x.the_pack x.tables)
          unfolding compare_reply
          both_read =
              let (ns, g, z) = accepted_by charts got enough true (λ p. true) (λ x e. refl) verdict_of (λ ns. ns) said agrees (n ∷ m ∷ [])
              (told_both ∙ ap (λ (r : Result (Unit {0}) Refusal). told (λ (u : Unit {0}). n ∷ m ∷ []) (replied r)) e) in
              subst (λ (ns : List ℕ). (x : Accepted pack places charts p ns enough true) × (the_reply ≡ verdict_of x.the_pack x.tables)) g z

          one : let x = both_read.0 in FirstRead x.the_pack.theory first (second ∷ []) x.tables
          one = let x = both_read.0 in first_read x.the_pack.theory first (second ∷ []) x.tables x.read

          two : FirstRead both_read.0.the_pack.theory second [] one.others
          two = first_read both_read.0.the_pack.theory second [] one.others one.rest

          tables_are : both_read.0.tables ≡ one.table ∷ two.table ∷ two.others
          tables_are = one.same ∙ ap (λ (l : List (List Node)). one.table ∷ l) two.same

          sizes : (i : ℕ) → get_or (map length (one.table ∷ two.table ∷ two.others)) i 0 ≡ get_or (n ∷ m ∷ []) i 0
          sizes i = ap (λ (l : List (List Node)). get_or (map length l) i 0) (sym tables_are) ∙ ap (λ (l : List ℕ). get_or l i 0) both_read.0.long

          left : NodesRead first n p.domains.fluents p.characters one.table
          left = let x = both_read.0 in nodes_read x.accepted x.found one.read (sizes 0)

          right : NodesRead second m p.domains.fluents p.characters two.table
          right = let x = both_read.0 in nodes_read x.accepted x.found two.read (sizes 1)

          pub compare_ready : Joinable first second work n m p.domains.fluents p.characters × (chain_room ≤ length chain)
          compare_ready =
              let (has_chain_room, has_work_room) = and_true (fits chain_room chain) (fits work_room work) both_read.0.enough_there in
              (record { table = one.table; read = left; other = two.table; read_other = right; room = leb-true work_room (length work) has_work_room }, leb-true chain_room (length chain) has_chain_room)

          pub compare_done : (chain' work' : List ℕ) (k : Option found.Difference) → ChartsMatched first second chain chain' work work' k n m p.domains.fluents p.characters → Comparison pack first second chain work chain' work' (Ok k)
          unfolding result_after work_after
          compare_done chain' work' k z =
              let (x, replies) = both_read in
              let v = compare_table p.characters p.domains.fluents one.table two.table in
              let gave : the_reply ≡ gives v = replies
              ∙ ap (λ (l : List (List Node)). gives (compare_table x.the_pack.theory.characters (length x.the_pack.theory.domains) (first_of l) (second_of l))) tables_are
              ∙ ap₂ (λ (c f : ℕ). gives (compare_table c f one.table two.table)) x.found.characters x.found.fluents in
              let s = z.said one.table two.table left right in
              record {
                answer = s.answer ∙ sym (ap (told difference) gave);
                result = s.result ∙ sym (ap (λ (y : Reply Verdict). result_after (told chain_of y) chain) gave);
                scratch = z.scratch ∙ sym (ap (λ (y : Reply Verdict). work_after y work) gave);
              }
