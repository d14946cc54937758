-- Start: what the checks leave, as writing the chart asks it, and what it gives. Assumes nothing.
use Rattle.std.proofs.Common.{ℕ, ◌≡◌, refl, sym, ap, ◌∙◌, subst, Bool, true, ◌&&◌, List, [], length, leb-true}
use Rattle.pack.specs.Syntax.{Node, Pack}
use Rattle.std.specs.Prelude.{Result, Ok, Err}
use Rattle.pack.specs.Reading.{Reply, gives, refuses, told}
use Rattle.pack.specs.Layout.{chart_bytes, ChartFits}
use Rattle.pack.specs.Refusals.{refusal_number, place_of}
use Rattle.pack.specs.Refusals.{replied}
use Rattle.pack.specs.Duties.Contents.{PackRead}
use Rattle.pack.specs.Laws.Exact.{Bytes}
use Rattle.pack.specs.Laws.PackExact.{pack_exactly}
use Rattle.pack.specs.declared.contents.Contents.{Contents}
use Rattle.pack.specs.declared.refusal.Refusal.{Refusal}
use Rattle.chart.specs.Answers.{start_table}
use Rattle.chart.specs.Call.{fits, by_checks, chart_room, work_room, result_after, work_after}
use Rattle.chart.specs.Replies.{start_reply}
use Rattle.chart.specs.Promises.{Started}
use Rattle.chart.specs.Duties.Start.{Startable, StartPut}
use Rattle.chart.specs.Laws.Arguments.{and_true}
use Rattle.chart.specs.Laws.Checks.{nodes_packed, lent, checks, lent_told, pack_refused, Accepted, refused_by, accepted_by, left_alone, check_none}

module _ (pack chart work : List ℕ) where
  abbrev room : Bool
  room = fits chart_room chart && fits work_room work

  abbrev bytes_of : Pack → List (List Node) → Reply (List ℕ)
  bytes_of x tables = gives (chart_bytes (start_table x.theory.characters x.nodes))

  abbrev the_reply : Reply (List ℕ)
  the_reply = start_reply pack chart work

  -- nothing is written
  refused : (why : Refusal) (z : (the_reply ≡ refuses (refusal_number why) (place_of why)) × (by_checks (refusal_number why) ≡ true))
      → Started pack chart work chart work (Err why)
  unfolding result_after
  refused why z = record {
    answer = sym (ap (told length) z.0);
    result = sym (ap (λ (x : Reply (List ℕ)). result_after x chart) z.0);
    scratch = left_alone the_reply work (refusal_number why) (place_of why) z;
  }

  pub begin_unread : {places : List ℕ} (why : Refusal) → PackRead pack places (Err why) → Started pack chart work chart work (Err why)
  unfolding start_reply
  begin_unread why read = refused why (pack_refused pack [] room (λ p. true) bytes_of (refusal_number why) (place_of why) read.answer)

  module _ {places : List ℕ} {p : Contents} (got : PackRead pack places (Ok p)) (enough : Bool) (here : enough ≡ room) (r : Result (Unit {0}) Refusal) (says : replied r ≡ lent enough true (gives tt)) where
    agrees : told (λ (u : Unit {0}). p.nodes) (replied r) ≡ told (λ ns. p.nodes) (checks p [] room true)
    agrees = sym (lent_told room true p.nodes r (says ∙ ap (λ (b : Bool). lent b true (gives tt)) here)) ∙ check_none p room true p.nodes

    pub begin_refused : (why : Refusal) → r ≡ Err why → Started pack chart work chart work (Err why)
    unfolding start_reply
    begin_refused why e =
        refused why (refused_by [] got room true (λ p. true) (λ x e. refl) bytes_of (λ ns. p.nodes) (told (λ (u : Unit {0}). p.nodes) (replied r)) agrees (refusal_number why) (place_of why)
        (ap (λ (r : Result (Unit {0}) Refusal). told (λ (u : Unit {0}). p.nodes) (replied r)) e))

    module _ (bytes : Bytes pack) (e : r ≡ Ok tt) where
      accepted_now : (ns : List ℕ) × (p.nodes ≡ p.nodes) × ((x : Accepted pack places [] p ns room true) × (the_reply ≡ bytes_of x.the_pack x.tables))
      unfolding start_reply
      accepted_now =
          accepted_by [] got room true (λ p. true) (λ x e. refl) bytes_of (λ ns. p.nodes) (told (λ (u : Unit {0}). p.nodes) (replied r)) agrees p.nodes
          (ap (λ (r : Result (Unit {0}) Refusal). told (λ (u : Unit {0}). p.nodes) (replied r)) e)

      pub begin_ready : Startable pack p.first p.nodes p.domains.fluents p.characters chart work
      begin_ready =
          let y = accepted_now.2.0 in
          let x = y.the_pack in
          let f = y.found in
          let (has_chart_room, has_work_room) = and_true (fits chart_room chart) (fits work_room work) y.enough_there in
          record {
            table = x.nodes;
            end = f.rows.end;
            read = nodes_packed bytes y.accepted f;
            fit = subst (λ (c : ℕ). ChartFits c x.theory.domains x.nodes) f.characters ((pack_exactly pack bytes x).0 y.accepted).0.nodes;
            has_chart_room = leb-true chart_room (length chart) has_chart_room;
            has_work_room = leb-true work_room (length work) has_work_room;
          }

      pub begin_done : (chart' work' : List ℕ) (k : ℕ)
          → ((x : Startable pack p.first p.nodes p.domains.fluents p.characters chart work) → StartPut p.characters x.table chart chart' work work' k)
          → Started pack chart work chart' work' (Ok k)
      unfolding work_after result_after begin_ready accepted_now
      begin_done chart' work' k put =
          let (ns, g, (y, replies)) = accepted_now in
          let x = y.the_pack in
          let z = put begin_ready in
          let same : p.characters ≡ x.theory.characters = sym y.found.characters in
          record {
            answer = ap gives (z.answer ∙ ap (λ (c : ℕ). length (chart_bytes (start_table c x.nodes))) same) ∙ sym (ap (told length) replies);
            result = z.result ∙ ap (λ (c : ℕ). result_after (gives (chart_bytes (start_table c x.nodes))) chart) same ∙ sym (ap (λ (y : Reply (List ℕ)). result_after y chart) replies);
            scratch = z.scratch ∙ sym (ap (λ (y : Reply (List ℕ)). work_after y work) replies);
          }
