-- Up to the first pair whose values differ, and the way back from there. Assumes nothing.
use Rattle.std.proofs.Common.{rules, sym, subst, ◌≡◌, ◌∙◌, refl, None}
use Rattle.chart.specs.Inner.Match.{RowsMatched}
use Rattle.chart.proofs.MatchedRows.{match_paired, match_sound, match_pairs, match_writable, matched_same, matched_differ}
use Rattle.chart.proofs.compare.match_rows.Goals as goal

pub seek-requires : goal.seek-requires
seek-requires c = rw c.at-t.ensures (record {
  paired = (match_paired c.requires c.meet_first.auto.work, match_sound c.requires c.meet_first.ensures);
  pairs_in = match_pairs c.requires c.meet_first.ensures;
})

pub returns-in_err-k : goal.returns-in_err-k
returns-in_err-k c =
    let none : c.from_residual.result ≡ None = search rules in
    subst (λ r. RowsMatched c.args.work.now c.seek.new.work c.args.chain.now c.args.chain.now r c.args.n.first c.args.n.second c.args.n.fluents c.args.n.characters) (sym none)
    (matched_same c.requires c.meet_first.ensures (rw c.at-t.ensures at c.in_err-k.ensures) refl)

pub write_chain-length-requires : goal.write_chain-length-requires
write_chain-length-requires c =
    match_writable c.requires c.meet_first.ensures (rw c.at-t.ensures at c.in_ok-k.ensures) refl (c.seek.auto.work ∙ c.meet_first.auto.work)

pub returns : goal.returns
returns c =
    let long = c.seek.auto.work ∙ c.meet_first.auto.work in
    let (way, written) = c.write_chain-length.ensures in
    matched_differ c.requires c.meet_first.ensures (rw c.at-t.ensures at c.in_ok-k.ensures) refl long way written c.write_chain-length.auto.chain
