-- The head, the count of nodes, the nodes and the rest are read each behind what came before it, by one reader, which
-- begins at the first byte. Assumes nothing.
use Rattle.std.proofs.Common.{rules, arith, ap, sym, ◌≡◌, ◌∙◌}
use Rattle.std.proofs.lemmas.Result.{IfOk-from_err}
use Rattle.pack.specs.Reading.{done, bind, mapped, many}
use Rattle.pack.specs.Number.{between}
use Rattle.pack.specs.Grammar.{head_at, node_at}
use Rattle.pack.specs.Duties.Said.{forget}
use Rattle.pack.specs.Duties.Answer.{dims_of}
use Rattle.pack.specs.Duties.Contents.{body_at}
use Rattle.pack.specs.Laws.Bounded.{head_within, count_within, rows_within}
use Rattle.pack.specs.Laws.PartsFound.{body_forget, body_found, parts_forget, parts_body}
use Rattle.pack.proofs.contents.read_parts.Goals as goal

pub returns-in_err-head : goal.returns-in_err-head
returns-in_err-head c = record {
  answer = search (rules, parts_forget, c.new-r.ensures.0, c.new-r.ensures.1, c.read_head.ensures.reads, c.in_err-head.was);
  found = λ p n e. IfOk-from_err _ _ c.from_residual.ensures.0;
}

pub returns-in_err-nodes : goal.returns-in_err-nodes
returns-in_err-nodes c =
    let eh : head_at c.args.s.now 0 ≡ done (dims_of c.in_ok-head.head) c.read_head.new.r.at = rw (c.new-r.ensures.0, c.new-r.ensures.1) at c.in_ok-head.ensures.reads in
    let ec = rw (c.read_head.ensures.same, c.new-r.ensures.0) at c.in_err-nodes.ensures.reads in
    record {
      answer = search (rules, parts_forget, eh, body_forget, ec);
      found = λ p n e. IfOk-from_err _ _ c.from_residual-in_err-nodes.ensures.0;
    }

pub returns-in_err-nodes-2 : goal.returns-in_err-nodes-2
returns-in_err-nodes-2 c =
    let eh : head_at c.args.s.now 0 ≡ done (dims_of c.in_ok-head.head) c.read_head.new.r.at = rw (c.new-r.ensures.0, c.new-r.ensures.1) at c.in_ok-head.ensures.reads in
    let ec : between 1 33 3 c.args.s.now c.read_head.new.r.at ≡ done c.in_ok-nodes.nodes c.number.new.self.at = rw (c.read_head.ensures.same, c.new-r.ensures.0) at c.in_ok-nodes.ensures.reads in
    let er = rw (c.dimensions-d.ensures.0, c.dimensions-d.ensures.1, c.number.ensures.same, c.read_head.ensures.same, c.new-r.ensures.0) at c.in_err-nodes-2.ensures.reads in
    record {
      answer = search (rules, parts_forget, eh, body_forget, ec, er);
      found = λ p n e. IfOk-from_err _ _ c.from_residual-in_err-nodes-2.ensures.0;
    }

pub read_theory-requires : goal.read_theory-requires
read_theory-requires c =
    let eh : head_at c.args.s.now 0 ≡ done (dims_of c.in_ok-head.head) c.read_head.new.r.at = rw (c.new-r.ensures.0, c.new-r.ensures.1) at c.in_ok-head.ensures.reads in
    let ec : between 1 33 3 c.args.s.now c.read_head.new.r.at ≡ done c.in_ok-nodes.nodes c.number.new.self.at = rw (c.read_head.ensures.same, c.new-r.ensures.0) at c.in_ok-nodes.ensures.reads in
    let er : mapped forget (many (node_at (dims_of c.in_ok-head.head) c.in_ok-nodes.nodes) c.in_ok-nodes.nodes c.args.s.now c.number.new.self.at) ≡ done tt c.nodes.new.self.at = rw (c.dimensions-d.ensures.0, c.dimensions-d.ensures.1, c.number.ensures.same, c.read_head.ensures.same, c.new-r.ensures.0) at c.in_ok-nodes-2.ensures.reads in
    let s = c.args.s.now in
    let at_head = head_within s 0 (omega arith, c.requires.1) c.read_head.new.r.at (dims_of c.in_ok-head.head) eh in
    let at_count = count_within s c.read_head.new.r.at at_head c.number.new.self.at 1 33 c.in_ok-nodes.nodes ec in
    let at_nodes = rows_within s c.number.new.self.at at_count c.nodes.new.self.at (dims_of c.in_ok-head.head) c.in_ok-nodes.nodes er in
    (rw c.dimensions-d.ensures.0 c.in_ok-head.head.small, c.requires.0, rw (c.nodes.ensures.same, c.number.ensures.same, c.read_head.ensures.same, c.new-r.ensures.0) at_nodes)

pub returns-in_err-counts : goal.returns-in_err-counts
returns-in_err-counts c =
    let eh : head_at c.args.s.now 0 ≡ done (dims_of c.in_ok-head.head) c.read_head.new.r.at = rw (c.new-r.ensures.0, c.new-r.ensures.1) at c.in_ok-head.ensures.reads in
    let ec : between 1 33 3 c.args.s.now c.read_head.new.r.at ≡ done c.in_ok-nodes.nodes c.number.new.self.at = rw (c.read_head.ensures.same, c.new-r.ensures.0) at c.in_ok-nodes.ensures.reads in
    let er : mapped forget (many (node_at (dims_of c.in_ok-head.head) c.in_ok-nodes.nodes) c.in_ok-nodes.nodes c.args.s.now c.number.new.self.at) ≡ done tt c.nodes.new.self.at = rw (c.dimensions-d.ensures.0, c.dimensions-d.ensures.1, c.number.ensures.same, c.read_head.ensures.same, c.new-r.ensures.0) at c.in_ok-nodes-2.ensures.reads in
    let et = rw (c.dimensions-d.ensures.0, c.dimensions-d.ensures.1, c.nodes.ensures.same, c.number.ensures.same, c.read_head.ensures.same, c.new-r.ensures.0) at c.in_err-counts.ensures.reads.answer in
    record {
      answer = search (rules, parts_forget, eh, body_forget, ec, er, et);
      found = λ p n e. IfOk-from_err _ _ c.from_residual-in_err-counts.ensures.0;
    }

pub returns : goal.returns
returns c =
    let eh : head_at c.args.s.now 0 ≡ done (dims_of c.in_ok-head.head) c.read_head.new.r.at = rw (c.new-r.ensures.0, c.new-r.ensures.1) at c.in_ok-head.ensures.reads in
    let ec : between 1 33 3 c.args.s.now c.read_head.new.r.at ≡ done c.in_ok-nodes.nodes c.number.new.self.at = rw (c.read_head.ensures.same, c.new-r.ensures.0) at c.in_ok-nodes.ensures.reads in
    let er : mapped forget (many (node_at (dims_of c.in_ok-head.head) c.in_ok-nodes.nodes) c.in_ok-nodes.nodes c.args.s.now c.number.new.self.at) ≡ done tt c.nodes.new.self.at = rw (c.dimensions-d.ensures.0, c.dimensions-d.ensures.1, c.number.ensures.same, c.read_head.ensures.same, c.new-r.ensures.0) at c.in_ok-nodes-2.ensures.reads in
    let et = rw (c.dimensions-d.ensures.0, c.dimensions-d.ensures.1, c.nodes.ensures.same, c.number.ensures.same, c.read_head.ensures.same, c.new-r.ensures.0) at c.in_ok-counts.ensures.reads in
    let h = c.in_ok-head.head in
    record {
      answer = search (rules, parts_forget, eh, body_forget, ec, er, et.answer);
      found = λ p end e.
          body_found h.characters h.domains c.args.s.now c.read_head.new.r.at c.read_theory.new.places c.in_ok-nodes.nodes c.number.new.self.at c.nodes.new.self.at c.in_ok-counts.counts ec er et.found p end
          (ap (λ r. bind r (λ d n. body_at d c.args.s.now n)) (sym eh) ∙ sym (parts_body c.args.s.now 0) ∙ e);
    }
