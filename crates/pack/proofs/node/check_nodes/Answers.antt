-- There are as many nodes as the count says. Assumes nothing.
use Rattle.std.proofs.Common.{rules}
use Rattle.pack.specs.Laws.Runs.{nodes_length}
use Rattle.pack.proofs.node.check_nodes.Goals as goal

pub returns-in_err-nodes : goal.returns-in_err-nodes
returns-in_err-nodes c = search (rules, nodes_length, c.read_between.ensures, c.in_err-nodes.was)

pub returns-in_err-after : goal.returns-in_err-after
returns-in_err-after c =
    search (rules, nodes_length, c.read_between.ensures, c.in_ok-nodes.was, c.check_rows.ensures, c.in_err-after.was)

pub returns : goal.returns
returns c =
    search (rules, nodes_length, c.read_between.ensures, c.in_ok-nodes.was, c.check_rows.ensures, c.in_ok-after.was)
