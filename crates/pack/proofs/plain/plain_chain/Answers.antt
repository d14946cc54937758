-- Each byte of the chain is below the limit. Assumes nothing.
use Rattle.std.proofs.Common.{rules, ◌<◌, ◌≤◌}
use native.Mathlib.Omega.{arith}
use borrow.Author.Tests.{tests}
use Rattle.std.proofs.lemmas.Iterator.{cases_from_all, YieldsList-from_slice}
use Rattle.pack.proofs.InRange.{chain_reads, each_below}
use Rattle.pack.proofs.Slices.{part}
use Rattle.pack.proofs.plain.plain_chain.Goals as goal

pub returns : goal.returns
returns c =
    λ said. let below = each_below _ c.args.s.now c.args.at c.args.count c.byte_limit-limit.result c.all.result c.requires (cases_from_all _ _ _ (λ x. x < c.byte_limit-limit.result) (λ x. c.byte_limit-limit.result ≤ x) c.all.ensures.ran (YieldsList-from_slice (part c.args.s.now c.args.at c.args.count) cc) (λ x q k. search (rules, tests)) (λ x q k. search (rules, tests))) said in
    chain_reads c.args.characters c.args.s.now c.args.count c.args.at c.requires (λ k l. let b = below k l in (omega arith, omega arith))
