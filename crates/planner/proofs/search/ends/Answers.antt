-- The author's utility, where it is above base. Assumes nothing.
use mathlib.Core.Path.{refl, ap}
use Rattle.std.specs.Prelude.{Some}
use native.Mathlib.Omega.{arith}
use lib.ListN.{get_or}
use Rattle.planner.proofs.Explanations.{rules_in, utility_in}
use Rattle.planner.proofs.EarliestList.{author_rules, author-utility}
use Rattle.planner.proofs.search.ends.Goals as goal

pub returns-then-base-worth : goal.returns-then-base-worth
returns-then-base-worth c =
    λ th T y.
    let is = author-utility y 0 (utility_in c.args.pack.now (get_or c.args.places.now 320 0) c.args.work.now 0 c.utility-worth.result c.table_in-t.ensures c.utility-worth.ensures) in
    (λ l. ap Some is, λ l. absurd (omega (arith, is, l, c.if-base-worth.true)))

pub returns-else-base-worth : goal.returns-else-base-worth
returns-else-base-worth c =
    λ th T y.
    let is = author-utility y 0 (utility_in c.args.pack.now (get_or c.args.places.now 320 0) c.args.work.now 0 c.utility-worth.result c.table_in-t.ensures c.utility-worth.ensures) in
    (λ l. absurd (omega (arith, is, l, c.if-base-worth.false)), λ l. refl)

pub utility-worth-requires : goal.utility-worth-requires
utility-worth-requires c =
    let (th, (T, y)) = c.requires.0 in
    rules_in _ _ _ 0 c.table_in-t.ensures (author_rules y 0 y.tabled.some).0
