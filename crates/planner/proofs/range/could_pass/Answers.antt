-- A test is left open by its chain; else some value of its range meets it, or none. Assumes nothing.
use native.Mathlib.Omega.{arith}
use Rattle.planner.proofs.Pruning.{pass_open, pass_own, fluent_few}
use Rattle.planner.proofs.range.could_pass.Goals as goal

pub bounds-lows-fluent : goal.bounds-lows-fluent
bounds-lows-fluent c =
    omega (arith, fluent_few c.requires.0 c.fluent_of-fluent.ensures, c.requires.1.lowest)

pub bounds-highs-fluent : goal.bounds-highs-fluent
bounds-highs-fluent c =
    omega (arith, fluent_few c.requires.0 c.fluent_of-fluent.ensures, c.requires.1.highest)

pub returns-then-chain_of-ne0 : goal.returns-then-chain_of-ne0
returns-then-chain_of-ne0 c = pass_open _ _ _ _ c.chain_of.ensures c.if-chain_of-ne0.true

pub returns : goal.returns
returns c =
    pass_own _ _ _ _ c.chain_of.ensures (omega (arith, c.if-chain_of-ne0.false)) c.fluent_of-fluent.ensures c.could_meet.ensures
