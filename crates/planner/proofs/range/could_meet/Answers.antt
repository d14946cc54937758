-- The kind and the value are held against the range. Assumes nothing.
use Prim.Native.Nat.{ℕ}
use mathlib.Core.Path.{ap, ◌∙◌}
use Rattle.pack.specs.Syntax.{Kind}
use Rattle.pack.specs.Grammar.{kind_of}
use Rattle.planner.specs.Inner.Range.{could_meet}
use Rattle.planner.proofs.range.could_meet.Goals as goal

pub returns : goal.returns
returns c =
    λ d small x n e.
    c.some_relates.ensures c.kind_of.ensures.0 ∙ ap (λ (v : ℕ). could_meet (kind_of c.kind_of.result) c.args.low c.args.high v) (c.tested_value.ensures d small x n e)
    ∙ ap (λ (z : Kind). could_meet z c.args.low c.args.high x.value) (c.kind_of.ensures.1 d small x n e)
