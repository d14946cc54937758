-- What is left of the effects still has to be written to make what the whole writes. Assumes nothing.
use Prim.Native.Nat.{ℕ, ◌-◌}
use mathlib.Core.Path.{◌≡◌}
use mathlib.Core.List.{List}
use lib.ListN.{length}
use Rattle.pack.specs.Duties.Judge.{Small}
use Rattle.pack.specs.Grammar.{Dimensions, effects_at}
use Rattle.pack.specs.Condition.{write}
use Rattle.pack.specs.Duties.Table.{cells}
use Rattle.pack.specs.Duties.Write.{RowOnly}
use Rattle.pack.specs.Syntax.{Effect}
use Rattle.pack.specs.Reading.{done}
use Rattle.pack.specs.Laws.WrittenValues.{Owed}
use Rattle.pack.proofs.write.write_effects.Given as goal

abbrev pub invariant-loop : goal.invariant-loop
invariant-loop l =
    ((d : Dimensions) → Small d → length d.domains ≡ l.fluents → (xs : List Effect) (end : ℕ) → effects_at d l.s l.at ≡ done xs end → Owed (write l.whom) d l.s l.n (l.end - l.counter) (cells l.buffer l.row l.fluents) (write l.whom xs (cells l.initial.buffer l.row l.fluents)) end) × RowOnly l.initial.buffer l.buffer l.row l.fluents
