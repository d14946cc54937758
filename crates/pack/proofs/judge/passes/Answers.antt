-- The bytes of the test are compared where the chain leads. Assumes nothing.
use native.Mathlib.Omega.{arith}
use Prim.Native.Nat.{ℕ, ◌+◌, ◌*◌}
use mathlib.Core.Path.{◌≡◌, refl, sym, ap, ◌∙◌}
use mathlib.Core.List.{List}
use lib.ListN.{get_or}
use Rattle.pack.specs.Condition.{compares}
use Rattle.pack.specs.Grammar.{kind_of, test_at}
use Rattle.pack.specs.Duties.Judge.{Judged}
use Rattle.pack.specs.declared.table.Table.{Table}
use Rattle.pack.specs.Laws.Rows.{value-at}
use Rattle.pack.specs.Laws.OneByte.{TestIn, test_in}
use Rattle.pack.specs.Laws.Judged.{passes_by}
use Rattle.pack.proofs.judge.passes.Goals as goal

-- the test that is read, byte by byte
read : {s : List ℕ} {at : ℕ} {t : Table} {buffer : List ℕ} {node : ℕ} (j : Judged test_at s at t buffer node)
    (k : ℕ) → k ≡ get_or s at 0 → TestIn j.dimensions t.characters t.fluents s at k
read {s} {at} {t} j k e =
    test_in j.dimensions t.characters t.fluents j.over.small j.over.characters j.over.fluents s at j.value j.end j.reads k (sym e)

pub bounds-s-at : goal.bounds-s-at
bounds-s-at c = omega (arith, (read c.requires _ refl).inside)

pub overflow_add-at : goal.overflow_add-at
overflow_add-at c = omega (arith, (read c.requires _ c.from-count.ensures).inside)

pub follow-there-requires : goal.follow-there-requires
follow-there-requires c =
    let i = read c.requires _ c.from-count.ensures in
    (c.requires.table, c.requires.there, omega (arith, i.inside), i.valid)

pub overflow_add-n : goal.overflow_add-n
overflow_add-n c = omega (arith, (read c.requires _ c.from-count.ensures).inside)

pub overflow_add-n-2 : goal.overflow_add-n-2
overflow_add-n-2 c = omega (arith, (read c.requires _ c.from-count.ensures).inside)

pub bounds-s-n : goal.bounds-s-n
bounds-s-n c = omega (arith, (read c.requires _ c.from-count.ensures).inside)

pub overflow_add-n-3 : goal.overflow_add-n-3
overflow_add-n-3 c = omega (arith, (read c.requires _ c.from-count.ensures).inside)

pub bounds-s-n-2 : goal.bounds-s-n-2
bounds-s-n-2 c = omega (arith, (read c.requires _ c.from-count.ensures).inside)

pub value-requires : goal.value-requires
value-requires c =
    (c.requires.table, c.follow-there.ensures.1, omega (arith, c.from.ensures, (read c.requires _ c.from-count.ensures).below))

pub overflow_add-n-4 : goal.overflow_add-n-4
overflow_add-n-4 c = omega (arith, (read c.requires _ c.from-count.ensures).inside)

pub bounds-s-n-3 : goal.bounds-s-n-3
bounds-s-n-3 c = omega (arith, (read c.requires _ c.from-count.ensures).inside)

pub returns : goal.returns
returns c =
    let i = read c.requires _ c.from-count.ensures in
    let n = (c.args.at + 1) + c.from-count.result in
    let row = value-at c.args.t c.args.buffer.now c.follow-there.result c.from.result c.follow-there.ensures.1 (omega (arith, c.from.ensures, i.below)) in
    let byte = c.value.ensures ∙ row ∙ ap (λ (f : ℕ). get_or c.args.buffer.now ((c.args.t.rows + c.follow-there.result * c.args.t.width) + f) 0) c.from.ensures in
    λ d over x n' e. c.relates.ensures.0 i.known
    ∙ ap (λ (v : ℕ). compares (kind_of (get_or c.args.s.now n 0)) v (get_or c.args.s.now (n + 2) 0)) byte
    ∙ sym (passes_by c.args.t c.args.buffer.now c.args.node d over c.args.s.now c.args.at x n' e c.from-count.result c.follow-there.result (sym c.from-count.ensures) c.follow-there.ensures.0 c.follow-there.ensures.1)
