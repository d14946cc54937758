-- The rows that are copied and the nodes that are left are the nodes that are read. Assumes nothing.
use native.Mathlib.Omega.{arith}
use Prim.Native.Nat.{ℕ, ◌+◌}
use mathlib.Core.Path.{◌≡◌, refl, sym, ap, ◌∙◌}
use lib.Seq.{get_or-set_same, get_or-set_other}
use lib.ListN.{length-set}
use Rattle.pack.specs.Reading.{many}
use Rattle.pack.specs.Grammar.{node_at}
use Rattle.pack.specs.Duties.Table.{rows_at, upto}
use Rattle.pack.specs.Laws.CopiedRows.{node_bytes_lem, row_ends, row_fits, rowing_one, rowing_after, rowing_none}
use Rattle.pack.proofs.copy.copy_table.Goals as goal

pub overflow_cast-buffer : goal.overflow_cast-buffer
unfolding rows_at upto
overflow_cast-buffer c = omega (arith, c.requires.few)

pub bounds-buffer-base : goal.bounds-buffer-base
unfolding rows_at upto
bounds-buffer-base c = omega (arith, c.requires.room)

pub overflow_add-width : goal.overflow_add-width
unfolding rows_at upto
overflow_add-width c = omega arith

pub loop-i-init : goal.loop-i-init
unfolding rows_at upto
loop-i-init c =
    (λ d sized t end e. record { rest = t; reads = ap (λ (k : ℕ). many (node_at d c.args.nodes) k c.args.s.now c.args.at) (omega arith) ∙ e; same = refl }, refl, λ p l. refl, λ p l. refl, omega arith)

pub overflow_add-base : goal.overflow_add-base
unfolding rows_at upto
overflow_add-base c = omega (arith, c.requires.room)

pub overflow_mul-i : goal.overflow_mul-i
unfolding rows_at upto
overflow_mul-i c =
    omega (
      arith,
      c.requires.room,
      (row_fits c.loop-i.i c.args.nodes (c.args.fluents + c.args.characters) (omega arith)),
    )

pub overflow_add-base-in-loop-i : goal.overflow_add-base-in-loop-i
unfolding rows_at upto
overflow_add-base-in-loop-i c =
    omega (
      arith,
      c.requires.room,
      (row_fits c.loop-i.i c.args.nodes (c.args.fluents + c.args.characters) (omega arith)),
    )

pub copy_row-requires : goal.copy_row-requires
unfolding rows_at upto
copy_row-requires c =
    let x = rowing_one _ _ _ _ _ _ _ _ (c.loop-i.invariant.0 c.requires.dimensions c.requires.sized c.requires.value c.requires.end c.requires.reads) (omega arith) in
    record {
      dimensions = c.requires.dimensions;
      sized = c.requires.sized;
      nodes = c.args.nodes;
      few = c.requires.few;
      value = x.item;
      end = x.place;
      reads = x.here;
      room = (let q = (c.loop-i.invariant.1 ∙ length-set c.args.buffer.now c.args.base c.args.nodes) in
          omega (
            arith,
            c.requires.room,
            (row_fits c.loop-i.i c.args.nodes (c.args.fluents + c.args.characters) (omega arith)),
          ));
    }

pub overflow_add-from : goal.overflow_add-from
unfolding rows_at upto
overflow_add-from c =
    let x = rowing_one _ _ _ _ _ _ _ _ (c.loop-i.invariant.0 c.requires.dimensions c.requires.sized c.requires.value c.requires.end c.requires.reads) (omega arith) in
    omega (arith, (row_ends c.args.s.now c.loop-i.from c.args.fluents c.args.characters _ _ 18446744073709551615 (node_bytes_lem c.requires.dimensions c.args.fluents c.args.characters c.requires.sized c.args.nodes c.requires.few c.args.s.now c.loop-i.from x.item x.place x.here) c.loop-i.invariant.4 (omega arith)).1)

pub loop-i-preserved : goal.loop-i-preserved
unfolding rows_at upto
loop-i-preserved c = (
  λ d sized t end e. rowing_after d c.args.fluents c.args.characters sized c.args.s.now c.loop-i.from c.args.nodes (c.args.base + 1) c.loop-i.i c.loop-i.buffer _ t end c.requires.few (rowing_one _ _ _ _ _ _ _ _ (c.loop-i.invariant.0 d sized t end e) (omega arith)) c.copy_row.ensures,
  c.copy_row.ensures.only.long ∙ c.loop-i.invariant.1,
  λ p l. c.copy_row.ensures.only.below p (omega arith) ∙ c.loop-i.invariant.2 p l,
  λ p l. c.copy_row.ensures.only.above p (omega (
    arith,
    (row_fits c.loop-i.i c.args.nodes (c.args.fluents + c.args.characters) (omega arith)),
  )) ∙ c.loop-i.invariant.3 p l,
  let x = rowing_one _ _ _ _ _ _ _ _ (c.loop-i.invariant.0 c.requires.dimensions c.requires.sized c.requires.value c.requires.end c.requires.reads) (omega arith) in
      omega (arith, (row_ends c.args.s.now c.loop-i.from c.args.fluents c.args.characters _ _ 18446744073709551615 (node_bytes_lem c.requires.dimensions c.args.fluents c.args.characters c.requires.sized c.args.nodes c.requires.few c.args.s.now c.loop-i.from x.item x.place x.here) c.loop-i.invariant.4 (omega arith)).1),
)

pub shape_of-buffer : goal.shape_of-buffer
unfolding rows_at upto
shape_of-buffer c = c.loop-i.invariant.1 ∙ length-set c.args.buffer.now c.args.base c.args.nodes

pub returns : goal.returns
unfolding rows_at upto
returns c =
    let all : c.loop-i.i ≡ c.args.nodes = (omega arith) in
    record { count = c.loop-i.invariant.2 c.args.base (omega arith) ∙ get_or-set_same c.args.buffer.now c.args.base c.args.nodes 0 (omega (arith, c.requires.room)); table = λ d sized t n e. ap (rows_at c.loop-i.buffer (c.args.fluents + c.args.characters) c.args.fluents c.args.characters (c.args.base + 1)) (sym all) ∙ rowing_none _ _ _ _ _ _ _ _ (c.loop-i.invariant.0 d sized t n e) (omega arith); long = c.loop-i.invariant.1 ∙ length-set c.args.buffer.now c.args.base c.args.nodes; below = λ p l. c.loop-i.invariant.2 p (omega arith) ∙ get_or-set_other c.args.buffer.now c.args.base p c.args.nodes 0 (omega arith); above = λ p l. c.loop-i.invariant.3 p l ∙ get_or-set_other c.args.buffer.now c.args.base p c.args.nodes 0 (omega arith) }
