-- The row is copied as it is, then its beliefs are named. Assumes nothing.
use Rattle.std.proofs.Common.{◌∙◌, ap, ℕ, ◌<◌, ◌≤◌, ◌+◌, ◌*◌, length, get_or, arith}
use Rattle.pack.specs.Duties.Table.{cells}
use Rattle.chart.specs.Laws.Cells.{cells_same, row_in, part_behind}
use Rattle.chart.specs.Laws.Numbering.{few, numbering_same}
use Rattle.chart.specs.Laws.PassRows.{row_filled}
use Rattle.chart.proofs.pass.fill_row.Goals as goal
use Rattle.chart.proofs.pass.fill_row.Goals.{After-from-x}

-- where the two rows lie
place : (c : After-from-x) →
    (c.from-x.result < c.args.s.nodes) ×
    (c.args.s.rows + c.from-x.result * c.args.s.width + c.args.s.width ≤ c.args.m) ×
    (c.args.t + c.args.i * c.args.s.width + c.args.s.width ≤ length c.args.work.now)
place c =
    let x : c.from-x.result < c.args.s.nodes = omega (arith, c.from-x.ensures, c.requires.numbering.0.there c.args.i c.requires.numbering.1) in (
      x,
      omega (arith, row_in c.args.s.nodes c.args.s.width c.from-x.result x, c.requires.laid.0.source),
      omega (arith, row_in c.args.s.nodes c.args.s.width c.args.i (omega (arith, few c.args.work.now c.args.m c.args.s.nodes c.args.count c.requires.numbering.0, c.requires.numbering.1)), c.requires.laid.0.target),
    )

pub overflow_add-m-2 : goal.overflow_add-m-2
overflow_add-m-2 c = omega (arith, few c.args.work.now c.args.m c.args.s.nodes c.args.count c.requires.numbering.0, c.requires.laid.0)

pub bounds-work-m : goal.bounds-work-m
bounds-work-m c = omega (arith, few c.args.work.now c.args.m c.args.s.nodes c.args.count c.requires.numbering.0, c.requires.laid.0)

pub overflow_mul-to : goal.overflow_mul-to
overflow_mul-to c = omega (arith, place (goal.at.overflow_mul-to c).After-from-x)

pub overflow_add-to : goal.overflow_add-to
overflow_add-to c = omega (arith, place (goal.at.overflow_add-to c).After-from-x)

pub copy_part-requires : goal.copy_part-requires
copy_part-requires c =
    let (x, from, to) = place (goal.at.copy_part-requires c).After-from-x in
    (omega (arith, c.requires.laid.0), omega (arith, c.requires.laid.0), omega (arith, c.requires.laid.0))

pub overflow_add-to-2 : goal.overflow_add-to-2
overflow_add-to-2 c = omega (arith, place (goal.at.overflow_add-to-2 c).After-from-x, c.requires.laid.0)

pub name_beliefs-requires : goal.name_beliefs-requires
name_beliefs-requires c =
    let (x, from, to) = place (goal.at.name_beliefs-requires c).After-from-x in
    let belief = c.requires.laid.1.beliefs c.from-x.result in record {
      room = (omega (arith, c.requires.laid.0), omega (arith, c.requires.laid.0, c.copy_part.auto.work), c.requires.laid.0.few);
      numbering = numbering_same _ _ _ _ _ c.requires.numbering.0 (λ q l b. c.copy_part.ensures.low q (omega (arith, c.requires.laid.0)));
      below = λ d l. omega (arith, part_behind c.args.s.fluents c.args.s.characters c.copy_part.ensures d l, belief d x l);
    }

pub returns : goal.returns
returns c =
    let source : ℕ → ℕ = λ x. c.args.s.rows + x * c.args.s.width in
    let e = c.from-x.ensures in
    row_filled _ _ _
    (cells_same _ _ _ _ _ (λ q l. c.copy_part.ensures.part q (omega arith)) ∙ ap (λ (x : ℕ). cells c.args.work.now (source x) c.args.s.fluents) e)
    c.copy_part.ensures.low (λ q l. c.copy_part.ensures.high q (omega (arith, c.requires.laid.0.wide))) c.name_beliefs.ensures
    (λ d l.
    part_behind c.args.s.fluents c.args.s.characters c.copy_part.ensures d l ∙
    ap (λ (x : ℕ). get_or c.args.work.now (source x + c.args.s.fluents + d) 0) e)
    (omega (arith, c.requires.laid.0)) c.requires.laid.0.wide (few c.args.work.now c.args.m c.args.s.nodes c.args.count c.requires.numbering.0)
