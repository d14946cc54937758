-- The sizes that are stored and those that are left are what the whole reads. Assumes nothing.
use Rattle.std.proofs.Common.{rules, arith, refl, sym, ap, ◌∙◌, length-set}
use Rattle.std.proofs.lemmas.Result.{IfOk-from_err}
use Rattle.pack.specs.Reading.{many}
use Rattle.pack.specs.Number.{between}
use Rattle.pack.specs.Duties.Said.{said}
use Rattle.pack.specs.Laws.Number.{between_within}
use Rattle.pack.specs.Laws.Runs.{mapped_id, runs_start, stored_one, stored_all}
use Rattle.pack.proofs.head.read_domains.Goals as goal

pub loop-i-init : goal.loop-i-init
loop-i-init c =
    (sym (mapped_id (many (between 1 129 3) c.args.fluents c.args.s.now c.args.at)) ∙ runs_start _ _ _ (λ rest. rest) c.args.fluents c.args.s.now c.args.at, refl)

pub returns-in_err-size : goal.returns-in_err-size
returns-in_err-size c =
    let one = stored_one (between 1 129 3) c.loop-i.sizes c.loop-i.i c.args.fluents c.args.s.now c.loop-i.n c.loop-i-test.true (omega (arith, c.loop-i.invariant.1, c.loop-i-test.true, c.requires)) in
    record { reads = search (rules, c.loop-i.invariant.0, one, c.read_between.ensures, c.in_err-size.was); count = IfOk-from_err _ _ c.from_residual.ensures.0 }

pub overflow_cast-sizes : goal.overflow_cast-sizes
overflow_cast-sizes c =
    omega (arith, (between_within 1 129 3 _ _ _ _ (c.read_between.ensures ∙ ap said c.in_ok-size.was)).1)

pub loop-i-preserved : goal.loop-i-preserved
loop-i-preserved c =
    let one = stored_one (between 1 129 3) c.loop-i.sizes c.loop-i.i c.args.fluents c.args.s.now c.loop-i.n c.loop-i-test.true (omega (arith, c.loop-i.invariant.1, c.loop-i-test.true, c.requires)) in
    (search (rules, c.loop-i.invariant.0, one, c.read_between.ensures, c.in_ok-size.was), simp length-set c.loop-i.invariant.1)

pub returns : goal.returns
returns c =
    record { reads = c.loop-i.invariant.0 ∙ stored_all _ c.loop-i.sizes c.args.fluents c.loop-i.i _ _ c.loop-i-test.false c.loop-i.auto.i-end; count = refl }
