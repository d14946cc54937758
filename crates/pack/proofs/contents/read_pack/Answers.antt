-- The limit of length is tested first, the end last, and in between the parts are read. Assumes nothing.
use Rattle.std.proofs.Common.{rules, ◌∙◌}
use Rattle.std.proofs.lemmas.Result.{IfOk-from_err}
use Rattle.pack.specs.Laws.PartsFound.{pack-long, pack-told, pack_all, ended_passed, ended_early}
use Rattle.pack.proofs.contents.read_pack.Goals as goal

pub returns-then-s-gt-LONGEST : goal.returns-then-s-gt-LONGEST
returns-then-s-gt-LONGEST c = record {
  answer = search (rules, pack-long c.args.s.now c.if-s-gt-LONGEST.true, c.at.ensures.0, c.at.ensures.1);
  found = λ p e. tt;
}

pub returns-in_err-contents : goal.returns-in_err-contents
returns-in_err-contents c =
    let told = pack-told c.args.s.now _ c.if-s-gt-LONGEST.false c.in_err-contents.ensures.answer in
    record { answer = search (rules, told); found = λ p e. IfOk-from_err _ _ c.from_residual.ensures.0 }

pub returns-then-after-s : goal.returns-then-after-s
returns-then-after-s c =
    let told = pack-told c.args.s.now _ c.if-s-gt-LONGEST.false c.in_ok-contents.ensures.answer ∙ ended_early _ _ _ c.if-after-s.true in
    record { answer = search (rules, told, c.at-then-after-s.ensures.0, c.at-then-after-s.ensures.1); found = λ p e. tt }

pub returns : goal.returns
returns c =
    let told = pack-told c.args.s.now _ c.if-s-gt-LONGEST.false c.in_ok-contents.ensures.answer ∙ ended_passed _ _ _ c.if-after-s.false in
    record { answer = told; found = λ p e. c.in_ok-contents.ensures.found p _ (pack_all c.args.s.now c.if-s-gt-LONGEST.false p e) }
