-- The steps, and the author's line behind them. Assumes nothing.
use Rattle.std.proofs.Common.{arith}
use Rattle.ending.proofs.Pieces.{put-append}
use Rattle.ending.proofs.AnswerText.{listed_as, told_as}
use Rattle.ending.proofs.text.put_answer.Goals as goal

pub returns-in-Ok : goal.returns-in-Ok
returns-in-Ok c =
    let l = listed_as _ c.args.list.now c.in-Ok.is c.requires.listed in (
      told_as _ c.args.list.now c.in-Ok.is (put-append c.put_steps-end.ensures.0 c.put_worths.ensures.0),
      omega (arith, l.1, c.put_steps-end.ensures.1, c.put_worths.ensures.1),
    )
