-- Five pieces, one after the other. Assumes nothing.
use Rattle.std.proofs.Common.{arith}
use Rattle.ending.specs.Text.{line}
use Rattle.ending.proofs.Pieces.{put-append}
use Rattle.ending.proofs.text.put_worths.Goals as goal

pub returns : goal.returns
unfolding line
returns c = (
  put-append c.put_word-end.ensures (put-append c.put_number-end.ensures.0
      (put-append c.put-end.ensures (put-append c.put_number-end-2.ensures.0 c.put.ensures))),
  omega (
    arith,
    c.put_word-end.ensures.ends,
    c.put_number-end.ensures.1,
    c.put-end.ensures.ends,
    c.put_number-end-2.ensures.1,
    c.put.ensures.ends,
  ),
)
