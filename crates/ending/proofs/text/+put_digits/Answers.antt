-- The digits but the last, put by the same function, and the last. Assumes nothing.
use Rattle.std.proofs.Common.{arith, ◌-◌, ◌/◌}
use Rattle.ending.proofs.Pieces.{put_none, put_single, put_more, put-length, digits_most}
use Rattle.ending.proofs.text.+put_digits.Goals as goal

pub returns-then-most-eq0 : goal.returns-then-most-eq0
returns-then-most-eq0 t c = put_none _ _ (omega (arith, c.if-most-eq0.true))

pub returns-then-n-lt10 : goal.returns-then-n-lt10
returns-then-n-lt10 t c =
    put_single _ _ (omega (arith, c.if-most-eq0.false)) (omega (arith, c.if-n-lt10.true)) c.digit.ensures c.put.ensures

pub put-requires-2 : goal.put-requires-2
put-requires-2 t c =
    omega (
      arith,
      digits_most (c.args.most - 1) (c.args.n / 10),
      c.put_digits-last.ensures.ends,
      put-length c.put_digits-last.ensures,
      c.requires,
      c.if-most-eq0.false,
    )

pub returns : goal.returns
returns t c =
    put_more _ _ (omega (arith, c.if-most-eq0.false)) (omega (arith, c.if-n-lt10.false)) c.put_digits-last.ensures
    c.digit-2.ensures c.put-2.ensures
