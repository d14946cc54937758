-- At most 20 digits. Assumes nothing.
use Rattle.std.proofs.Common.{arith}
use Rattle.ending.proofs.Pieces.{digits_most}
use Rattle.ending.proofs.text.put_number.Goals as goal

pub returns : goal.returns
returns c = (c.put_digits.ensures, omega (arith, digits_most 20 c.args.n, c.put_digits.ensures.ends))
