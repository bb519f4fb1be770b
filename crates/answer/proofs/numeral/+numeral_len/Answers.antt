use Rattle.std.proofs.Common.{◌/◌, sym, arith}
use Rattle.answer.proofs.Numerals.{one_long, one_longer, numeral_few}
use Rattle.answer.proofs.numeral.+numeral_len.Goals as goal

pub overflow_add-result : goal.overflow_add-result
overflow_add-result t c = omega (arith, c.numeral_len.ensures, numeral_few (c.args.n / 10))

pub returns-then-n-ge10 : goal.returns-then-n-ge10
returns-then-n-ge10 t c = omega (arith, c.numeral_len.ensures, one_longer c.args.n c.if-n-ge10.true (omega arith))

pub returns : goal.returns
returns t c = sym (one_long c.args.n (omega arith))
