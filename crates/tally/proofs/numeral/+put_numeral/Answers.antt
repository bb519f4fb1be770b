use Rattle.std.proofs.Common.{arith}
use Rattle.answer.proofs.Numerals.{one_long, put_digit, tenth_fits, digit_fits, put_next}
use Rattle.tally.proofs.numeral.+put_numeral.Goals as goal

pub bounds-out-at : goal.bounds-out-at
bounds-out-at t c = omega (arith, c.requires, one_long c.args.n c.if-n-lt10.true)

pub returns-then-n-lt10 : goal.returns-then-n-lt10
returns-then-n-lt10 t c = rw c.last_digit.ensures (put_digit c.args.out.now c.args.at c.args.n c.requires c.if-n-lt10.true)

pub put_numeral-k-requires : goal.put_numeral-k-requires
put_numeral-k-requires t c = (omega arith, tenth_fits _ _ c.args.n c.if-n-lt10.false (omega arith) c.requires)

pub bounds-out-k : goal.bounds-out-k
bounds-out-k t c = digit_fits c.args.n c.if-n-lt10.false (omega arith) c.requires c.put_numeral-k.ensures

pub overflow_add-result-2 : goal.overflow_add-result-2
overflow_add-result-2 t c =
    omega (arith, digit_fits c.args.n c.if-n-lt10.false (omega arith) c.requires c.put_numeral-k.ensures, c.put_numeral-k.auto.out)

pub returns : goal.returns
returns t c = rw c.last_digit-2.ensures (put_next c.args.n c.if-n-lt10.false (omega arith) c.requires c.put_numeral-k.ensures)
