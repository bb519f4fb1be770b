use Rattle.std.proofs.Common.{arith}
use Rattle.answer.proofs.Numerals.{one_long, put_digit, tenth_fits, digit_fits, put_next}
use Rattle.answer.proofs.numeral.+put_digits.Goals as goal

pub bounds-out-at : goal.bounds-out-at
bounds-out-at t c = omega (arith, c.requires, one_long c.args.n (omega arith))

pub returns-then-n-lt10 : goal.returns-then-n-lt10
returns-then-n-lt10 t c = rw c.last_digit.ensures (put_digit c.args.out.now c.args.at c.args.n c.requires (omega arith))

pub put_digits-k-requires : goal.put_digits-k-requires
put_digits-k-requires t c = (omega arith, tenth_fits _ _ c.args.n (omega arith) (omega arith) c.requires)

pub bounds-out-k : goal.bounds-out-k
bounds-out-k t c = digit_fits c.args.n (omega arith) (omega arith) c.requires c.put_digits-k.ensures

pub overflow_add-result-2 : goal.overflow_add-result-2
overflow_add-result-2 t c =
    omega (arith, digit_fits c.args.n (omega arith) (omega arith) c.requires c.put_digits-k.ensures, c.put_digits-k.auto.out)

pub returns : goal.returns
returns t c = rw c.last_digit-2.ensures (put_next c.args.n (omega arith) (omega arith) c.requires c.put_digits-k.ensures)
