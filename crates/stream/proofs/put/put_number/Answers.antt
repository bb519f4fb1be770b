-- `stream::put::put_number` stores a number below 1,000 in decimal.
use native.Mathlib.Omega.{arith}
use lib.ListN.{length-set}
use Rattle.stream.proofs.Texts.{put_one, put_two, put_three}
use Rattle.stream.proofs.put.put_number.Goals as goal

pub returns-then-n-lt10 : goal.returns-then-n-lt10
returns-then-n-lt10 c = rw c.digit.ensures (put_one c.args.out.now c.args.at c.args.n (omega arith) c.if-n-lt10.true)

pub bounds-out-k : goal.bounds-out-k
bounds-out-k c = simp length-set (omega arith)

pub returns-then-tens-lt10 : goal.returns-then-tens-lt10
returns-then-tens-lt10 c = rw (c.digit-then-tens-lt10.ensures, c.digit-low.ensures) (put_two c.args.out.now c.args.at c.args.n (omega arith) c.if-n-lt10.false c.if-tens-lt10.true)

pub bounds-out-k-2 : goal.bounds-out-k-2
bounds-out-k-2 c = simp length-set (omega arith)

pub bounds-out-m : goal.bounds-out-m
bounds-out-m c = simp length-set (omega arith)

pub returns : goal.returns
returns c = rw (c.digit-3.ensures, c.digit-2.ensures, c.digit-low.ensures) (put_three c.args.out.now c.args.at c.args.n (omega arith) c.if-n-lt10.false c.if-tens-lt10.false (omega arith))
