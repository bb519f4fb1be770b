-- `ascii::same_bytes` meets its contract: both decide whether two texts are equal. Assumes nothing.
use Rattle.std.proofs.Common.{rules, arith, tests}
use Rattle.std.proofs.lemmas.Iterator.{YieldsList-from_slice, YieldsList-from_zip, same_from_all}
use Rattle.std.proofs.lemmas.Bool.Decides.{same_from_decides, nat_tests}
use Rattle.std.proofs.lemmas.Slice.Eq.{compares_Decides}
use Rattle.ascii.specs.Written.{same_bytes}
use Rattle.ascii.proofs.Same.{same_length}
use Rattle.ascii.proofs.same_bytes.Goals as goal

pub returns-then-a-b : goal.returns-then-a-b
returns-then-a-b c =
    let a = c.args.a.now in
    let b = c.args.b.now in
    same_from_decides c.all.result (same_bytes a b)
    (same_from_all c.all.new.self _ _ a b c.all.ensures.ran (YieldsList-from_zip (YieldsList-from_slice a cc) (YieldsList-from_slice b cc)) c.if-a-b.true
    (λ x q k. search (rules, tests)) (λ x q k. search (rules, tests)))
    (compares_Decides same_bytes (search rules) a b)

pub returns-else-a-b : goal.returns-else-a-b
returns-else-a-b c = rw (same_length c.args.a.now c.args.b.now c.if-a-b.false) (grind (arith, nat_tests))
