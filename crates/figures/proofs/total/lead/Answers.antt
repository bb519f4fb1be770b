-- `figures::total::lead` meets its contract. Assumes nothing.
use native.Mathlib.Omega.{arith}
use Rattle.ascii.specs.Class.{is_digit}
use Rattle.ascii.proofs.Class.{all_at}
use Rattle.figures.proofs.Steps.{lead_odd, lead_even}
use Rattle.figures.proofs.total.lead.Goals as goal

pub part-requires : goal.part-requires
part-requires c = record { small = omega arith; digit = all_at is_digit _ 0 c.requires.digits (omega arith) }

pub returns-then-s-eq1 : goal.returns-then-s-eq1
returns-then-s-eq1 c =
    let a = c.args in
    record { exact = rw c.part.ensures.exact (lead_odd a.fold a.last a.before a.s.now (omega arith)); bound = omega arith }

pub returns : goal.returns
returns c =
    let a = c.args in
    record { exact = lead_even a.fold a.last a.before a.s.now (omega arith); bound = omega arith }
