use mathlib.Core.Path.{sym, ◌∙◌}
use Rattle.std.proofs.Common.{arith}
use Rattle.codice.proofs.Walk.{stop, fits, full}
use Rattle.codice.proofs.points.take_points.Goals as goal

pub returns-in_err-point : goal.returns-in_err-point
returns-in_err-point c = rw c.from_residual.ensures (stop _ _ _ _ _ c.loop-n.invariant c.if-s-at.false (sym c.in_err-point.was ∙ c.decode.ensures))

pub overflow_add-at : goal.overflow_add-at
overflow_add-at c = let z = fits _ _ _ _ _ c.loop-n.invariant _ _ (sym c.in_ok-point.was ∙ c.decode.ensures) in omega arith

pub returns-else-s-at-2 : goal.returns-else-s-at-2
returns-else-s-at-2 c = full _ _ _ _ _ c.loop-n.invariant (omega arith) c.if-s-at-2.false
