use mathlib.Core.Path.{sym, ◌∙◌}
use native.Mathlib.Omega.{arith}
use Rattle.text.proofs.Run.{run_none, run_next}
use Rattle.text.proofs.area.put_dark.Goals as goal

pub loop-k-init : goal.loop-k-init
loop-k-init c = run_none _ _ _

pub loop-k-preserved : goal.loop-k-preserved
loop-k-preserved c = run_next c.loop-k.invariant c.loop-k-test.true (sym c.is_dark_byte.ensures ∙ c.if-not-is_dark_byte.false) (omega arith)
