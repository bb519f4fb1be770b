use mathlib.Core.Path.{sym}
use native.Mathlib.Omega.{arith}
use Rattle.ascii.proofs.Area.{put_nil}
use Rattle.text.proofs.Padded.{store}
use Rattle.text.proofs.Run.{put_next}
use Rattle.text.proofs.area.put.Goals as goal

pub returns-in-len1 : goal.returns-in-len1
returns-in-len1 c = store _ _ _ c.in-len1.len_at_least c.in-len1.len_below (omega arith)

pub loop-k-init : goal.loop-k-init
loop-k-init c = sym (put_nil _ _)

pub loop-k-preserved : goal.loop-k-preserved
loop-k-preserved c = put_next _ _ _ _ _ c.loop-k.invariant c.loop-k-test.true (omega arith)
