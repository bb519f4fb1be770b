-- `text::area::put_dark` meets its contract: the bytes before k are such a run.
use Rattle.text.specs.Inner.{IsRun}
use Rattle.text.proofs.area.put_dark.Given as goal

abbrev pub invariant-loop-k : goal.invariant-loop-k
invariant-loop-k l = IsRun l.s l.fn.out l.n l.k l.out
