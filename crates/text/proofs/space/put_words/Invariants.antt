-- `text::space::put_words` meets its contract: the loop's invariant is the state of the walk over the points.
use lib.ListN.{length}
use Rattle.text.proofs.Walk.{State}
use Rattle.text.proofs.space.put_words.Given as goal

abbrev pub invariant-loop-due : goal.invariant-loop-due
invariant-loop-due l = State l.spaced l.s l.due l.n l.rest l.out

abbrev pub decreases-loop-due : goal.decreases-loop-due
decreases-loop-due l = length l.rest
