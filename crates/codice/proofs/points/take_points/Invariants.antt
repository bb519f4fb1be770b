-- `codice::points::take_points` meets its contract: the loop's invariant is the state of the walk. Assumes nothing.
use Rattle.codice.proofs.Walk.{Walk}
use Rattle.codice.proofs.points.take_points.Given as goal

abbrev pub invariant-loop-n : goal.invariant-loop-n
invariant-loop-n l = Walk l.s l.codes l.places l.n l.at
