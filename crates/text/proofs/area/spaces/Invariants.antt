-- The bytes before k are spaces.
use Rattle.text.specs.Inner.{Blank}
use Rattle.text.proofs.area.spaces.Given as goal

abbrev pub invariant-loop-k : goal.invariant-loop-k
invariant-loop-k l = Blank l.s l.k
