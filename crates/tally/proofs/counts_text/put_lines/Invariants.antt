-- `tally::counts_text::put_lines` stores a line for each rule, and the others.
use Rattle.tally.proofs.Texts.{Laying}
use Rattle.tally.proofs.counts_text.put_lines.Given as goal

abbrev pub invariant-loop-i : goal.invariant-loop-i
invariant-loop-i l = Laying l.counts l.initial.out l.at l.out l.end l.i
