-- `corrections::entries::put_corrections` meets its contract.
use lib.ListN.{length}
use Rattle.figures.specs.Changes.{exchanged}
use Rattle.corrections.specs.Five.{rule_of}
use Rattle.corrections.specs.Corrections.{if_accepted, fixes_at}
use Rattle.corrections.proofs.Areas.{Filled}
use Rattle.corrections.proofs.entries.put_corrections.Given as goal

abbrev pub invariant-loop-i : goal.invariant-loop-i
invariant-loop-i l = Filled (fixes_at (rule_of l.number.kind) l.number.digits.now) (length l.number.digits.now) l.initial.out 0 l.i l.at l.out

abbrev pub invariant-loop-i-2 : goal.invariant-loop-i-2
invariant-loop-i-2 l = Filled (λ j. if_accepted (rule_of l.number.kind) (exchanged l.number.digits.now j)) (length l.number.digits.now) l.initial.out l.initial.at l.i l.at l.out
