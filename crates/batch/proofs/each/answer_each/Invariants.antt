-- `batch::each::answer_each` answers the lines for which there is room.
use Rattle.std.proofs.Common.{◌-◌, length}
use denote.Param.Always.{always_mut}
use Rattle.std.specs.Fn.{CalledAt}
use Rattle.batch.proofs.Batches.{Batching}
use Rattle.batch.proofs.each.answer_each.Given as goal

abbrev pub invariant-loop-used : goal.invariant-loop-used
invariant-loop-used g l = record {
  callable : always_mut g.F.FnMut l.answer;
  batching : Batching (CalledAt g.F.FnMut) l.initial.answer l.answer l.s l.initial.out l.out l.used l.put;
}

abbrev pub decreases-loop-used : goal.decreases-loop-used
decreases-loop-used g l = length l.s - l.used
