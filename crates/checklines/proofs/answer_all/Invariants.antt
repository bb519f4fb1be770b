-- `checklines::answer_all` leaves room in the window before each turn.
use Rattle.std.proofs.Common.{length, ◌<◌}
use Rattle.checklines.proofs.answer_all.Given as goal

abbrev pub invariant-loop : goal.invariant-loop
invariant-loop g l = l.kept < length l.buf
