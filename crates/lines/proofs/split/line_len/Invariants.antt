-- The bytes before i are no newline.
use Rattle.std.proofs.Common.{◌≡◌, ◌+◌, drop}
use Rattle.lines.specs.Inner.{upto}
use Rattle.lines.proofs.split.line_len.Given as goal

abbrev pub invariant-loop-i : goal.invariant-loop-i
invariant-loop-i l = upto l.s ≡ l.i + upto (drop l.i l.s)
