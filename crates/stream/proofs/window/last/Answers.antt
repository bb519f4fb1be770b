-- `stream::window::last` answers a last line that no newline ends.
use Rattle.std.proofs.Common.{arith}
use Rattle.stream.proofs.Windows.{last_none, last_line}
use Rattle.stream.proofs.window.last.Goals as goal

pub returns-then-is_empty : goal.returns-then-is_empty
returns-then-is_empty c = last_none c.args.s.now c.args.counts.now c.args.out.now (grind arith)

pub returns : goal.returns
returns c = last_line c.args.s.now c.args.counts.now c.args.out.now c.requires.one_line (grind arith) c.left-more.ensures.exact c.put_line.ensures
