-- `stream::window::close` writes the end.
use native.Mathlib.Omega.{arith}
use Rattle.stream.proofs.Windows.{close_right}
use Rattle.stream.proofs.window.close.Goals as goal

pub last-put-requires : goal.last-put-requires
last-put-requires c = record { one_line = c.requires.one_line; room = omega arith }

pub returns : goal.returns
returns c = close_right c.args.s.now c.args.counts.now c.last-put.new.counts c.requires.room c.last-put.ensures c.put_text.ensures
