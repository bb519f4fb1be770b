-- `stream::window::feed` answers and counts the whole lines for which there is room.
use Rattle.std.proofs.Common.{◌-◌}
use Rattle.stream.proofs.Windows.{Streaming}
use Rattle.stream.proofs.window.feed.Given as goal

abbrev pub invariant-loop : goal.invariant-loop
invariant-loop l = Streaming l.s l.initial.counts l.counts l.initial.out l.out l.more (l.end - l.counter) l.used l.put
