-- `text::area::put` meets its contract: the bytes before k stand in the area.
use mathlib.Core.Path.{◌≡◌}
use lib.ListN.{take}
use Rattle.ascii.specs.Area.{put}
use Rattle.text.proofs.area.put.Given as goal

abbrev pub invariant-loop-k : goal.invariant-loop-k
invariant-loop-k l = l.out ≡ put l.fn.out l.n (take l.k l.bytes)
