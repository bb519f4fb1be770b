-- `text::read::readable` meets its contract: what is left, from a place o on, is as readable as the whole.
use mathlib.Core.Path.{◌≡◌}
use Prim.Native.Nat.{ℕ}
use lib.ListN.{length}
use Rattle.text.specs.Content.{content_from}
use Rattle.text.specs.Answer.{why_refused, readable_of}
use Rattle.text.proofs.read.readable.Given as goal

abbrev pub invariant-loop-point : goal.invariant-loop-point
invariant-loop-point l = (o : ℕ) × (why_refused (content_from o 0 l.rest) ≡ readable_of l.s)

abbrev pub decreases-loop-point : goal.decreases-loop-point
decreases-loop-point l = length l.rest
