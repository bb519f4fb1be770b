-- `figures::kind::sum_of` meets its contract. The invariant: the sum so far and what is left make the total, and each byte so far is a digit.
-- Assumes nothing.
use mathlib.Core.Path.{◌≡◌}
use mathlib.Core.Bool.{true}
use Prim.Native.Nat.{ℕ, ◌+◌, ◌*◌, ◌≤◌, ◌<◌}
use lib.ListN.{get_or, drop}
use Rattle.ascii.specs.Class.{is_digit}
use Rattle.figures.specs.Total.{total}
use Rattle.figures.specs.Figures.{adds}
use Rattle.figures.specs.Inner.{figure_by}
use Rattle.figures.proofs.kind.sum_of.Given as goal

abbrev pub invariant-loop-i : goal.invariant-loop-i
invariant-loop-i l =
    let adding = adds (figure_by l.kind).fold l.places in
    (l.sum ≤ 38654705664 * l.i)
    × (l.sum + total adding (drop l.i l.s) ≡ total adding l.s)
    × ((k : ℕ) → k < l.i → is_digit (get_or l.s k 0) ≡ true)
