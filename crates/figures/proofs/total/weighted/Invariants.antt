-- `figures::total::weighted` meets its contract. The invariant: the sum so far is the total of the last digits, and those before are left. Assumes nothing.
use Prim.Native.Nat.{◌-◌, ◌*◌, ◌≤◌}
use mathlib.Core.Path.{◌≡◌}
use mathlib.Core.List.{◌++◌}
use lib.ListN.{length, drop}
use Rattle.std.specs.Iterator.Adapters.{zip_first, zip_second, rev_source}
use Rattle.std.specs.Slice.Iter.{iter_rest}
use Rattle.figures.specs.Total.{total}
use Rattle.figures.specs.Figures.{adds}
use Rattle.figures.proofs.total.weighted.Given as goal

abbrev pub invariant-loop-b : goal.invariant-loop-b
invariant-loop-b l =
    let left = iter_rest (rev_source (zip_first l.b-iterator)) in
    (length left ≤ length l.s)
    × (left ++ drop (length left) l.s ≡ l.s)
    × (drop (length l.s - length left) l.weights ≡ iter_rest (zip_second l.b-iterator))
    × (l.sum ≤ 38654705664 * (length l.s - length left))
    × (l.sum ≡ total (adds l.fold l.weights) (drop (length left) l.s))
