-- `figures::total::alternating` meets its contract. The invariant: the sum so far and what is left make the total. Assumes nothing.
use Prim.Native.Nat.{◌+◌, ◌*◌, ◌%◌, ◌≤◌}
use mathlib.Core.Path.{◌≡◌}
use mathlib.Core.List.{[], ◌∷◌}
use lib.ListN.{length, drop}
use Rattle.figures.specs.Total.{total}
use Rattle.figures.specs.Figures.{adds}
use Rattle.figures.proofs.total.alternating.Given as goal

abbrev pub invariant-loop-a : goal.invariant-loop-a
invariant-loop-a l =
    (l.sum ≤ 54 * l.a-index + 27)
    × (l.sum + total (adds l.fold (l.last ∷ l.before ∷ [])) (drop (length l.s % 2 + 2 * l.a-index) l.s) ≡ total (adds l.fold (l.last ∷ l.before ∷ [])) l.s)
