use mathlib.Core.Path.{◌≡◌, sym, ◌∙◌}
use mathlib.Core.Bool.{Bool, ◌||◌, or_assoc, or-false}
use mathlib.Core.List.{List}
use Prim.Native.Nat.{ℕ, ◌+◌, ◌≤◌, ◌<◌}
use native.Mathlib.Numerals.{add-one}
use native.Mathlib.Omega.{arith}
use Rattle.std.specs.Prelude.{nat_eq, slice_index}
use lib.ListN.{length, drop, drop_of_length-le}
use lib.Seq.{drop-cons}
use Rattle.ascii.specs.Class.{among}
use Rattle.ascii.proofs.among.Goals as goal

module _ (c : ℕ) (l : List ℕ) (found : Bool) (i : ℕ) (e : (found || among c (drop i l)) ≡ among c l) where
  step : i < length l → among c (drop i l) ≡ (nat_eq (slice_index l i) c || among c (drop (i + 1) l))
  unfolding among
  step h = rw (add-one, drop-cons l i 0)

  next : i < length l → ((found || nat_eq (slice_index l i) c) || among c (drop (i + 1) l)) ≡ among c l
  next h = or_assoc found _ _ ∙ (rw (step h) at e)

  done : length l ≤ i → found ≡ among c l
  unfolding among
  done h = sym (or-false found) ∙ (rw (drop_of_length-le l h) at e)

pub loop-d-preserved : goal.loop-d-preserved
loop-d-preserved c = let d = c.loop-d in next _ _ d.found d.d-index d.invariant (omega arith)

pub returns : goal.returns
returns c = let d = c.loop-d in done _ _ d.found d.d-index d.invariant (omega arith)
