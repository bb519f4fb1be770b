-- The rows of the withdrawn codes, as the code goes through them. Assumes nothing.
use mathlib.Core.Path.{◌≡◌, refl, ap}
use mathlib.Core.Bool.{Bool, true, false, ◌&&◌}
use mathlib.Core.List.{List, [], ◌∷◌, map}
use Prim.Native.Nat.{ℕ, zero, suc, ◌+◌, ◌≤◌, ◌<◌}
use native.Mathlib.Numerals.{add-one}
use borrow.Author.Tests.{eqb-true}
use lib.Dec.{eqb}
use lib.ListN.{length, get_or, drop, drop_of_length-le}
use lib.Seq.{drop-cons}
use Rattle.std.specs.Prelude.{Option, None, Some}
use Rattle.ascii.specs.Pick.{pick}
use Rattle.ascii.specs.Written.{same_bytes}
use Rattle.ascii.proofs.Tests.{and_true}
use Rattle.ascii.proofs.Same.{same_length}
use Rattle.guard.specs.declared.code.Withdrawal.{Withdrawal}
use Rattle.guard.specs.Codes.{Row, rows, withdrawn_in, withdrawn_of}

-- a row as the code has it
abbrev pub Pair : Type 0
Pair = List ℕ × Option (List ℕ)

abbrev pub row_of : Pair → Row
row_of p = record { code = p.0; successor = p.1 }

-- one row, and the end
module _ (l : List Pair) (i : ℕ) (d : Pair) (code : List ℕ) where
  pub row_hit : i < length l → same_bytes code (get_or l i d).0 ≡ true
      → Some (record { successor = (get_or l i d).1 }) ≡ withdrawn_in (map row_of (drop i l)) code
  unfolding withdrawn_in pick
  row_hit h e = rw (drop-cons l i d h, e)

  pub row_miss : i < length l → same_bytes code (get_or l i d).0 ≡ false
      → withdrawn_in (map row_of (drop i l)) code ≡ withdrawn_in (map row_of (drop (i + 1) l)) code
  unfolding withdrawn_in pick
  row_miss h e = rw (add-one, drop-cons l i d h, e)

  pub row_end : length l ≤ i → withdrawn_in (map row_of (drop i l)) code ≡ None
  unfolding withdrawn_in
  row_end h = rw (drop_of_length-le l h)

-- ---- a code that is not four bytes is not withdrawn

abbrev four : List Row → Bool
four [] = true
four (row ∷ l) = eqb (length row.code) 4 && four l

not_in : (l : List Row) (code : List ℕ) → four l ≡ true → (length code ≡ 4 → ⊥) → withdrawn_in l code ≡ None
unfolding withdrawn_in pick
not_in [] code e h = refl
not_in (row ∷ l) code e h =
    let p = and_true (eqb (length row.code) 4) (four l) e in
    let n = eqb-true (length row.code) 4 p.0 in
    rw (same_length code row.code (λ g. h (cc))) (not_in l code p.1 h)

pub four_bytes : (code : List ℕ) → (length code ≡ 4 → ⊥) → withdrawn_of code ≡ None
unfolding withdrawn_of
four_bytes code h = not_in rows code refl h
