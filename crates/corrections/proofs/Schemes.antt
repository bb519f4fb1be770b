-- A scheme by its length and its bytes. Assumes nothing.
use mathlib.Core.Path.{◌≡◌, ap}
use mathlib.Core.List.{List, [], ◌∷◌}
use Prim.Native.Nat.{ℕ}
use lib.ListN.{length, get_or}
use Rattle.std.specs.Prelude.{None}
use Rattle.ascii.proofs.Same.{same_length, four}
use Rattle.corrections.specs.declared.five.Five.TheVariants.{Gln, Norway, Belgium, Sweden, Australia}
use Rattle.corrections.specs.Five.{scheme_of, five_of}

-- its four bytes, one by one
pub at_four : (s : List ℕ) → length s ≡ 4 → five_of s ≡ five_of (get_or s 0 0 ∷ get_or s 1 0 ∷ get_or s 2 0 ∷ get_or s 3 0 ∷ [])
at_four s n = ap five_of (four s n)

-- every scheme has four
pub at_none : (s : List ℕ) → (length s ≡ 4 → ⊥) → five_of s ≡ None
unfolding five_of
at_none s n =
    rw (
      same_length s (scheme_of Gln) n,
      same_length s (scheme_of Norway) n,
      same_length s (scheme_of Belgium) n,
      same_length s (scheme_of Sweden) n,
      same_length s (scheme_of Australia) n,
    )
