-- The classes of a byte or a code point. ASCII alone counts.
use Rattle.std.specs.Prelude.{Bool, true, false, ◌&&◌, ◌||◌, List, [], ◌∷◌, ℕ, ◌==◌, nat_le}
use Prim.Native.Char.{code}

unfoldable pub within : ℕ → ℕ → ℕ → Bool
within low high c = nat_le low c && nat_le c high

unfoldable pub is_digit : ℕ → Bool
is_digit c = within (code "0") (code "9") c

unfoldable pub is_letter : ℕ → Bool
is_letter c = within (code "A") (code "Z") c || within (code "a") (code "z") c

-- a letter or a digit
unfoldable pub is_plain : ℕ → Bool
is_plain c = is_digit c || is_letter c

-- each of a list
unfoldable pub all : (ℕ → Bool) → List ℕ → Bool
all p [] = true
all p (c ∷ l) = p c && all p l

-- one of a list
unfoldable pub among : ℕ → List ℕ → Bool
among c [] = false
among c (d ∷ l) = (d == c) || among c l
