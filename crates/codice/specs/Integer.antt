-- An integer text, over code points: after trimming, at most one + or - and then one or more digits.
use Rattle.std.specs.Prelude.{Bool, true, false, ◌&&◌, ◌||◌, List, [], ◌∷◌, ℕ, ◌==◌}
use Prim.Native.Char.{code}
use Rattle.ascii.specs.Pick.{pick}
use Rattle.ascii.specs.Class.{is_digit, all}
use Rattle.text.specs.White.{is_white}

unfoldable pub is_empty : List ℕ → Bool
is_empty [] = true
is_empty (c ∷ l) = false

-- without the points at its start that pass the test
unfoldable pub past : (ℕ → Bool) → List ℕ → List ℕ
past p [] = []
past p (c ∷ l) = pick (p c) (past p l) (c ∷ l)

-- without the white points at its end
unfoldable pub trim_end : List ℕ → List ℕ
trim_end [] = []
trim_end (c ∷ l) = pick (is_white c && is_empty (trim_end l)) [] (c ∷ trim_end l)

-- without the white points at both ends
abbrev pub trim : List ℕ → List ℕ
trim l = trim_end (past is_white l)

unfoldable pub is_sign : ℕ → Bool
is_sign c = (c == code "+") || (c == code "-")

-- without one sign
unfoldable pub unsigned : List ℕ → List ℕ
unsigned [] = []
unsigned (c ∷ l) = pick (is_sign c) l (c ∷ l)

-- one or more digits
unfoldable pub one_or_more_digits : List ℕ → Bool
one_or_more_digits [] = false
one_or_more_digits (c ∷ l) = all is_digit (c ∷ l)

unfoldable pub integer_text : List ℕ → Bool
integer_text l = one_or_more_digits (unsigned (trim l))
