-- The number that letters and digits spell.
use Rattle.std.specs.Prelude.{List, [], ◌∷◌, ◌++◌, ℕ, ◌+◌, ◌-◌, ◌%◌, nat_le, nat_lt, take, drop}
use Prim.Native.Char.{code}
use Rattle.ascii.specs.Pick.{pick}
use Rattle.ascii.specs.Class.{is_digit}
use Rattle.figures.specs.Total.{number}
use Rattle.figures.specs.Completing.{one_digit, two_digits}

-- A and a are read as 10, Z and z as 35
unfoldable pub letter_value : ℕ → ℕ
letter_value b = pick (nat_le b (code "Z")) (b - code "A") (b - code "a") + 10

-- a digit is read as itself
unfoldable pub value_of : ℕ → ℕ
value_of b = pick (is_digit b) (b - code "0") (letter_value b)

-- a value as text: one digit for a digit, two for a letter
unfoldable pub written : ℕ → List ℕ
written v = pick (nat_lt v 10) (one_digit v) (two_digits v)

-- a text with its letters replaced by digits
unfoldable pub spell : List ℕ → List ℕ
spell [] = []
spell (b ∷ bs) = written (value_of b) ++ spell bs

-- the number of a text: what stands from place `from` on, then the first four, with the letters replaced by digits
unfoldable pub spelled : ℕ → List ℕ → ℕ
spelled from s = number (spell (drop from s ++ take 4 s))

-- what it leaves by 97
unfoldable pub remainder : ℕ → List ℕ → ℕ
remainder from s = spelled from s % 97
