-- Numbers as text: in decimal, a space between two and a newline behind the last.
use Rattle.std.specs.Prelude.{List, [], ◌∷◌, ◌++◌, ℕ, zero, suc, ◌+◌, ◌/◌, ◌%◌, ltb}
use Prim.Native.Char.{code}
use Rattle.ascii.specs.Pick.{pick}
use Rattle.ascii.specs.Written.{space, newline}
use Rattle.answer.specs.declared.record.Answer.{Answer}
use Rattle.answer.specs.Answers.{answer_numbers}

abbrev pub digit : ℕ → ℕ
digit d = code "0" + d

-- a number of at most so many digits
unfoldable pub in_digits : ℕ → ℕ → List ℕ
in_digits zero n = []
in_digits (suc most) n = pick (ltb n 10) (digit n ∷ []) (in_digits most (n / 10) ++ digit (n % 10) ∷ [])

-- a number of 32 bits, which has at most ten
unfoldable pub numeral : ℕ → List ℕ
numeral n = in_digits 10 n

-- a number and the byte behind it
unfoldable pub field : ℕ → ℕ → List ℕ
field n behind = numeral n ++ behind ∷ []

unfoldable pub numbers_text : List ℕ → List ℕ
numbers_text [] = []
numbers_text (n ∷ []) = field n newline
numbers_text (n ∷ m ∷ ns) = field n space ++ numbers_text (m ∷ ns)

unfoldable pub answer_text : Answer → List ℕ
answer_text a = numbers_text (answer_numbers a)

-- the bytes that it takes at most: four numbers of three digits, and a byte behind each
abbrev pub answer_room : ℕ
answer_room = 16
