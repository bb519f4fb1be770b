-- A text as lines, and their answers.
use Rattle.std.specs.Prelude.{Bool, true, false, List, [], ◌∷◌, ℕ, ◌+◌, ◌==◌, min, length}
use Rattle.ascii.specs.Pick.{pick}
use Rattle.ascii.specs.Written.{newline}
use Rattle.answer.specs.declared.record.Answer.{Answer}
use Rattle.lines.specs.Line.{answer_of}

-- a byte in front of lines begins the first; where there is none, it is a line that no newline ends, and may count
unfoldable pub in_front : Bool → ℕ → List (List ℕ) → List (List ℕ)
in_front counts b [] = pick counts ((b ∷ []) ∷ []) []
in_front counts b (l ∷ ls) = (b ∷ l) ∷ ls

-- the lines of a text, without their newlines
unfoldable pub split : Bool → List ℕ → List (List ℕ)
split counts [] = []
split counts (b ∷ s) = pick (b == newline) ([] ∷ split counts s) (in_front counts b (split counts s))

-- a last line without newline counts if it has a byte
abbrev pub lines_of : List ℕ → List (List ℕ)
lines_of s = split true s

-- the lines that a newline ends
abbrev pub ended : List ℕ → List (List ℕ)
ended s = split false s

-- the bytes of some lines, newlines counted
unfoldable pub extent : List (List ℕ) → ℕ
extent [] = 0
extent (l ∷ ls) = length l + 1 + extent ls

-- how many bytes of a text its first lines are; the last line may have no newline
unfoldable pub spanned : List ℕ → List (List ℕ) → ℕ
spanned s ls = min (length s) (extent ls)

unfoldable pub answers_to : List (List ℕ) → List Answer
answers_to [] = []
answers_to (l ∷ ls) = answer_of l ∷ answers_to ls
