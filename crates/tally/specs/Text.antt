-- A tally as text: a line for each rule with its number and its three counts, and a line of the two others.
use Rattle.std.specs.Prelude.{ℕ, List, [], ◌∷◌, ◌++◌, take, drop}
use Rattle.answer.specs.Text.{numbers_text}
use Rattle.rules.specs.declared.rule.Rule.{Rule}
use Rattle.rules.specs.Facts.{facts, rules}

unfoldable pub lines_text : List Rule → List ℕ → List ℕ
lines_text [] others = numbers_text others
lines_text (r ∷ rs) counts = numbers_text ((facts r).number ∷ take 3 counts) ++ lines_text rs (drop 3 counts)

unfoldable pub tally_text : List ℕ → List ℕ
tally_text counts = lines_text rules counts

-- the bytes that it takes at most: 70 numbers of ten digits, and a byte behind each
abbrev pub tally_room : ℕ
tally_room = 770
