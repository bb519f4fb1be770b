-- The whole program: an input's lines are fed to a fresh tally; the output is the answers to them and then the text of the tally.
use Rattle.std.specs.Prelude.{List, ◌++◌, ℕ}
use Rattle.answer.specs.Answers.{in_turn}
use Rattle.answer.specs.Text.{answer_text}
use Rattle.lines.specs.Lines.{lines_of}
use Rattle.tally.specs.Tally.{fresh, replies, after}
use Rattle.tally.specs.Text.{tally_text}

-- the text of the answers to lines that are fed to a tally
abbrev pub answers_text : List ℕ → List (List ℕ) → List ℕ
answers_text counts ls = in_turn answer_text (replies counts ls)

-- and then the text of the tally
abbrev pub told : List ℕ → List (List ℕ) → List ℕ
told counts ls = answers_text counts ls ++ tally_text (after counts ls)

abbrev pub output : List ℕ → List ℕ
output s = told fresh (lines_of s)
