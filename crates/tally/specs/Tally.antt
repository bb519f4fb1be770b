-- A tally is fed lines: each is answered, and one count goes up.
use Rattle.std.specs.Prelude.{None, ℕ, ◌+◌, Bool, List, [], ◌∷◌, replicate, sum, nat_le, slice_index, slice_set}
use Rattle.ascii.specs.Pick.{pick}
use Rattle.answer.specs.declared.record.Answer.{Answer}
use Rattle.answer.specs.declared.reason.Reason.TheVariants.{Full}
use Rattle.answer.specs.Answers.{refused}
use Rattle.lines.specs.Line.{answer_of}
use Rattle.tally.specs.declared.counts.Fed.{Fed}
use Rattle.tally.specs.Cell.{tally_size, cell_of}

abbrev pub fresh : List ℕ
fresh = replicate tally_size 0

abbrev pub sum_of : List ℕ → ℕ
sum_of counts = sum counts

-- the lines that a tally counts at most
abbrev pub limit : ℕ
limit = 4294967295

unfoldable pub is_full : List ℕ → Bool
is_full counts = nat_le limit (sum_of counts)

abbrev pub full_answer : Answer
full_answer = refused 0 None Full

unfoldable pub one_more : List ℕ → ℕ → List ℕ
one_more counts cell = slice_set counts cell (slice_index counts cell + 1)

-- a line's answer and the counts after it
unfoldable pub fed : List ℕ → List ℕ → Fed
fed counts line =
    pick (is_full counts)
    (record { answer = full_answer; counts = counts })
    (record { answer = answer_of line; counts = one_more counts (cell_of (answer_of line)) })

-- a history: lines that are fed one after the other, the answers to them and the counts after them

unfoldable pub replies : List ℕ → List (List ℕ) → List Answer
replies counts [] = []
replies counts (l ∷ ls) = (fed counts l).answer ∷ replies (fed counts l).counts ls

unfoldable pub after : List ℕ → List (List ℕ) → List ℕ
after counts [] = counts
after counts (l ∷ ls) = after (fed counts l).counts ls
