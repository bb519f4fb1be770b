-- What the contracts of inner functions cite; no rule cites it.
use Rattle.std.specs.Prelude.{Option, Some, None, ℕ, ◌+◌, ◌-◌, ◌*◌, ◌%◌, Bool, List, slice_index, slice_set}
use Rattle.ascii.specs.Pick.{pick}
use Rattle.answer.specs.declared.record.Answer.{Answer}
use Rattle.rules.specs.declared.rule.Rule.{Rule}
use Rattle.rules.specs.Facts.{facts}
use Rattle.lines.specs.Line.{answer_of}
use Rattle.tally.specs.declared.counts.Fed.{Fed}
use Rattle.tally.specs.Cell.{cell_of}
use Rattle.tally.specs.Tally.{sum_of, limit, full_answer}

-- the first of a rule's three cells, and of the two others
abbrev pub first_by : Option Rule → ℕ
first_by (Some r) = 3 * (facts r).index
first_by None = 51

-- how many more lines are counted
unfoldable pub left_in : List ℕ → ℕ
left_in counts = limit - sum_of counts

-- one more in a cell, as numbers of 32 bits add
unfoldable pub raised : List ℕ → ℕ → List ℕ
raised counts cell = slice_set counts cell ((slice_index counts cell + 1) % 4294967296)

-- as `fed`, by one who knows whether the tally is full
unfoldable pub fed_if : Bool → List ℕ → List ℕ → Fed
fed_if full counts line =
    pick full
    (record { answer = full_answer; counts = counts })
    (record { answer = answer_of line; counts = raised counts (cell_of (answer_of line)) })

-- an answer and counts that a caller lends
abbrev pub fed_in : Answer → List ℕ → Fed
fed_in a counts = record { answer = a; counts = counts }
