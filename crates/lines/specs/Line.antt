-- One line, its newline left out: 4 scheme bytes, space, two digits of term, space, content.
use Rattle.std.specs.Prelude.{None, Bool, ◌&&◌, List, ℕ, ◌+◌, ◌*◌, ◌-◌, ◌==◌, nat_le, length, take, drop, slice_index}
use Prim.Native.Char.{code}
use Rattle.ascii.specs.Pick.{pick}
use Rattle.ascii.specs.Class.{is_digit}
use Rattle.ascii.specs.Written.{space}
use Rattle.answer.specs.declared.record.Answer.{Answer}
use Rattle.answer.specs.declared.reason.Reason.TheVariants.{Line}
use Rattle.answer.specs.Answers.{refused}
use Rattle.checks.specs.Check.{check_of}

-- places counted from 0
unfoldable pub head_ok : List ℕ → Bool
head_ok s =
    nat_le 8 (length s)
    && ((slice_index s 4 == space && is_digit (slice_index s 5))
    && (is_digit (slice_index s 6) && slice_index s 7 == space))

unfoldable pub term_of : List ℕ → ℕ
term_of s = 10 * (slice_index s 5 - code "0") + (slice_index s 6 - code "0")

-- of a content are read 1,025 bytes, one more than a rule may read
unfoldable pub line_content : List ℕ → List ℕ
line_content s = take 1025 (drop 8 s)

-- of a line its head and these
abbrev pub line_bytes : ℕ
line_bytes = 1033

unfoldable pub answer_of : List ℕ → Answer
answer_of s = pick (head_ok s) (check_of (take 4 s) (term_of s) (line_content s)) (refused 0 None Line)
