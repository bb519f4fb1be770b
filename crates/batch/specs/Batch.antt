-- Many lines answered at once: the numbers of an answer for each line, as long as the area has room.
use Rattle.std.specs.Prelude.{◌≡◌, List, ℕ, ◌/◌, length, take}
use Rattle.ascii.specs.Area.{put}
use Rattle.answer.specs.declared.record.Answer.{Answer}
use Rattle.answer.specs.Answers.{answer_numbers, in_turn}
use Rattle.lines.specs.Lines.{lines_of, spanned}
use Rattle.tally.specs.Tally.{replies, after}

-- how many numbers an answer has
abbrev pub numbers_each : ℕ
numbers_each = 4

-- the first lines of a text, as many as an area of `room` numbers has room for
unfoldable pub batched : ℕ → List ℕ → List (List ℕ)
batched room s = take (room / numbers_each) (lines_of s)

-- the area `old` has become `new`, where `answers` says how lines are answered
pub record BatchRight (answers : List (List ℕ) → List Answer) (s old new : List ℕ) (count used : ℕ) : Type 0 where
  pub wrote : new ≡ put old 0 (in_turn answer_numbers (answers (batched (length old) s)))
  pub counted : count ≡ length (batched (length old) s)
  pub spans : used ≡ spanned s (batched (length old) s)

-- the same for lines that are fed to a tally: `counts` has become `counts'`
pub record TallyRight (s counts counts' old new : List ℕ) (count used : ℕ) : Type 0 where
  pub batch : BatchRight (replies counts) s old new count used
  pub tallied : counts' ≡ after counts (batched (length old) s)
