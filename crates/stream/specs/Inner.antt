-- What the contracts of inner functions cite; no rule cites it.
use Rattle.std.specs.Prelude.{◌≡◌, List, ℕ, ◌≤◌, ◌<◌, ◌==◌, length}
use Rattle.ascii.specs.Area.{Put}
use Rattle.answer.specs.declared.record.Answer.{Answer}
use Rattle.answer.specs.Text.{answer_text, answer_room}
use Rattle.lines.specs.Line.{line_bytes}
use Rattle.lines.specs.Lines.{lines_of, spanned}
use Rattle.tally.specs.Tally.{after}
use Rattle.tally.specs.Inner.{fed_if, fed_in}
use Rattle.stream.specs.Output.{answers_text, told}
use Rattle.stream.specs.Turn.{fitting, kept_of, closing_room}

-- a line is fed to a tally that counts `more` lines, and its answer is written from `at` on
pub record LineRight (more : ℕ) (line counts counts' out out' : List ℕ) (at end : ℕ) : Type 0 where
  pub answer : Answer
  pub fed : fed_in answer counts' ≡ fed_if (more == 0) counts line
  pub written : Put answer_room out at (answer_text answer) end out'

-- the whole lines of s are answered, as many as there is room for: `used` bytes of it
pub record FedRight (s counts counts' out out' : List ℕ) (used put : ℕ) : Type 0 where
  pub spans : used ≡ spanned s (fitting (length out) s)
  pub written : Put (length out) out 0 (answers_text counts (fitting (length out) s)) put out'
  pub tallied : counts' ≡ after counts (fitting (length out) s)

-- s is the window, of which `kept` bytes are kept at the start of the buffer; `put` bytes are written
pub record StepRight (s buf buf' out out' counts counts' : List ℕ) (kept put : ℕ) : Type 0 where
  pub written : Put (length out) out 0 (answers_text counts (fitting (length out) s)) put out'
  pub tallied : counts' ≡ after counts (fitting (length out) s)
  pub held : Put (length buf) buf 0 (kept_of (length out) s) kept buf'
  pub moves : line_bytes < length buf → answer_room ≤ length out → kept < length buf

-- the lines of s are answered
pub record LastRight (s counts counts' out out' : List ℕ) (put : ℕ) : Type 0 where
  pub written : Put answer_room out 0 (answers_text counts (lines_of s)) put out'
  pub tallied : counts' ≡ after counts (lines_of s)

-- and then the tally
pub record ClosedRight (s counts counts' out out' : List ℕ) (put : ℕ) : Type 0 where
  pub written : Put closing_room out 0 (told counts (lines_of s)) put out'
  pub tallied : counts' ≡ after counts (lines_of s)
