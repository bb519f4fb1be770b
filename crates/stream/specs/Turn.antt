-- The program: a turn over a window s of the input, with a tally and an output area of `room` bytes, and a run of turns.
use Rattle.std.specs.Prelude.{◌≡◌, Bool, true, false, ◌&&◌, List, [], ◌∷◌, ◌++◌, ℕ, ◌+◌, ◌/◌, ◌≤◌, ◌<◌, ◌==◌, nat_le, length, take, drop}
use Rattle.ascii.specs.Area.{Put}
use Rattle.ascii.specs.Pick.{pick}
use Rattle.ascii.specs.Class.{among}
use Rattle.ascii.specs.Written.{newline}
use Rattle.answer.specs.Text.{answer_room}
use Rattle.lines.specs.Line.{line_bytes}
use Rattle.lines.specs.Lines.{lines_of, ended, spanned}
use Rattle.tally.specs.Tally.{after}
use Rattle.tally.specs.Text.{tally_text, tally_room}
use Rattle.stream.specs.Output.{answers_text}

-- the lines that a newline ends, as many as there is room for answers
unfoldable pub fitting : ℕ → List ℕ → List (List ℕ)
fitting room s = take (room / answer_room) (ended s)

-- of a line that no newline ends yet, the bytes that are read
unfoldable pub clipped : List ℕ → List ℕ
clipped rest = pick (among newline rest) rest (take line_bytes rest)

-- what is kept for the next turn
unfoldable pub kept_of : ℕ → List ℕ → List ℕ
kept_of room s = clipped (drop (spanned s (fitting room s)) s)

-- `got` bytes of s were just read; none means that the input has ended. Where no whole line is answered then, the turn is over
unfoldable pub is_over : ℕ → ℕ → List ℕ → Bool
is_over room got s = got == 0 && length (fitting room s) == 0

-- the bytes that the end takes at most: an answer, and the text of the tally
abbrev pub closing_room : ℕ
closing_room = answer_room + tally_room

-- the turn that is over writes the end, where there is room
unfoldable pub closes : ℕ → ℕ → List ℕ → Bool
closes room got s = is_over room got s && nat_le closing_room room

-- the lines that a turn answers: whole lines, and in the end the last one, which no newline ends
unfoldable pub turn_lines : ℕ → ℕ → List ℕ → List (List ℕ)
turn_lines room got s = pick (closes room got s) (lines_of (kept_of room s)) (fitting room s)

unfoldable pub turn_counts : List ℕ → ℕ → ℕ → List ℕ → List ℕ
turn_counts counts room got s = after counts (turn_lines room got s)

-- what a turn writes: the answers to its lines, and in the end the text of the tally
unfoldable pub turn_writes : List ℕ → ℕ → ℕ → List ℕ → List ℕ
turn_writes counts room got s =
    answers_text counts (turn_lines room got s)
    ++ pick (closes room got s) (tally_text (turn_counts counts room got s)) []

-- a buffer, an output area and counts have become buf', out' and counts': `kept` bytes are kept at the start of the buffer, `put` bytes are written in
-- the output area
pub record TurnRight (s : List ℕ) (got : ℕ) (buf buf' out out' counts counts' : List ℕ) (kept put : ℕ) (over : Bool) : Type 0 where
  pub writes : Put (length out) out 0 (turn_writes counts (length out) got s) put out'
  pub tallies : counts' ≡ turn_counts counts (length out) got s
  pub keeps : Put (length buf) buf 0 (kept_of (length out) s) kept buf'
  pub ends : over ≡ is_over (length out) got s
  -- a buffer that holds more than is read of a line has room for more input afterwards, where an answer fits
  pub moves : line_bytes < length buf → answer_room ≤ length out → kept < length buf

-- turns over the chunks that are read one after the other, with a tally and what is kept before, up to the turn that is over: what they write in all
pub data Run (room : ℕ) : List ℕ → List ℕ → List (List ℕ) → List ℕ → Type 0 where
  over : {counts kept chunk : List ℕ} → is_over room (length chunk) (kept ++ chunk) ≡ true
      → Run room counts kept (chunk ∷ []) (turn_writes counts room (length chunk) (kept ++ chunk))
  next : {counts kept chunk : List ℕ} {chunks : List (List ℕ)} {out : List ℕ} → is_over room (length chunk) (kept ++ chunk) ≡ false
      → Run room (turn_counts counts room (length chunk) (kept ++ chunk)) (kept_of room (kept ++ chunk)) chunks out
      → Run room counts kept (chunk ∷ chunks) (turn_writes counts room (length chunk) (kept ++ chunk) ++ out)
