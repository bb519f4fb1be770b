-- Completing: a body of digits, and the figure that makes an accepted number of it.
use Rattle.std.specs.Prelude.{Option, None, List, ◌++◌, ℕ, length}
use Rattle.ascii.specs.Pick.{pick}
use Rattle.answer.specs.declared.reason.Reason.{Reason}
use Rattle.figures.specs.Completing.{one_digit, two_digits, check_figure, mod11_reason}
use Rattle.corrections.specs.declared.five.Five.{Five}
use Rattle.corrections.specs.Five.{row, body_form, five_of}
use Rattle.corrections.specs.Outcome.{Outcome, success, unless, first, for_five, form_reason, room_reason}

-- a figure as text
abbrev pub figure_text : Five → ℕ → List ℕ
figure_text k n = pick (row k).pair (two_digits n) (one_digit n)

abbrev pub figure_for : Five → List ℕ → List ℕ
figure_for k body = figure_text k (check_figure (row k).figure body)

-- the number that a body and a figure make
abbrev pub number_with : Five → List ℕ → List ℕ → List ℕ
number_with k body x = pick (row k).front (x ++ body) (body ++ x)

-- why a body has no figure: for 0192 ZERO or NO_FIGURE
abbrev pub no_figure : Five → List ℕ → Option Reason
no_figure k body = pick (row k).gaps (mod11_reason body) None

-- in an area of `room` bytes: FORM, then ZERO or NO_FIGURE, then ROOM
unfoldable pub completed_by : Five → List ℕ → ℕ → Outcome
completed_by k body room =
    unless (first (form_reason (body_form k) body) (first (no_figure k body) (room_reason 2 room)))
    (success (length (figure_for k body)) (figure_for k body))

-- SCHEME first of all
unfoldable pub completing : List ℕ → List ℕ → ℕ → Outcome
completing scheme body room = for_five (five_of scheme) (λ k. completed_by k body room)
