-- Listing: the normalised content, a number that its rule refuses, and all its corrections.
use Rattle.std.specs.Prelude.{Ok, Err, List, [], ℕ, ◌-◌, ◌*◌, length}
use Rattle.ascii.specs.Area.{joined}
use Rattle.answer.specs.declared.reason.Reason.TheVariants.{Good as GoodReason}
use Rattle.forms.specs.Form.{fault_of}
use Rattle.text.specs.declared.reading.Reading.TheVariants.{Normalised}
use Rattle.text.specs.Answer.{text_by}
use Rattle.figures.specs.declared.finding.Passed.TheVariants.{Good, Through}
use Rattle.figures.specs.declared.finding.Problem.TheVariants.{Zero, Wrong, Unfit, Unreadable}
use Rattle.figures.specs.Findings.{Finding, judged, reason_of}
use Rattle.rules.specs.Finding.{accepts}
use Rattle.corrections.specs.declared.five.Five.{Five}
use Rattle.corrections.specs.Five.{rule_of, number_form, five_of}
use Rattle.corrections.specs.Outcome.{Outcome, refused_with, success, unless, for_five, room_reason}
use Rattle.checks.specs.Reading.{found_in}
use Rattle.corrections.specs.Corrections.{corrections}

-- a number to list: its form, and then whether its rule accepts it
abbrev pub number_found : Five → List ℕ → Finding
number_found k s = judged (fault_of (number_form k) s) (accepts (rule_of k) s)

-- the bytes that an area must have, whatever is found
abbrev pub room_for : ℕ → ℕ
room_for n = (2 * n - 1) * n

-- in an area of `room` bytes: ROOM, or the corrections one after another
unfoldable pub entries_of : Five → List ℕ → ℕ → Outcome
entries_of k s room =
    unless (room_reason (room_for (length s)) room) (success (length (corrections (rule_of k) s)) (joined (corrections (rule_of k) s)))

-- GOOD where there is nothing to correct, the entries where the figure is wrong, and else the finding's own reason; what is let through
-- unread has no entry
abbrev pub listed_by : Finding → Outcome → Outcome
listed_by (Ok Good) entries = refused_with GoodReason
listed_by (Ok Through) entries = success 0 []
listed_by (Err Wrong) entries = entries
listed_by (Err Zero) entries = refused_with (reason_of Zero)
listed_by (Err (Unfit fault)) entries = refused_with (reason_of (Unfit fault))
listed_by (Err (Unreadable why)) entries = refused_with (reason_of (Unreadable why))

unfoldable pub listed_for : Five → List ℕ → ℕ → Outcome
listed_for k content room = listed_by (found_in Normalised (number_found k) content) (entries_of k (text_by Normalised content) room)

-- SCHEME first of all
unfoldable pub listing : List ℕ → List ℕ → ℕ → Outcome
listing scheme content room = for_five (five_of scheme) (λ k. listed_for k content room)
