-- What is found in a content.
use Rattle.std.specs.Prelude.{Bool, true, false, Result, Ok, Err, ⊤}
use Rattle.answer.specs.declared.reason.Reason.{Reason}
use Rattle.answer.specs.declared.reason.Reason.TheVariants.{Form, Check, Zero as ZeroReason}
use Rattle.forms.specs.declared.form.Fault.{Fault}
use Rattle.figures.specs.declared.finding.Passed.{Passed}
use Rattle.figures.specs.declared.finding.Passed.TheVariants.{Good, Through}
use Rattle.figures.specs.declared.finding.Problem.{Problem}
use Rattle.figures.specs.declared.finding.Problem.TheVariants.{Zero, Wrong, Unfit, Unreadable}

abbrev pub Finding : Type 0
Finding = Result Passed Problem

-- the form is met and the figure right
abbrev pub is_good : Finding → Bool
is_good (Ok Good) = true
is_good (Ok Through) = false
is_good (Err problem) = false

-- the form first, and then whether the figure is right
abbrev pub judged : Result ⊤ Fault → Bool → Finding
judged (Ok fit) true = Ok Good
judged (Ok fit) false = Err Wrong
judged (Err fault) figure = Err (Unfit fault)

-- the same, where a number of zeros alone is refused by a reason of its own
abbrev pub judged_zero : Result ⊤ Fault → Bool → Bool → Finding
judged_zero (Ok fit) true figure = Err Zero
judged_zero (Ok fit) false figure = judged (Ok fit) figure
judged_zero (Err fault) zeros figure = Err (Unfit fault)

-- a form with no check figure
abbrev pub form_only : Result ⊤ Fault → Finding
form_only form = judged form true

-- the reason by which a content is refused
abbrev pub reason_of : Problem → Reason
reason_of Zero = ZeroReason
reason_of Wrong = Check
reason_of (Unfit fault) = Form
reason_of (Unreadable why) = why
