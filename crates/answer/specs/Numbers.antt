-- The number of each verdict, severity and reason (docs/RULES.md, The answer).
use Rattle.std.specs.Prelude.{Option, Some, None, ℕ}
use Rattle.answer.specs.declared.verdict.Verdict.{Verdict}
use Rattle.answer.specs.declared.verdict.Verdict.TheVariants.{NoRule, Accepted, Refused, Unread}
use Rattle.answer.specs.declared.severity.Severity.{Severity}
use Rattle.answer.specs.declared.severity.Severity.TheVariants.{Fatal, Warning}
use Rattle.answer.specs.declared.reason.Reason.{Reason}
use Rattle.answer.specs.declared.reason.Reason.TheVariants.{Long, Utf8, Form, Check, Zero, NoFigure, Scheme, Room, Good, Term, Line, Full}

-- the number of what may be missing: 0 where it is
abbrev pub or_zero : {A : Type 0} → (A → ℕ) → Option A → ℕ
or_zero number None = 0
or_zero number (Some x) = number x

abbrev pub verdict_number : Verdict → ℕ
verdict_number NoRule = 0
verdict_number Accepted = 1
verdict_number Refused = 2
verdict_number Unread = 3

abbrev pub severity_number : Severity → ℕ
severity_number Fatal = 1
severity_number Warning = 2

abbrev pub reason_number : Reason → ℕ
reason_number Long = 1
reason_number Utf8 = 2
reason_number Form = 3
reason_number Check = 4
reason_number Zero = 5
reason_number NoFigure = 6
reason_number Scheme = 7
reason_number Room = 8
reason_number Good = 9
reason_number Term = 10
reason_number Line = 11
reason_number Full = 12
