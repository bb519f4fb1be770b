-- The four kinds of answer. Verdicts 0, 1 and 3 have no reason; verdict 0 has rule 0 and no severity; a reason comes with verdict 2.
use Rattle.std.specs.Prelude.{Option, Some, None, List, [], ◌∷◌, ◌++◌, ℕ}
use Rattle.answer.specs.Numbers.{or_zero, verdict_number, severity_number, reason_number}
use Rattle.answer.specs.declared.record.Answer.{Answer}
use Rattle.answer.specs.declared.verdict.Verdict.TheVariants.{NoRule, Accepted, Refused, Unread}
use Rattle.answer.specs.declared.severity.Severity.{Severity}
use Rattle.answer.specs.declared.reason.Reason.{Reason}

abbrev pub no_rule : Answer
no_rule = record { verdict = NoRule; rule = 0; severity = None; reason = None }

abbrev pub accepted : ℕ → Option Severity → Answer
accepted n s = record { verdict = Accepted; rule = n; severity = s; reason = None }

-- let through by a rule that did not read it
abbrev pub unread : ℕ → Option Severity → Answer
unread n s = record { verdict = Unread; rule = n; severity = s; reason = None }

abbrev pub refused : ℕ → Option Severity → Reason → Answer
refused n s r = record { verdict = Refused; rule = n; severity = s; reason = Some r }

-- an answer's numbers, in the order in which they are written
unfoldable pub answer_numbers : Answer → List ℕ
answer_numbers a =
    verdict_number a.verdict ∷ a.rule ∷ or_zero severity_number a.severity ∷ or_zero reason_number a.reason ∷ []

-- what is said of each answer, one after the other
unfoldable pub in_turn : (Answer → List ℕ) → List Answer → List ℕ
in_turn says [] = []
in_turn says (a ∷ rest) = says a ++ in_turn says rest
