-- The checks. Reasons of a field check in their order: TERM, no rule, LONG, UTF8, let through, FORM, ZERO, CHECK.
use Rattle.std.specs.Prelude.{Option, Some, None, Result, Ok, Err, List, ℕ}
use Rattle.ascii.specs.Pick.{pick}
use Rattle.ascii.specs.Written.{bytes, same_bytes}
use Rattle.answer.specs.declared.record.Answer.{Answer}
use Rattle.answer.specs.declared.reason.Reason.{Reason}
use Rattle.answer.specs.Answers.{no_rule, refused}
use Rattle.text.specs.declared.reading.Reading.TheVariants.{AsItStands, Stripped}
use Rattle.rules.specs.declared.rule.Rule.{Rule}
use Rattle.rules.specs.Facts.{facts}
use Rattle.rules.specs.Choice.{rule_for}
use Rattle.rules.specs.Finding.{finding}
use Rattle.accounts.specs.Rules.{iban_finding, creditor_finding}
use Rattle.guard.specs.Gln.{strict_gln}
use Rattle.checks.specs.Reading.{found_in, answered}

-- a rule's answer to a content
unfoldable pub answer_by : Rule → List ℕ → Answer
answer_by r content =
    answered (facts r).number (Some (facts r).severity) (found_in (facts r).reading (finding r) content)

abbrev pub on_chosen : Result (Option Rule) Reason → List ℕ → Answer
on_chosen (Ok (Some r)) content = answer_by r content
on_chosen (Ok None) content = no_rule
on_chosen (Err why) content = refused 0 None why

-- the field check
unfoldable pub check_of : List ℕ → ℕ → List ℕ → Answer
check_of scheme term content = on_chosen (rule_for scheme term) content

-- those without a rule's number: LONG, UTF8, FORM, CHECK, with rule 0 and no severity

unfoldable pub iban_answer : List ℕ → Answer
iban_answer content = answered 0 None (found_in Stripped iban_finding content)

unfoldable pub creditor_answer : List ℕ → Answer
creditor_answer content = answered 0 None (found_in Stripped creditor_finding content)

-- the strict GLN; the content of any other scheme is not looked at
unfoldable pub eas_answer : List ℕ → List ℕ → Answer
eas_answer scheme content =
    pick (same_bytes scheme (bytes "0088"))
    (answered 0 None (found_in AsItStands strict_gln content))
    no_rule
