-- From a content to what is found in it, and from there to the answer.
use Rattle.std.specs.Prelude.{Option, Result, Ok, Err, ⊤, List, ℕ}
use Rattle.answer.specs.declared.record.Answer.{Answer}
use Rattle.answer.specs.declared.severity.Severity.{Severity}
use Rattle.answer.specs.declared.reason.Reason.{Reason}
use Rattle.answer.specs.Answers.{accepted, unread, refused}
use Rattle.text.specs.declared.reading.Reading.{Reading}
use Rattle.text.specs.Answer.{readable_of, text_by}
use Rattle.figures.specs.declared.finding.Passed.TheVariants.{Good, Through}
use Rattle.figures.specs.declared.finding.Problem.TheVariants.{Unreadable}
use Rattle.figures.specs.Findings.{Finding, reason_of}

-- what is found where a content can be read, and otherwise why it can't (LONG, UTF8)
abbrev pub when_read : Result ⊤ Reason → Finding → Finding
when_read (Ok read) found = found
when_read (Err why) found = Err (Unreadable why)

-- what is found in a content: that it can't be read, or what a judge finds in the text that is read of it
unfoldable pub found_in : Reading → (List ℕ → Finding) → List ℕ → Finding
found_in how judge content = when_read (readable_of content) (judge (text_by how content))

-- the answer to a finding, with a rule's number and its severity
abbrev pub answered : ℕ → Option Severity → Finding → Answer
answered n s (Ok Good) = accepted n s
answered n s (Ok Through) = unread n s
answered n s (Err problem) = refused n s (reason_of problem)
