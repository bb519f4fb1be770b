-- The numbers of an answer are below 1,000, so that each has at most three digits. Assumes nothing.
use Rattle.std.proofs.Common.{◌≡◌, ℕ, zero, suc, ◌<◌, Bool, true, false, List, Option, None, Some, slice_index_or, arith}
use Rattle.ascii.specs.Pick.{pick}
use Rattle.answer.specs.declared.record.Answer.{Answer}
use Rattle.answer.specs.declared.verdict.Verdict.{Verdict}
use Rattle.answer.specs.declared.verdict.Verdict.TheVariants.{NoRule, Accepted, Refused, Unread}
use Rattle.answer.specs.declared.severity.Severity.{Severity}
use Rattle.answer.specs.declared.severity.Severity.TheVariants.{Fatal, Warning}
use Rattle.answer.specs.declared.reason.Reason.{Reason}
use Rattle.answer.specs.Numbers.{or_zero, verdict_number, severity_number, reason_number}
use Rattle.answer.specs.Answers.{answer_numbers}
use Rattle.answer.proofs.Laws.{reason_small}
use Rattle.lines.proofs.Heads.{rule_small}
use Rattle.tally.specs.declared.counts.Fed.{Fed}
use Rattle.tally.specs.Inner.{fed_if, fed_in}

verdict_small : (v : Verdict) → verdict_number v < 1000
verdict_small NoRule = omega arith
verdict_small Accepted = omega arith
verdict_small Refused = omega arith
verdict_small Unread = omega arith

severity_small : (v : Option Severity) → or_zero severity_number v < 1000
severity_small None = omega arith
severity_small (Some Fatal) = omega arith
severity_small (Some Warning) = omega arith

given_small : (r : Option Reason) → or_zero reason_number r < 1000
given_small None = omega arith
given_small (Some r) = omega (arith, reason_small r)

-- each of the four
pub number_small : (a : Answer) (ns : List ℕ) → ns ≡ answer_numbers a → a.rule < 1000 → (i : ℕ) → slice_index_or ns i 0 < 1000
unfolding answer_numbers
number_small a ns e h zero = rw e (verdict_small a.verdict)
number_small a ns e h (suc zero) = rw e h
number_small a ns e h (suc (suc zero)) = rw e (severity_small a.severity)
number_small a ns e h (suc (suc (suc zero))) = rw e (given_small a.reason)
number_small a ns e h (suc (suc (suc (suc i)))) = rw e (omega arith)

-- ---- the rule of a reply

pick_small : (t : Bool) (x y : Fed) → x.answer.rule < 1000 → y.answer.rule < 1000 → (pick t x y).answer.rule < 1000
unfolding pick
pick_small true x y h k = h
pick_small false x y h k = k

-- whether the tally is full or not
known_small : (t : Bool) (counts line : List ℕ) → (fed_if t counts line).answer.rule < 1000
unfolding fed_if
known_small t counts line = pick_small t _ _ (omega arith) (rule_small line)

pub reply_small : {a : Answer} {counts' : List ℕ} (t : Bool) (counts line : List ℕ) → fed_in a counts' ≡ fed_if t counts line → a.rule < 1000
reply_small t counts line e = let h = known_small t counts line in rw (← e) at h
