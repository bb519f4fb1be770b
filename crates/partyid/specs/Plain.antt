-- An answer of the library as plain numbers.
use Rattle.std.specs.Prelude.{◌≡◌, Option, Some, None, Result, Ok, Err, List, [], ℕ, slice_index}
use Rattle.text.specs.declared.area.Text.{Text}
use Rattle.text.specs.declared.utf8.Point.{Point}
use Rattle.answer.specs.declared.reason.Reason.{Reason}
use Rattle.answer.specs.declared.record.Answer.{Answer}
use Rattle.answer.specs.Numbers.{or_zero, verdict_number, severity_number, reason_number}
use Rattle.guard.specs.declared.code.Withdrawal.{Withdrawal}
use Rattle.tally.specs.declared.counts.Fed.{Fed}
use Rattle.batch.specs.declared.each.Batch.{Batch}
use Rattle.ascii.specs.Area.{put}
use Rattle.corrections.specs.Outcome.{Outcome}
use Rattle.partyid.specs.declared.plain.PartyidAnswer.{PartyidAnswer}
use Rattle.partyid.specs.declared.plain.PartyidBatch.{PartyidBatch}
use Rattle.partyid.specs.declared.plain.PartyidDone.{PartyidDone}
use Rattle.partyid.specs.declared.plain.PartyidCode.{PartyidCode}
use Rattle.partyid.specs.declared.plain.PartyidPoint.{PartyidPoint}
use Rattle.partyid.specs.declared.plain.PartyidText.{PartyidText}

-- a code point has 1 to 4 bytes, so that length 0 is the refusal
unfoldable pub plain_point : Option Point → PartyidPoint
plain_point (Some p) = record { code = p.code; len = p.len }
plain_point None = record { code = 0; len = 0 }

-- a text's length, or its reason; its bytes stand in the caller's area
unfoldable pub plain_text : Result ℕ Reason → PartyidText
plain_text (Ok n) = record { reason = 0; len = n }
plain_text (Err why) = record { reason = reason_number why; len = 0 }

-- a text as a program in C has it: two numbers, and the area
pub record Shown (t : Text) (r : PartyidText) (area : List ℕ) : Type 0 where
  pub numbers : r ≡ plain_text t.kept
  pub bytes : area ≡ t.bytes

-- the four numbers of an answer
unfoldable pub plain_answer : Answer → PartyidAnswer
plain_answer a =
    record {
      verdict = verdict_number a.verdict;
      rule = a.rule;
      severity = or_zero severity_number a.severity;
      reason = or_zero reason_number a.reason;
    }

-- a line's answer in plain numbers, and the counts that the caller lends
pub record FedPlain (f : Fed) (r : PartyidAnswer) (counts : List ℕ) : Type 0 where
  pub numbers : r ≡ plain_answer f.answer
  pub after : counts ≡ f.counts

abbrev pub four_bytes : ℕ → List ℕ → PartyidCode
four_bytes n s =
    record { answer = n; a = slice_index s 0; b = slice_index s 1; c = slice_index s 2; d = slice_index s 3 }

abbrev pub plain_successor : Option (List ℕ) → PartyidCode
plain_successor None = four_bytes 1 []
plain_successor (Some code) = four_bytes 2 code

-- 0 not withdrawn, 1 withdrawn with no successor, 2 with the successor's four bytes
unfoldable pub plain_code : Option Withdrawal → PartyidCode
plain_code None = four_bytes 0 []
plain_code (Some w) = plain_successor w.successor

-- how many digits or entries, or the reason
unfoldable pub plain_done : Result ℕ Reason → PartyidDone
plain_done (Ok n) = record { reason = 0; count = n }
plain_done (Err why) = record { reason = reason_number why; count = 0 }

abbrev pub plain_batch : Batch → PartyidBatch
plain_batch b = record { count = b.count; used = b.used }

-- a completion or a listing as a program in C has it: two numbers, and the area, in which every byte that is not written stays
pub record Performed (o : Outcome) (area : List ℕ) (r : PartyidDone) (after : List ℕ) : Type 0 where
  pub numbers : r ≡ plain_done o.says
  pub bytes : after ≡ put area 0 o.writes
