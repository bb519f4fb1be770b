-- The cases in bold in docs/RULES.md, Cases on both sides, proved together: one table over the definitions of all crates, under one statement.
-- Assumes nothing.
use mathlib.Core.Path.{◌≡◌, refl}
use mathlib.Core.List.{List, [], ◌∷◌, map}
use Prim.Native.Nat.{ℕ}
use Prim.Native.String.{String}
use Rattle.std.specs.Prelude.{Some, None}
use Rattle.ascii.specs.Pick.{pick}
use Rattle.ascii.specs.Class.{within, is_digit, is_letter, is_plain, all, among}
use Rattle.ascii.specs.Written.{bytes}
use Rattle.answer.specs.declared.record.Answer.{Answer}
use Rattle.answer.specs.declared.reason.Reason.TheVariants.{Form, Check, Zero, NoFigure}
use Rattle.answer.specs.declared.severity.Severity.TheVariants.{Fatal, Warning}
use Rattle.answer.specs.Answers.{accepted, refused}
use Rattle.text.specs.Utf8.{two, three, four, step_of}
use Rattle.text.specs.White.{white_points, is_white}
use Rattle.text.specs.Content.{content_from, content_of, cells, cells_of}
use Rattle.text.specs.Words.{parts, words, spaced, closed, normal, stripped}
use Rattle.text.specs.Answer.{readable_of, padded, kept, refusal, answer, normal_text, stripped_text}
use Rattle.forms.specs.Form.{of_class, wrong, fault_of, fits}
use Rattle.figures.specs.Rules.{gln, mod11, mod97, partita_iva, se_orgnr, abn}
use Rattle.rules.specs.Choice.{by_scheme, at_term, rule_for}
use Rattle.rules.specs.Finding.{accepts, is_italian, is_dutch}
use Rattle.accounts.specs.Spelled.{letter_value, value_of, written, spell, spelled, remainder}
use Rattle.accounts.specs.Rules.{iban_finding}
use Rattle.checks.specs.Reading.{found_in}
use Rattle.checks.specs.Check.{answer_by, check_of, iban_answer}
use Rattle.ascii.specs.Area.{joined}
use Rattle.corrections.specs.Five.{five_of}
use Rattle.corrections.specs.Outcome.{Outcome, refused_with, success, unless, first, form_reason, room_reason}
use Rattle.corrections.specs.Completing.{completed_by, completing}
use Rattle.corrections.specs.Corrections.{each, only, if_accepted, fixes_at, replacements, exchanges, corrections}
use Rattle.corrections.specs.Listing.{entries_of, listed_for, listing}

-- what a definition answers: a check, or a completion or listing
pub data Said : Type 0 where
  answers : Answer → Said
  does : Outcome → Said

-- a field by its scheme, an IBAN, a body to complete, a number to list; and what docs/RULES.md says of it
pub data Case : Type 0 where
  field : String → String → Answer → Case
  iban : String → Answer → Case
  completes : String → String → Outcome → Case
  lists : String → String → ℕ → Outcome → Case

abbrev found : Case → Said
found (field scheme content a) = answers (check_of (bytes scheme) 34 (bytes content))
found (iban content a) = answers (iban_answer (bytes content))
found (completes scheme body o) = does (completing (bytes scheme) (bytes body) 2)
found (lists scheme content room o) = does (listing (bytes scheme) (bytes content) room)

abbrev told : Case → Said
told (field scheme content a) = answers a
told (iban content a) = answers a
told (completes scheme body o) = does o
told (lists scheme content room o) = does o

abbrev table : List Case
table =
    field "0088" "0" (accepted 40 (Some Fatal))
    ∷ field "0088" "" (refused 40 (Some Fatal) Form)
    ∷ field "0088" "1234567890128" (accepted 40 (Some Fatal))
    ∷ field "0192" "123456785" (accepted 41 (Some Fatal))
    ∷ field "0192" "000000000" (refused 41 (Some Fatal) Zero)
    ∷ completes "0192" "00000006" (refused_with NoFigure)
    ∷ field "0208" "0000009797" (accepted 43 (Some Fatal))
    ∷ field "0208" "0000009700" (refused 43 (Some Fatal) Check)
    ∷ field "0151" "51824753556" (accepted 50 (Some Fatal))
    ∷ field "0151" "01000100000" (accepted 50 (Some Fatal))
    ∷ field "0211" "IT12345678903" (accepted 47 (Some Warning))
    ∷ iban "AA750" (accepted 0 None)
    ∷ iban "aa750" (accepted 0 None)
    ∷ lists "0088" "71" 6 (success 3 (bytes "317917"))
    ∷ []

pub paper : map found table ≡ map told table
unfolding pick within is_digit is_letter is_plain all among two three four step_of white_points is_white content_from content_of cells cells_of parts words spaced closed normal stripped readable_of padded kept refusal answer normal_text stripped_text of_class wrong fault_of fits gln mod11 mod97 partita_iva se_orgnr abn by_scheme at_term rule_for accepts is_italian is_dutch found_in answer_by check_of iban_answer letter_value value_of written spell spelled remainder iban_finding five_of unless first form_reason room_reason completed_by completing each only joined if_accepted fixes_at replacements exchanges corrections entries_of listed_for listing
paper = refl
