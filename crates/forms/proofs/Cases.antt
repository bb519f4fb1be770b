-- Examples on both sides of each form, computed. Assumes nothing.
use mathlib.Core.Path.{◌≡◌, refl}
use mathlib.Core.List.{List, [], ◌∷◌, map}
use Prim.Native.Nat.{ℕ}
use Prim.Native.String.{String}
use Rattle.ascii.specs.Pick.{pick}
use Rattle.ascii.specs.Written.{bytes}
use Rattle.ascii.specs.Class.{within, is_digit, is_letter, is_plain}
use Rattle.forms.specs.declared.form.Fault.{Fault}
use Rattle.forms.specs.declared.form.Fault.TheVariants.{Length, At}
use Rattle.std.specs.Prelude.{Result, Ok, Err, ⊤}
use Rattle.forms.specs.Form.{Form, of_class, wrong, fault_of}
use Rattle.forms.specs.Table.{digits, some_digits, ipa, dk_and_eight, danish_of, italian_of, dutch, iban, creditor}

-- a form, which may be picked by the text, a text, and what is wrong with it
pub data Case : Type 0 where
  case : (List ℕ → Form) → String → Result ⊤ Fault → Case

abbrev by : Form → List ℕ → Form
by f s = f

abbrev found : Case → Result ⊤ Fault
found (case f t x) = fault_of (f (bytes t)) (bytes t)

abbrev told : Case → Result ⊤ Fault
told (case f t x) = x

abbrev table : List Case
table =
    case (by some_digits) "0" (Ok tt)
    ∷ case (by some_digits) "" (Err Length)
    ∷ case (by some_digits) "12 4" (Err (At 2))
    ∷ case (by (digits 9 9)) "123456785" (Ok tt)
    ∷ case (by (digits 9 9)) "12345678" (Err Length)
    ∷ case (by (digits 9 9)) "1234567850" (Err Length)
    ∷ case (by (digits 9 9)) "/23456785" (Err (At 0))
    ∷ case (by (digits 9 9)) "12345678:" (Err (At 8))
    ∷ case (by (digits 1 20)) "12345678901234567890" (Ok tt)
    ∷ case (by (digits 1 20)) "123456789012345678901" (Err Length)
    ∷ case danish_of "DK12345678" (Ok tt)
    ∷ case danish_of "12345678" (Ok tt)
    ∷ case danish_of " 12345678" (Err Length)
    ∷ case danish_of "DK1234567x" (Err (At 9))
    ∷ case danish_of "Dk12345678" (Err (At 1))
    ∷ case danish_of "DK123456" (Err (At 0))
    ∷ case danish_of "1234567890" (Err (At 0))
    ∷ case (by dk_and_eight) "DK12345678" (Ok tt)
    ∷ case (by dk_and_eight) "12345678" (Err Length)
    ∷ case (by dk_and_eight) "KD12345678" (Err (At 0))
    ∷ case (by ipa) "aZ09bY" (Ok tt)
    ∷ case (by ipa) "aZ0 bY" (Err (At 3))
    ∷ case (by ipa) "aZ09b[" (Err (At 5))
    ∷ case (by ipa) "aZ09b" (Err Length)
    ∷ case italian_of "IT12345678903" (Ok tt)
    ∷ case italian_of "it12345678903" (Ok tt)
    ∷ case italian_of "iT12345678903" (Err (At 1))
    ∷ case italian_of "It12345678903" (Err (At 1))
    ∷ case italian_of "IT1234567890x" (Err (At 12))
    ∷ case italian_of "IT1234567890" (Err Length)
    ∷ case italian_of "" (Err Length)
    ∷ case (by dutch) "NL123456789B01" (Ok tt)
    ∷ case (by dutch) "NL123456789b01" (Err (At 11))
    ∷ case (by dutch) "NL123456789B0:" (Err (At 13))
    ∷ case (by dutch) "nl123456789B01" (Err (At 0))
    ∷ case (by dutch) "NL123456789B0" (Err Length)
    ∷ case (by iban) "AA750" (Ok tt)
    ∷ case (by iban) "aa75" (Err Length)
    ∷ case (by iban) "A175 " (Err (At 1))
    ∷ case (by iban) "AAA50" (Err (At 2))
    ∷ case (by iban) "AA75-" (Err (At 4))
    ∷ case (by creditor) "DE98ZZZ0" (Ok tt)
    ∷ case (by creditor) "DE98ZZZ" (Err Length)
    ∷ case (by creditor) "DE98ZZ_0" (Err (At 6))
    ∷ []

pub cases : map found table ≡ map told table
unfolding pick within is_digit is_letter is_plain of_class wrong fault_of
cases = refl
