-- The forms of the rules (docs/RULES.md, How a rule is told). Rules 45 and 46 read code points and have no form here.
use Rattle.std.specs.Prelude.{List, ℕ, eqb, length, get_or}
use Prim.Native.Char.{Char, code}
use Prim.Native.String.{String}
use Rattle.ascii.specs.Pick.{pick}
use Rattle.ascii.specs.Written.{bytes}
use Rattle.forms.specs.Form.{Form, form_from}

-- a form as it is written
abbrev pub form : String → Char → ℕ → ℕ → Form
form head rest least most = form_from (bytes head) (code rest) least most

abbrev pub digits : ℕ → ℕ → Form
digits least most = form "" "#" least most

-- 40: one or more digits. A text that a rule reads has at most 1,024 bytes.
abbrev pub some_digits : Form
some_digits = digits 1 1024

-- 41, 43, 49, 50, and a number of 0192, 0208, 0007, 0151 that is listed
abbrev pub norwegian : Form
norwegian = digits 9 9

abbrev pub belgian : Form
belgian = digits 10 10

abbrev pub swedish : Form
swedish = digits 10 10

abbrev pub australian : Form
australian = digits 11 11

-- 44
abbrev pub ipa : Form
ipa = form "" "*" 6 6

-- 53
abbrev pub dk_and_eight : Form
dk_and_eight = form "DK" "#" 10 10

-- 42: DK and 8 digits, or 8 digits; the length says which
abbrev pub danish_of : List ℕ → Form
danish_of s = pick (eqb (length s) 8) (digits 8 8) dk_and_eight

-- 47, where it is not let through: IT, or it, and 11 digits; the first byte says which
abbrev pub italian_of : List ℕ → Form
italian_of s = pick (eqb (get_or s 0 0) (code "i")) (form "it" "#" 13 13) (form "IT" "#" 13 13)

-- 561, and 562 where it is not let through
abbrev pub dutch : Form
dutch = form "NL#########B" "#" 14 14

-- two letters, two digits, and then letters or digits
abbrev pub account : ℕ → ℕ → Form
account least most = form "&&##" "*" least most

abbrev pub iban : Form
iban = account 5 34

abbrev pub creditor : Form
creditor = account 8 35
