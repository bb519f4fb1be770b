-- Examples of rules 45 and 46, computed. Assumes nothing.
use mathlib.Core.Path.{◌≡◌, refl}
use mathlib.Core.List.{List, [], ◌∷◌, ◌++◌, map}
use Prim.Native.Nat.{ℕ}
use Rattle.ascii.specs.Pick.{pick}
use Rattle.ascii.specs.Written.{bytes}
use Rattle.ascii.specs.Class.{within, is_digit, is_letter, all, among}
use Rattle.text.specs.Utf8.{two, three, four, step_of}
use Rattle.text.specs.White.{white_points, is_white}
use Rattle.text.specs.Content.{content_from, content_of}
use Rattle.forms.specs.declared.form.Fault.{Fault}
use Rattle.forms.specs.declared.form.Fault.TheVariants.{Length, At}
use Rattle.std.specs.Prelude.{Result, Ok, Err, ⊤}
use Rattle.codice.specs.Integer.{is_empty, past, trim_end, is_sign, unsigned, one_or_more_digits, integer_text}
use Rattle.codice.specs.Codice.{failing, codice_of, codice_fault}

-- a text, and what is wrong with it
pub data Case : Type 0 where
  case : List ℕ → Result ⊤ Fault → Case

abbrev found : Case → Result ⊤ Fault
found (case t x) = codice_fault t

abbrev told : Case → Result ⊤ Fault
told (case t x) = x

-- points of two, three and four bytes: é, U+00A0, €, U+1F600
abbrev accent : List ℕ
accent = 0xc3 ∷ 0xa9 ∷ []

abbrev hard : List ℕ
hard = 0xc2 ∷ 0xa0 ∷ []

abbrev euro : List ℕ
euro = 0xe2 ∷ 0x82 ∷ 0xac ∷ []

abbrev face : List ℕ
face = 0xf0 ∷ 0x9f ∷ 0x98 ∷ 0x80 ∷ []

abbrev table : List Case
table =
    case (bytes "ABCDEF+1G 2xyz3H") (Ok tt)
    ∷ case (bytes "RSSMRA85T10A562S") (Ok tt)
    ∷ case (bytes "ABCDE1+1G 2xyz3H") (Err (At 0))
    ∷ case (bytes "ABCDEF++G 2xyz3H") (Err (At 6))
    ∷ case (bytes "ABCDEF 1G 2xyz3H") (Ok tt)
    ∷ case (bytes "ABCDEF1 G 2xyz3H") (Ok tt)
    ∷ case (bytes "ABCDEF  G 2xyz3H") (Err (At 6))
    ∷ case (bytes "ABCDEF+18 2xyz3H") (Err (At 8))
    ∷ case (bytes "ABCDEF+1G2-xyz3H") (Err (At 9))
    ∷ case (bytes "ABCDEF+1G 2xyz+H") (Err (At 14))
    ∷ case (bytes "ABCDEF+1G 2xyz33") (Err (At 15))
    ∷ case (bytes "+1234567890") (Ok tt)
    ∷ case (bytes "12345678901") (Ok tt)
    ∷ case (bytes "++123456789") (Err (At 0))
    ∷ case (bytes "+123456789x") (Err (At 0))
    ∷ case (bytes "1234567890") (Err Length)
    ∷ case (bytes "123456789012") (Err Length)
    -- 16 points of 22 bytes; the place is the byte's
    ∷ case (bytes "ABCDEF+1G 2" ++ accent ++ euro ++ face ++ bytes "3H") (Ok tt)
    ∷ case (bytes "ABCDEF+1G 2" ++ accent ++ euro ++ face ++ bytes "3!") (Err (At 21))
    -- 16 bytes of 15 points; 11 bytes of 10
    ∷ case (bytes "ABCDEF+1G 2x" ++ accent ++ bytes "3H") (Err Length)
    ∷ case (hard ++ bytes "123456789") (Err Length)
    -- white beyond ASCII is trimmed
    ∷ case (hard ++ bytes "1234567890") (Ok tt)
    ∷ case (bytes "ABCDEF" ++ hard ++ bytes "1G 2xyz3H") (Ok tt)
    -- a letter beyond ASCII is none; not well-formed; nothing
    ∷ case (accent ++ bytes "BCDEF+1G 2xyz3H") (Err (At 0))
    ∷ case (bytes "ABCDEF+1G 2xyz3" ++ 0xc3 ∷ []) (Err Length)
    ∷ case [] (Err Length)
    ∷ []

pub cases : map found table ≡ map told table
unfolding pick within is_digit is_letter all two three four step_of among white_points is_white content_from content_of is_empty past trim_end is_sign unsigned one_or_more_digits integer_text failing codice_of codice_fault
cases = refl
