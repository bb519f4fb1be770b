-- What is fixed about each rule: its place in the order of rules, its published number, its severity, the scheme that it goes by, and how it
-- reads a content.
use Rattle.std.specs.Prelude.{List, [], ◌∷◌, ℕ, take, Option, Some, None}
use Prim.Native.String.{String}
use Rattle.ascii.specs.Written.{bytes}
use Rattle.answer.specs.declared.severity.Severity.{Severity}
use Rattle.answer.specs.declared.severity.Severity.TheVariants.{Fatal, Warning}
use Rattle.text.specs.declared.reading.Reading.TheVariants.{AsItStands, Normalised}
use Rattle.rules.specs.declared.rule.Fixed.{Fixed}
use Rattle.rules.specs.declared.rule.Rule.{Rule}
use Rattle.rules.specs.declared.rule.Rule.TheVariants.{R40, R41, R42, R43, R44, R45, R46, R47, R49, R50, R52, R53, R54, R55, R57, R561, R562}

-- a scheme as it is written: a code of the EAS list
abbrev pub eas : String → Option (List ℕ)
eas s = Some (bytes s)

-- "norm" reads normalised content, "raw" the content as it stands
abbrev pub norm : ℕ → ℕ → Severity → Option (List ℕ) → Fixed
norm i n s scheme = record { index = i; number = n; severity = s; scheme = scheme; reading = Normalised }

abbrev pub raw : ℕ → ℕ → Severity → Option (List ℕ) → Fixed
raw i n s scheme = record { index = i; number = n; severity = s; scheme = scheme; reading = AsItStands }

abbrev pub facts : Rule → Fixed
facts R40 = norm 0 40 Fatal (eas "0088")
facts R41 = norm 1 41 Fatal (eas "0192")
facts R42 = raw 2 42 Fatal (eas "0184")
facts R43 = norm 3 43 Fatal (eas "0208")
facts R44 = norm 4 44 Warning (eas "0201")
facts R45 = norm 5 45 Warning (eas "0210")
facts R46 = norm 6 46 Warning (eas "9907")
facts R47 = norm 7 47 Warning (eas "0211")
facts R49 = norm 8 49 Fatal (eas "0007")
facts R50 = norm 9 50 Fatal (eas "0151")
facts R52 = raw 10 52 Fatal (eas "0096")
facts R53 = raw 11 53 Fatal (eas "0198")
facts R54 = norm 12 54 Warning (eas "0106")
facts R55 = norm 13 55 Warning (eas "0190")
facts R57 = norm 14 57 Warning (eas "0217")
facts R561 = norm 15 561 Warning (eas "9944")
-- 562 goes by the term alone
facts R562 = norm 16 562 Warning None

-- in the order of their numbers
abbrev pub rules : List Rule
rules =
    R40 ∷ R41 ∷ R42 ∷ R43 ∷ R44 ∷ R45 ∷ R46 ∷ R47 ∷ R49 ∷ R50 ∷ R52 ∷ R53 ∷ R54 ∷ R55 ∷ R57 ∷ R561 ∷ R562 ∷ []

-- the rules that go by a scheme: all but the last
abbrev pub scheme_rules : List Rule
scheme_rules = take 16 rules

-- the bytes of a rule's scheme
abbrev pub scheme_bytes : Option (List ℕ) → List ℕ
scheme_bytes (Some s) = s
scheme_bytes None = []
