-- What a rule finds in a text. Checks, completers, lists and theorems cite `accepts`.
use Rattle.std.specs.Prelude.{Bool, ◌||◌, List, ℕ, take, Ok}
use Rattle.ascii.specs.Pick.{pick}
use Rattle.ascii.specs.Written.{bytes, same_bytes}
use Rattle.forms.specs.Form.{fault_of}
use Rattle.forms.specs.Table.{digits, ipa, dk_and_eight, danish_of, dutch}
use Rattle.codice.specs.Codice.{codice_fault}
use Rattle.figures.specs.declared.finding.Passed.TheVariants.{Through}
use Rattle.figures.specs.Findings.{Finding, is_good, form_only}
use Rattle.figures.specs.Rules.{gln, mod11, mod97, partita_iva, se_orgnr, abn}
use Rattle.rules.specs.declared.rule.Rule.{Rule}
use Rattle.rules.specs.declared.rule.Rule.TheVariants.{R40, R41, R42, R43, R44, R45, R46, R47, R49, R50, R52, R53, R54, R55, R57, R561, R562}

abbrev pub starts_with : List ℕ → List ℕ → Bool
starts_with two s = same_bytes (take 2 s) two

-- `It` is not Italian
unfoldable pub is_italian : List ℕ → Bool
is_italian s = starts_with (bytes "IT") s || starts_with (bytes "it") s

unfoldable pub is_dutch : List ℕ → Bool
is_dutch s = starts_with (bytes "NL") s

-- 47 lets through what is not Italian by its first two bytes, 562 what is not Dutch
abbrev pub finding : Rule → List ℕ → Finding
finding R40 s = gln s
finding R41 s = mod11 s
finding R42 s = form_only (fault_of (danish_of s) s)
finding R43 s = mod97 s
finding R44 s = form_only (fault_of ipa s)
finding R45 s = form_only (codice_fault s)
finding R46 s = form_only (codice_fault s)
finding R47 s = pick (is_italian s) (partita_iva s) (Ok Through)
finding R49 s = se_orgnr s
finding R50 s = abn s
finding R52 s = form_only (fault_of (digits 10 10) s)
finding R53 s = form_only (fault_of dk_and_eight s)
finding R54 s = form_only (fault_of (digits 8 8) s)
finding R55 s = form_only (fault_of (digits 20 20) s)
finding R57 s = form_only (fault_of (digits 12 12) s)
finding R561 s = form_only (fault_of dutch s)
finding R562 s = pick (is_dutch s) (form_only (fault_of dutch s)) (Ok Through)

unfoldable pub accepts : Rule → List ℕ → Bool
accepts r s = is_good (finding r s)
