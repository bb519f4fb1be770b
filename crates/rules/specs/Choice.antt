-- Which rule reads a field: by its scheme and its term.
use Rattle.std.specs.Prelude.{not, ◌&&◌, List, [], ◌∷◌, ℕ, ◌==◌, Option, Some, None, Result, Ok, Err}
use Rattle.ascii.specs.Pick.{pick}
use Rattle.ascii.specs.Class.{among}
use Rattle.ascii.specs.Written.{bytes, same_bytes}
use Rattle.answer.specs.declared.reason.Reason.{Reason}
use Rattle.answer.specs.declared.reason.Reason.TheVariants.{Term}
use Rattle.rules.specs.declared.rule.Rule.{Rule}
use Rattle.rules.specs.declared.rule.Rule.TheVariants.{R562}
use Rattle.rules.specs.Facts.{facts, rules, scheme_rules, scheme_bytes}

-- the rule of a list that goes by a scheme, byte for byte
abbrev pub with_scheme : List ℕ → List Rule → Option Rule
with_scheme scheme [] = None
with_scheme scheme (r ∷ rs) = pick (same_bytes scheme (scheme_bytes (facts r).scheme)) (Some r) (with_scheme scheme rs)

unfoldable pub by_scheme : List ℕ → Option Rule
by_scheme scheme = with_scheme scheme scheme_rules

-- the terms that use the scheme, and the terms of a VAT number, which ignore it
abbrev pub scheme_terms : List ℕ
scheme_terms = 29 ∷ 30 ∷ 34 ∷ 46 ∷ 47 ∷ 49 ∷ 60 ∷ 61 ∷ []

abbrev pub vat_terms : List ℕ
vat_terms = 31 ∷ 48 ∷ 63 ∷ []

-- 9907 applies at the electronic addresses only
abbrev pub address_terms : List ℕ
address_terms = 34 ∷ 49 ∷ []

-- the rule at a term that uses the scheme
unfoldable pub at_term : List ℕ → ℕ → Option Rule
at_term scheme term = pick (same_bytes scheme (bytes "9907") && not (among term address_terms)) None (by_scheme scheme)

-- the rule, or none, or there is no such term
unfoldable pub rule_for : List ℕ → ℕ → Result (Option Rule) Reason
rule_for scheme term =
    pick (among term vat_terms) (Ok (Some R562))
    (pick (among term scheme_terms) (Ok (at_term scheme term))
    (Err Term))

-- the rule of a list that has a published number
abbrev pub with_number : ℕ → List Rule → Option Rule
with_number n [] = None
with_number n (r ∷ rs) = pick (n == (facts r).number) (Some r) (with_number n rs)

unfoldable pub rule_numbered : ℕ → Option Rule
rule_numbered n = with_number n rules
