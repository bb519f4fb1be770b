-- The five schemes whose numbers are completed and listed, a row for each.
use Rattle.std.specs.Prelude.{Bool, true, false, Option, List, [], ◌∷◌, ℕ}
use Rattle.std.specs.List.{find}
use Rattle.ascii.specs.Written.{same_bytes}
use Rattle.forms.specs.Form.{Form}
use Rattle.forms.specs.Table.{digits, norwegian, belgian, swedish, australian}
use Rattle.figures.specs.declared.kind.Kind.{Kind}
use Rattle.figures.specs.declared.kind.Kind.TheVariants.{Mod10, Mod11, Mod97, Luhn, Mod89}
use Rattle.rules.specs.declared.rule.Rule.{Rule}
use Rattle.rules.specs.declared.rule.Rule.TheVariants.{R40, R41, R43, R49, R50}
use Rattle.rules.specs.Facts.{facts, scheme_bytes}
use Rattle.corrections.specs.declared.five.Row.{Row}
use Rattle.corrections.specs.declared.five.Five.{Five}
use Rattle.corrections.specs.declared.five.Five.TheVariants.{Gln, Norway, Belgium, Sweden, Australia}

abbrev pub row_from : Rule → Kind → Form → Form → Bool → Bool → Bool → ℕ → Row
row_from rule figure number body pair front gaps lowest = record {
  rule = rule;
  figure = figure;
  least = number.least;
  most = number.most;
  shortest = body.least;
  longest = body.most;
  pair = pair;
  front = front;
  gaps = gaps;
  lowest = lowest;
}

-- the rule, its check figure, the form of a number, that of a body; whether the figure is a pair, whether it goes in front of the body,
-- whether some bodies have none; and the least figure that is written: of two pairs that complete a body of 0151 the one from 11 on
abbrev pub row : Five → Row
row Gln = row_from R40 Mod10 (digits 1 20) (digits 1 19) false false false 0
row Norway = row_from R41 Mod11 norwegian (digits 8 8) false false true 0
row Belgium = row_from R43 Mod97 belgian (digits 8 8) true false false 0
row Sweden = row_from R49 Luhn swedish (digits 9 9) false false false 0
row Australia = row_from R50 Mod89 australian (digits 9 9) true true false 11

abbrev pub rule_of : Five → Rule
rule_of k = (row k).rule

abbrev pub number_form : Five → Form
number_form k = digits (row k).least (row k).most

abbrev pub body_form : Five → Form
body_form k = digits (row k).shortest (row k).longest

-- the scheme that its rule goes by: 0088, 0192, 0208, 0007, 0151
abbrev pub scheme_of : Five → List ℕ
scheme_of k = scheme_bytes (facts (rule_of k)).scheme

-- the one of a list that goes by a scheme
abbrev pub known_in : List ℕ → List Five → Option Five
known_in scheme ks = find (λ k. same_bytes scheme (scheme_of k)) ks

unfoldable pub five_of : List ℕ → Option Five
five_of scheme = known_in scheme (Gln ∷ Norway ∷ Belgium ∷ Sweden ∷ Australia ∷ [])
