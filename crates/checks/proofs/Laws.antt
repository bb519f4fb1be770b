-- The promise of a check has no second answer; and the numbers that an answer can carry. Assumes nothing.
use mathlib.Core.Path.{◌≡◌, refl, sym, ◌∙◌}
use mathlib.Core.List.{List}
use Prim.Native.Nat.{ℕ, ◌<◌}
use native.Mathlib.Omega.{arith}
use Rattle.std.specs.Prelude.{Option, Some, None, Result, Ok, Err}
use Rattle.answer.specs.declared.record.Answer.{Answer}
use Rattle.answer.specs.declared.reason.Reason.{Reason}
use Rattle.answer.specs.declared.severity.Severity.{Severity}
use Rattle.answer.specs.Numbers.{verdict_number}
use Rattle.figures.specs.declared.finding.Passed.TheVariants.{Good, Through}
use Rattle.figures.specs.Findings.{Finding}
use Rattle.rules.specs.declared.rule.Rule.{Rule}
use Rattle.rules.specs.Finding.{finding}
use Rattle.rules.specs.Facts.{facts}
use Rattle.rules.specs.Choice.{rule_for}
use Rattle.rules.proofs.Every.{number_small}
use Rattle.checks.specs.Reading.{found_in, answered}
use Rattle.checks.specs.Check.{answer_by, on_chosen, check_of}

pub one_answer : (scheme : List ℕ) (term : ℕ) (content : List ℕ) (a b : Answer) → a ≡ check_of scheme term content → b ≡ check_of scheme term content → a ≡ b
one_answer scheme term content a b e f = e ∙ sym f

-- an answer carries the number that it is given ..
answered_rule : (n : ℕ) (s : Option Severity) (f : Finding) → (answered n s f).rule ≡ n
answered_rule n s (Ok Good) = refl
answered_rule n s (Ok Through) = refl
answered_rule n s (Err problem) = refl

-- .. and no verdict 0
answered_judged : (n : ℕ) (s : Option Severity) (f : Finding) → 0 < verdict_number (answered n s f).verdict
answered_judged n s (Ok Good) = omega arith
answered_judged n s (Ok Through) = omega arith
answered_judged n s (Err problem) = omega arith

-- the answer of a rule
module _ (r : Rule) (content : List ℕ) where
  abbrev found : Finding
  found = found_in (facts r).reading (finding r) content

  pub by_number : (answer_by r content).rule ≡ (facts r).number
  unfolding answer_by
  by_number = answered_rule (facts r).number (Some (facts r).severity) found

  pub by_judged : 0 < verdict_number (answer_by r content).verdict
  unfolding answer_by
  by_judged = answered_judged (facts r).number (Some (facts r).severity) found

chosen_small : (x : Result (Option Rule) Reason) (content : List ℕ) → (on_chosen x content).rule < 1000
chosen_small (Ok (Some r)) content = rw (by_number r content) (number_small r)
chosen_small (Ok None) content = omega arith
chosen_small (Err why) content = omega arith

-- a rule's number has at most three digits
pub rule_small : (scheme : List ℕ) (term : ℕ) (content : List ℕ) → (check_of scheme term content).rule < 1000
unfolding check_of
rule_small scheme term content = chosen_small (rule_for scheme term) content
