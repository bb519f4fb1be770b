-- Which of a tally's counts an answer goes to, by its rule and its verdict.
use Rattle.std.specs.Prelude.{Option, Some, None, ◌≡◌, ℕ, ◌+◌, ◌-◌, ◌*◌, ◌<◌, ◌==◌}
use Rattle.ascii.specs.Pick.{pick}
use Rattle.answer.specs.declared.record.Answer.{Answer}
use Rattle.answer.specs.declared.verdict.Verdict.{Verdict}
use Rattle.answer.specs.declared.verdict.Verdict.TheVariants.{NoRule, Refused}
use Rattle.answer.specs.Numbers.{verdict_number}
use Rattle.rules.specs.declared.rule.Rule.{Rule}
use Rattle.rules.specs.Facts.{facts}
use Rattle.rules.specs.Choice.{rule_numbered}

-- how many counts: 17 rules with three verdicts each, and two others
abbrev pub tally_size : ℕ
tally_size = 53

-- the two others: no rule reads the field (verdict 0); refused before a rule is chosen
abbrev pub other_cell : Verdict → ℕ
other_cell v = pick (verdict_number v == 0) 51 52

-- three for each rule, in the order of their numbers: for verdicts 1, 2 and 3
abbrev pub cell_by : Option Rule → Verdict → ℕ
cell_by (Some r) v = 3 * (facts r).index + (verdict_number v - 1)
cell_by None v = other_cell v

unfoldable pub cell_of : Answer → ℕ
cell_of a = cell_by (rule_numbered a.rule) a.verdict

-- the answers that a line can have
pub data Proper : Answer → Type 0 where
  ruled : {a : Answer} (r : Rule) → a.rule ≡ (facts r).number → 0 < verdict_number a.verdict → Proper a
  unruled : {a : Answer} → a.rule ≡ 0 → a.verdict ≡ NoRule → Proper a
  before : {a : Answer} → a.rule ≡ 0 → a.verdict ≡ Refused → Proper a
