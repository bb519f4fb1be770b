-- What the counts after a history say, told without feeding. No promise cites it; the laws of proofs/Histories do.
use Rattle.std.specs.Prelude.{ℕ, ◌+◌, ◌/◌, ◌%◌, Bool, ◌&&◌, List, [], ◌∷◌, ◌==◌, nat_lt, slice_index_or}
use Rattle.ascii.specs.Pick.{pick}
use Rattle.answer.specs.declared.record.Answer.{Answer}
use Rattle.answer.specs.Numbers.{verdict_number}
use Rattle.rules.specs.declared.rule.Rule.TheVariants.{R40}
use Rattle.rules.specs.Facts.{facts, rules}
use Rattle.lines.specs.Line.{answer_of}
use Rattle.tally.specs.Tally.{full_answer}

-- the rule and the verdict of the count at a place, as numbers
unfoldable pub rule_at : ℕ → ℕ
rule_at k = pick (nat_lt k 51) (facts (slice_index_or rules (k / 3) R40)).number 0

unfoldable pub verdict_at : ℕ → ℕ
verdict_at k = pick (nat_lt k 51) (k % 3 + 1) (pick (k == 51) 0 2)

abbrev pub is_of : ℕ → ℕ → Answer → Bool
is_of rule verdict a = a.rule == rule && verdict_number a.verdict == verdict

-- how many lines are answered with a rule and a verdict
abbrev pub how_many : ℕ → ℕ → List (List ℕ) → ℕ
how_many rule verdict [] = 0
how_many rule verdict (l ∷ ls) = pick (is_of rule verdict (answer_of l)) 1 0 + how_many rule verdict ls

-- a refusal for each line
abbrev pub refusals : List (List ℕ) → List Answer
refusals [] = []
refusals (l ∷ ls) = full_answer ∷ refusals ls
