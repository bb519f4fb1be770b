-- The cell of an answer. Assumes nothing.
use Rattle.std.specs.Prelude.{Option, Some, None}
use Rattle.std.proofs.Common.{◌≡◌, ℕ, ◌+◌, ◌-◌, ◌<◌, refl, ap, ◌∙◌, arith}
use Rattle.ascii.specs.Pick.{pick}
use Rattle.answer.specs.declared.record.Answer.{Answer}
use Rattle.answer.specs.declared.verdict.Verdict.{Verdict}
use Rattle.answer.specs.declared.verdict.Verdict.TheVariants.{NoRule, Accepted, Refused, Unread}
use Rattle.answer.specs.Numbers.{verdict_number}
use Rattle.rules.specs.declared.rule.Rule.{Rule}
use Rattle.rules.specs.Choice.{rule_numbered}
use Rattle.rules.proofs.Every.{index_small, number_back}
use Rattle.tally.specs.Cell.{tally_size, other_cell, cell_by, cell_of, Proper, ruled, unruled, before}
use Rattle.tally.specs.Inner.{first_by}

pub verdict_few : (v : Verdict) → verdict_number v < 4
verdict_few NoRule = omega arith
verdict_few Accepted = omega arith
verdict_few Refused = omega arith
verdict_few Unread = omega arith

pub other_small : (v : Verdict) → other_cell v < tally_size
unfolding pick
other_small NoRule = omega arith
other_small Accepted = omega arith
other_small Refused = omega arith
other_small Unread = omega arith

pub by_small : (x : Option Rule) (v : Verdict) → cell_by x v < tally_size
by_small (Some r) v = omega (arith, index_small r, verdict_few v)
by_small None v = other_small v

pub cell_small : (a : Answer) → cell_of a < tally_size
unfolding cell_of
cell_small a = by_small (rule_numbered a.rule) a.verdict

-- ---- as the code finds it

is_cell : (a : Answer) {k : ℕ} → k ≡ cell_by (rule_numbered a.rule) a.verdict → (k ≡ cell_of a) × (k < tally_size)
unfolding cell_of
is_cell a e = (e, rw e (by_small (rule_numbered a.rule) a.verdict))

none_zero : rule_numbered 0 ≡ None
unfolding rule_numbered pick
none_zero = refl

-- without a rule
pub other_cell_lem : (a : Answer) {k : ℕ} → a.rule ≡ 0 → k ≡ other_cell a.verdict → (k ≡ cell_of a) × (k < tally_size)
other_cell_lem a e ek = is_cell a (ek ∙ rw (e, none_zero))

-- by a rule
pub record ByRule (a : Answer) : Type 0 where
  pub some : Rule
  pub chosen : rule_numbered a.rule ≡ Some some
  pub first : first_by (rule_numbered a.rule) < 51
  pub judged : 0 < verdict_number a.verdict

pub by_rule : (a : Answer) → Proper a → (a.rule ≡ 0 → ⊥) → ByRule a
by_rule a (ruled r e h) n =
    let c : rule_numbered a.rule ≡ Some r = ap rule_numbered e ∙ number_back r in
    record { some = r; chosen = c; first = rw c (omega (arith, index_small r)); judged = h }
by_rule a (unruled e v) n = absurd (n e)
by_rule a (before e v) n = absurd (n e)

pub rule_cell : (a : Answer) {f v : ℕ} → ByRule a → f ≡ first_by (rule_numbered a.rule) → v ≡ verdict_number a.verdict → (f + v - 1 ≡ cell_of a) × (f + v - 1 < tally_size)
rule_cell a {f} {v} b ef ev =
    let k : f + v - 1 ≡ f + (v - 1) = omega (arith, b.judged, ev) in
    is_cell a (rw (k, ef, ev, b.chosen))
