-- Every answer to a line has one cell, two have the same exactly where rule and verdict are the same, and every cell is an answer's. Assumes nothing.
use Rattle.std.specs.Prelude.{Option, Some, None, Result, Ok, Err}
use Rattle.std.proofs.Common.{◌≡◌, ℕ, zero, suc, ◌+◌, ◌-◌, ◌*◌, ◌/◌, ◌%◌, ◌<◌, Bool, true, false, eqb, ltb, List, [], ◌∷◌, get_or, take, sym, refl, ap, ◌∙◌, arith, ltb-false, ltb-true, lt-ltb, eq-eqb, eqb-true}
use borrow.Author.Tests.{eqb-false}
use Rattle.ascii.specs.Pick.{pick}
use Rattle.ascii.proofs.Tests.{both_ways, and_true, true_and, below_at}
use Rattle.answer.specs.declared.record.Answer.{Answer}
use Rattle.answer.specs.declared.reason.Reason.{Reason}
use Rattle.answer.specs.declared.reason.Reason.TheVariants.{Line}
use Rattle.answer.specs.declared.verdict.Verdict.{Verdict}
use Rattle.answer.specs.declared.verdict.Verdict.TheVariants.{NoRule, Accepted, Refused, Unread}
use Rattle.answer.specs.Numbers.{verdict_number}
use Rattle.answer.specs.Answers.{no_rule, refused}
use Rattle.rules.specs.declared.rule.Rule.{Rule}
use Rattle.rules.specs.declared.rule.Rule.TheVariants.{R40}
use Rattle.rules.specs.Facts.{facts, rules}
use Rattle.rules.specs.Choice.{rule_for, rule_numbered}
use Rattle.rules.proofs.Every.{number_back, at_index, index_small}
use Rattle.checks.specs.Check.{on_chosen, check_of}
use Rattle.checks.proofs.Laws.{by_number, by_judged}
use Rattle.lines.specs.Line.{head_ok, term_of, line_content, answer_of}
use Rattle.tally.specs.Cell.{tally_size, other_cell, cell_of, Proper, ruled, unruled, before}
use Rattle.tally.specs.Meaning.{rule_at, verdict_at, is_of}
use Rattle.tally.proofs.Places.{verdict_few, cell_small}

-- ---- the answer to a line

chosen_proper : (x : Result (Option Rule) Reason) (content : List ℕ) → Proper (on_chosen x content)
chosen_proper (Ok (Some r)) content = ruled r (by_number r content) (by_judged r content)
chosen_proper (Ok None) content = unruled refl refl
chosen_proper (Err why) content = before refl refl

pick_proper : (t : Bool) (a b : Answer) → Proper a → Proper b → Proper (pick t a b)
unfolding pick
pick_proper true a b p q = p
pick_proper false a b p q = q

-- every line is answered so
pub line_proper : (l : List ℕ) → Proper (answer_of l)
unfolding answer_of check_of
line_proper l =
    let x = rule_for (take 4 l) (term_of l) in
    pick_proper (head_ok l) (on_chosen x (line_content l)) (refused 0 None Line) (chosen_proper x (line_content l)) (before refl refl)

-- ---- a cell leads back to rule and verdict

abbrev pub Back : Answer → ℕ → Type 0
Back a k = (a.rule ≡ rule_at k) × (verdict_number a.verdict ≡ verdict_at k)

ruled_back : (a : Answer) (r : Rule) (k : ℕ) → a.rule ≡ (facts r).number → 0 < verdict_number a.verdict → k ≡ 3 * (facts r).index + (verdict_number a.verdict - 1) → Back a k
unfolding rule_at verdict_at pick
ruled_back a r k e h ek =
    let small : k < 51 = omega (arith, index_small r, verdict_few a.verdict) in
    let i : k / 3 ≡ (facts r).index = omega (arith, verdict_few a.verdict) in
    let p : verdict_number a.verdict ≡ k % 3 + 1 = omega (arith, verdict_few a.verdict) in
    rw (lt-ltb k 51 small, i, at_index r) (e, p)

cell_ruled : (a : Answer) (r : Rule) → a.rule ≡ (facts r).number → cell_of a ≡ 3 * (facts r).index + (verdict_number a.verdict - 1)
unfolding cell_of
cell_ruled a r e = rw (e, number_back r)

cell_other : (a : Answer) → a.rule ≡ 0 → cell_of a ≡ other_cell a.verdict
unfolding cell_of rule_numbered pick
cell_other a e = rw e

pub back : (a : Answer) → Proper a → Back a (cell_of a)
unfolding rule_at verdict_at pick
back a (ruled r e h) = ruled_back a r (cell_of a) e h (cell_ruled a r e)
back a (unruled e v) = rw (cell_other a e, v) (e, refl)
back a (before e v) = rw (cell_other a e, v) (e, refl)

-- ---- the same cell

abbrev verdicts : List Verdict
verdicts = NoRule ∷ Accepted ∷ Refused ∷ Unread ∷ []

verdict_back : (v : Verdict) → get_or verdicts (verdict_number v) NoRule ≡ v
verdict_back NoRule = refl
verdict_back Accepted = refl
verdict_back Refused = refl
verdict_back Unread = refl

same_verdict : (v w : Verdict) → verdict_number v ≡ verdict_number w → v ≡ w
same_verdict v w e = sym (verdict_back v) ∙ ap (λ (k : ℕ). get_or verdicts k NoRule) e ∙ verdict_back w

-- Two answers share a cell exactly where rule and verdict are the same.
pub shares : (a b : Answer) → Proper a → Proper b → cell_of a ≡ cell_of b → (a.rule ≡ b.rule) × (a.verdict ≡ b.verdict)
shares a b p q e =
    let x = back a p in
    let y = back b q in
    (x.0 ∙ ap rule_at e ∙ sym y.0, same_verdict a.verdict b.verdict (x.1 ∙ ap verdict_at e ∙ sym y.1))

pub shared : (a b : Answer) → a.rule ≡ b.rule → a.verdict ≡ b.verdict → cell_of a ≡ cell_of b
unfolding cell_of
shared a b e f = rw (e, f)

pub same_cell : (a b : Answer) → Proper a → Proper b → eqb (cell_of a) (cell_of b) ≡ is_of b.rule (verdict_number b.verdict) a
same_cell a b p q =
    both_ways (eqb (cell_of a) (cell_of b)) (is_of b.rule (verdict_number b.verdict) a)
    (λ e.
    let s = shares a b p q (eqb-true _ _ e) in
    true_and _ _ (eq-eqb _ _ s.0) (eq-eqb _ _ (ap verdict_number s.1)))
    (λ e.
    let s = and_true (eqb a.rule b.rule) (eqb (verdict_number a.verdict) (verdict_number b.verdict)) e in
    eq-eqb _ _ (shared a b (eqb-true _ _ s.0) (same_verdict a.verdict b.verdict (eqb-true _ _ s.1))))

-- Every line's answer has a cell.
pub line_cell : (l : List ℕ) → cell_of (answer_of l) < tally_size
line_cell l = cell_small (answer_of l)

-- ---- every cell

-- a proper answer whose cell it is
pub record Owner (k : ℕ) : Type 0 where
  pub answer : Answer
  pub proper : Proper answer
  pub here : cell_of answer ≡ k

-- the rule at an index has it
index_at : (i : ℕ) → i < 17 → (facts (get_or rules i R40)).index ≡ i
index_at i h = eqb-true _ _ (below_at 17 (λ i. eqb (facts (get_or rules i R40)).index i) refl i h)

owned : (i : ℕ) (v : Verdict) → i < 17 → 0 < verdict_number v → Owner (3 * i + (verdict_number v - 1))
owned i v h n =
    let r = get_or rules i R40 in
    let a : Answer = record { verdict = v; rule = (facts r).number; severity = None; reason = None } in
    record { answer = a; proper = ruled r refl n; here = cell_ruled a r refl ∙ rw (index_at i h) }

by_rule : (k p : ℕ) → k < 51 → p ≡ k % 3 → Owner k
by_rule k zero h e = rw e' (owned (k / 3) Accepted (omega arith) (omega arith))
  where
    e' : k ≡ 3 * (k / 3) + 0
    e' = omega (arith, e)
by_rule k (suc zero) h e = rw e' (owned (k / 3) Refused (omega arith) (omega arith))
  where
    e' : k ≡ 3 * (k / 3) + 1
    e' = omega (arith, e)
by_rule k (suc (suc p)) h e = rw e' (owned (k / 3) Unread (omega arith) (omega arith))
  where
    e' : k ≡ 3 * (k / 3) + 2
    e' = omega (arith, e)

zero_verdict : other_cell NoRule ≡ 51
unfolding pick
zero_verdict = refl

two_verdict : other_cell Refused ≡ 52
unfolding pick
two_verdict = refl

-- Each of the 53 counts is of one rule and one verdict.
pub every_cell : (k : ℕ) → k < tally_size → Owner k
every_cell k h = at_tests (ltb k 51) (eqb k 51) refl refl
  where
    at_tests : (t u : Bool) → ltb k 51 ≡ t → eqb k 51 ≡ u → Owner k
    at_tests true u e f = by_rule k (k % 3) (ltb-true k 51 e) refl
    at_tests false true e f =
        record { answer = no_rule; proper = unruled refl refl; here = cell_other no_rule refl ∙ zero_verdict ∙ sym (eqb-true k 51 f) }
    at_tests false false e f =
        let last : k ≡ 52 = omega (arith, h, ltb-false k 51 e, eqb-false k 51 f) in
        let a = refused 0 None Line in
        record { answer = a; proper = before refl refl; here = cell_other a refl ∙ two_verdict ∙ sym last }
