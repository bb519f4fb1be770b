-- Adding up counts, and feeding a line. Assumes nothing.
use Rattle.std.proofs.Common.{◌≡◌, ℕ, ◌+◌, ◌-◌, ◌%◌, ◌<◌, ◌≤◌, Bool, true, false, eqb, leb, List, length, get_or, sym, refl, ◌∙◌, arith, eq-eqb, ne_eqb, leb-false, leb-true}
use Rattle.std.proofs.lemmas.Grind.{common_steps}
use Rattle.std.proofs.lemmas.List.Sums.{sum_by-set, get_or-le-sum_by}
use Rattle.ascii.specs.Pick.{pick}
use Rattle.lines.specs.Line.{answer_of}
use Rattle.tally.specs.Cell.{cell_of}
use Rattle.tally.specs.Tally.{sum_of, limit, is_full, one_more, fed}
use Rattle.tally.specs.Inner.{left_in, raised, fed_if}

-- ---- the sum

-- a count is no more than the sum
pub count_le : (counts : List ℕ) (k : ℕ) → get_or counts k 0 ≤ sum_of counts
count_le counts k = grind (arith, common_steps, get_or-le-sum_by (λ x. x) counts k 0)

-- one more in a cell is one more in the sum
pub total_more : (counts : List ℕ) (k : ℕ) → k < length counts → sum_of (one_more counts k) ≡ sum_of counts + 1
unfolding one_more
total_more counts k h = omega (arith, sum_by-set (λ x. x) counts k (get_or counts k 0 + 1) 0 h)

-- ---- whether a tally is full

pub full_left : (counts : List ℕ) → eqb (left_in counts) 0 ≡ is_full counts
unfolding left_in is_full
full_left counts = at_leb (leb limit (sum_of counts)) refl
  where
    at_leb : (t : Bool) → leb limit (sum_of counts) ≡ t → eqb (limit - sum_of counts) 0 ≡ leb limit (sum_of counts)
    at_leb true e = eq-eqb (limit - sum_of counts) 0 (omega (arith, leb-true limit (sum_of counts) e)) ∙ sym e
    at_leb false e = ne_eqb (limit - sum_of counts) 0 (λ z. absurd (omega (arith, leb-false limit (sum_of counts) e, z))) ∙ sym e

-- ---- one who knows whether it is full feeds as the tally itself

raised_more : (counts : List ℕ) (k : ℕ) → sum_of counts < limit → raised counts k ≡ one_more counts k
unfolding raised one_more
raised_more counts k h =
    let e : (get_or counts k 0 + 1) % 4294967296 ≡ get_or counts k 0 + 1 = omega (arith, count_le counts k) in
    rw e

pub fed_known : (counts line : List ℕ) → fed_if (is_full counts) counts line ≡ fed counts line
unfolding fed_if fed is_full pick
fed_known counts line = at_leb (leb limit (sum_of counts)) refl
  where
    at_leb : (t : Bool) → leb limit (sum_of counts) ≡ t → fed_if (is_full counts) counts line ≡ fed counts line
    at_leb true e = rw e
    at_leb false e = rw (e, raised_more counts (cell_of (answer_of line)) (omega (arith, leb-false limit (sum_of counts) e)))

-- and so does one who knows how many more lines are counted
pub fed_by_left : (counts line : List ℕ) (more : ℕ) → more ≡ left_in counts → fed_if (eqb more 0) counts line ≡ fed counts line
fed_by_left counts line more e = rw (e, full_left counts) (fed_known counts line)
