-- What the counts mean: lines that are fed to a tally one after the other. Assumes nothing.
use Rattle.std.proofs.Common.{◌≡◌, ℕ, zero, suc, ◌+◌, ◌-◌, ◌<◌, ◌≤◌, min, Bool, true, false, eqb, leb, List, [], ◌∷◌, ◌++◌, length, get_or, take, drop, set, replicate, sym, refl, ap, ◌∙◌, add-zero, zero-add, arith, length-set, length-take, get_or-set_other, get_or-set_same, eqb-true, le-leb, leb-false, leb-true}
use lib.ListN.{length-replicate}
use Rattle.std.proofs.lemmas.List.Folds.{sum_by-replicate}
use borrow.Author.Tests.{lt-leb, eqb-false}
use Rattle.ascii.specs.Pick.{pick}
use Rattle.answer.specs.declared.record.Answer.{Answer}
use Rattle.answer.specs.Numbers.{verdict_number}
use Rattle.lines.specs.Line.{answer_of}
use Rattle.lines.specs.Lines.{answers_to}
use Rattle.tally.specs.Cell.{tally_size, cell_of, Proper}
use Rattle.tally.specs.Tally.{fresh, sum_of, limit, is_full, full_answer, one_more, fed, replies, after}
use Rattle.tally.specs.Meaning.{rule_at, verdict_at, how_many, refusals}
use Rattle.tally.proofs.Answers.{back, same_cell, line_proper, line_cell, every_cell}
use Rattle.tally.proofs.Feeding.{total_more, count_le}

-- ---- one line

module _ (counts line : List ℕ) where
  pub fed_refused : limit ≤ sum_of counts → fed counts line ≡ record { answer = full_answer; counts = counts }
  unfolding fed is_full pick
  fed_refused h = rw (le-leb limit (sum_of counts) h)

  pub fed_taken : sum_of counts < limit → fed counts line ≡ record { answer = answer_of line; counts = one_more counts (cell_of (answer_of line)) }
  unfolding fed is_full pick
  fed_taken h = rw (lt-leb limit (sum_of counts) h)

pub by_full : {P : Type 0} (counts : List ℕ) → (limit ≤ sum_of counts → P) → (sum_of counts < limit → P) → P
by_full {P} counts f g = at_leb (leb limit (sum_of counts)) refl
  where
    at_leb : (t : Bool) → leb limit (sum_of counts) ≡ t → P
    at_leb true e = f (leb-true limit (sum_of counts) e)
    at_leb false e = g (omega (arith, leb-false limit (sum_of counts) e))

more_length : (counts : List ℕ) (k : ℕ) → length (one_more counts k) ≡ length counts
unfolding one_more
more_length counts k = length-set counts k (get_or counts k 0 + 1)

pub fed_length : (counts line : List ℕ) → length (fed counts line).counts ≡ length counts
fed_length counts line =
    by_full counts (λ h. rw (fed_refused counts line h))
    (λ h. rw (fed_taken counts line h) (more_length counts (cell_of (answer_of line))))

-- ---- the lines that are counted are the first ones, up to the limit

-- a full tally changes no further, and refuses every line
pub after_full : (counts : List ℕ) (ls : List (List ℕ)) → limit ≤ sum_of counts → after counts ls ≡ counts
unfolding after
after_full counts [] h = refl
after_full counts (l ∷ ls) h = rw (fed_refused counts l h) (after_full counts ls h)

pub replies_full : (counts : List ℕ) (ls : List (List ℕ)) → limit ≤ sum_of counts → replies counts ls ≡ refusals ls
unfolding replies
replies_full counts [] h = refl
replies_full counts (l ∷ ls) h = rw (fed_refused counts l h) (ap (λ (xs : List Answer). full_answer ∷ xs) (replies_full counts ls h))

-- the counts after lines of which all are counted
abbrev raised_by : List ℕ → List (List ℕ) → List ℕ
raised_by counts [] = counts
raised_by counts (l ∷ ls) = raised_by (one_more counts (cell_of (answer_of l))) ls

record Told (n : ℕ) (counts : List ℕ) (ls : List (List ℕ)) : Type 0 where
  then : after counts ls ≡ raised_by counts (take n ls)
  said : replies counts ls ≡ answers_to (take n ls) ++ refusals (drop n ls)

by_limit : (n : ℕ) (counts : List ℕ) (ls : List (List ℕ)) → n ≡ limit - sum_of counts → length counts ≡ tally_size → Told n counts ls
unfolding after replies answers_to
by_limit zero counts ls e h =
    let f : limit ≤ sum_of counts = omega (arith, e) in
    record { then = after_full counts ls f; said = replies_full counts ls f }
by_limit (suc n) counts [] e h = record { then = refl; said = refl }
by_limit (suc n) counts (l ∷ ls) e h =
    let f : sum_of counts < limit = omega (arith, e) in
    let c = cell_of (answer_of l) in
    let small : c < length counts = omega (arith, line_cell l, h) in
    let left : n ≡ limit - sum_of (one_more counts c) = omega (arith, e, total_more counts c small) in
    let rest = by_limit n (one_more counts c) ls left (more_length counts c ∙ h) in
    record {
      then = rw (fed_taken counts l f) rest.then;
      said = rw (fed_taken counts l f) (ap (λ (xs : List Answer). answer_of l ∷ xs) rest.said);
    }

-- ---- each count

-- how many of some lines go to a cell
abbrev in_cell : ℕ → List (List ℕ) → ℕ
in_cell k [] = 0
in_cell k (l ∷ ls) = pick (eqb (cell_of (answer_of l)) k) 1 0 + in_cell k ls

more_at : (counts : List ℕ) (c k : ℕ) → c < length counts → get_or (one_more counts c) k 0 ≡ get_or counts k 0 + pick (eqb c k) 1 0
unfolding one_more pick
more_at counts c k h = at_eqb (eqb c k) refl
  where
    at_eqb : (t : Bool) → eqb c k ≡ t → get_or (set counts c (get_or counts c 0 + 1)) k 0 ≡ get_or counts k 0 + pick (eqb c k) 1 0
    at_eqb true e = rw (e, ← eqb-true c k e) (get_or-set_same counts c (get_or counts c 0 + 1) 0 h)
    at_eqb false e = rw (e, add-zero (get_or counts k 0)) (get_or-set_other counts c k (get_or counts c 0 + 1) 0 (λ q. eqb-false c k e (sym q)))

count_at : (counts : List ℕ) (ls : List (List ℕ)) (k : ℕ) → length counts ≡ tally_size → get_or (raised_by counts ls) k 0 ≡ get_or counts k 0 + in_cell k ls
count_at counts [] k h = omega arith
count_at counts (l ∷ ls) k h =
    let c = cell_of (answer_of l) in
    omega (arith, count_at (one_more counts c) ls k (more_length counts c ∙ h), more_at counts c k (omega (arith, line_cell l, h)))

sum_at : (counts : List ℕ) (ls : List (List ℕ)) → length counts ≡ tally_size → sum_of (raised_by counts ls) ≡ sum_of counts + length ls
sum_at counts [] h = omega arith
sum_at counts (l ∷ ls) h =
    let c = cell_of (answer_of l) in
    omega (arith, sum_at (one_more counts c) ls (more_length counts c ∙ h), total_more counts c (omega (arith, line_cell l, h)))

-- ---- from a fresh tally

zeros : (n k : ℕ) → get_or {A = ℕ} (replicate n 0) k 0 ≡ 0
zeros zero k = refl
zeros (suc n) zero = refl
zeros (suc n) (suc k) = zeros n k

no_sum : (n : ℕ) → sum_of (replicate n 0) ≡ 0
no_sum n = omega (arith, sum_by-replicate (λ x. x) n 0)

fresh_size : length fresh ≡ tally_size
fresh_size = length-replicate {A = ℕ} tally_size 0

from_fresh : (ls : List (List ℕ)) → Told limit fresh ls
from_fresh ls = by_limit limit fresh ls (omega (arith, no_sum tally_size)) fresh_size

in_cell_lem : (a : Answer) → Proper a → (ls : List (List ℕ)) → in_cell (cell_of a) ls ≡ how_many a.rule (verdict_number a.verdict) ls
in_cell_lem a p [] = refl
in_cell_lem a p (l ∷ ls) = rw (in_cell_lem a p ls, same_cell (answer_of l) a (line_proper l) p)

same_kind : (a : Answer) {r v : ℕ} (ls : List (List ℕ)) → a.rule ≡ r → verdict_number a.verdict ≡ v → how_many a.rule (verdict_number a.verdict) ls ≡ how_many r v ls
same_kind a {r} ls e f =
    ap (λ (x : ℕ). how_many x (verdict_number a.verdict) ls) e ∙ ap (λ (y : ℕ). how_many r y ls) f

each_in : (ls : List (List ℕ)) (k : ℕ) → k < tally_size → get_or (raised_by fresh ls) k 0 ≡ how_many (rule_at k) (verdict_at k) ls
each_in ls k h =
    let o = every_cell k h in
    let a = o.answer in
    let b = back a o.proper in
    count_at fresh ls k fresh_size
    ∙ ap (λ (n : ℕ). n + in_cell k ls) (zeros tally_size k)
    ∙ zero-add (in_cell k ls)
    ∙ ap (λ (c : ℕ). in_cell c ls) (sym o.here)
    ∙ in_cell_lem a o.proper ls
    ∙ same_kind a ls (b.0 ∙ ap rule_at o.here) (b.1 ∙ ap verdict_at o.here)

-- Each count is how many of the lines that are counted have its rule and verdict.
pub each_count : (ls : List (List ℕ)) (k : ℕ) → k < tally_size → get_or (after fresh ls) k 0 ≡ how_many (rule_at k) (verdict_at k) (take limit ls)
each_count ls k h = ap (λ (c : List ℕ). get_or c k 0) (from_fresh ls).then ∙ each_in (take limit ls) k h

-- The counts add up to the number of lines that are counted: all of them, up to the limit.
pub in_all : (ls : List (List ℕ)) → sum_of (after fresh ls) ≡ min limit (length ls)
in_all ls =
    ap sum_of (from_fresh ls).then
    ∙ sum_at fresh (take limit ls) fresh_size
    ∙ rw (no_sum tally_size, length-take limit ls) (zero-add (min limit (length ls)))

-- No count passes the limit.
pub none_passes : (ls : List (List ℕ)) (k : ℕ) → get_or (after fresh ls) k 0 ≤ limit
none_passes ls k = omega (arith, count_le (after fresh ls) k, in_all ls)

-- Every line is answered as it is without a tally, and those past the limit are refused.
pub answered_alike : (ls : List (List ℕ)) → replies fresh ls ≡ answers_to (take limit ls) ++ refusals (drop limit ls)
answered_alike ls = (from_fresh ls).said
