-- Lines that are fed one after the other by a loop that knows how many more are counted. Assumes nothing.
use Rattle.std.proofs.Common.{◌≡◌, ℕ, ◌-◌, ◌<◌, eqb, List, [], ◌∷◌, ◌++◌, length, sym, refl, ap, ◌∙◌, arith}
use Rattle.answer.specs.declared.record.Answer.{Answer}
use Rattle.lines.specs.Line.{answer_of}
use Rattle.tally.specs.declared.counts.Fed.{Fed}
use Rattle.tally.specs.Cell.{tally_size, cell_of}
use Rattle.tally.specs.Tally.{fed, replies, after}
use Rattle.tally.specs.Inner.{left_in, fed_if, fed_in}
use Rattle.tally.proofs.Places.{cell_small}
use Rattle.tally.proofs.Feeding.{fed_by_left, total_more}
use Rattle.tally.proofs.Histories.{by_full, fed_refused, fed_taken, fed_length}

-- ---- histories one after the other

pub replies_append : (counts : List ℕ) (ls ms : List (List ℕ)) → replies counts (ls ++ ms) ≡ replies counts ls ++ replies (after counts ls) ms
unfolding replies after
replies_append counts [] ms = refl
replies_append counts (l ∷ ls) ms =
    ap (λ (xs : List Answer). (fed counts l).answer ∷ xs) (replies_append (fed counts l).counts ls ms)

pub after_append : (counts : List ℕ) (ls ms : List (List ℕ)) → after counts (ls ++ ms) ≡ after (after counts ls) ms
unfolding after
after_append counts [] ms = refl
after_append counts (l ∷ ls) ms = after_append (fed counts l).counts ls ms

replies_one : (counts l : List ℕ) → replies counts (l ∷ []) ≡ (fed counts l).answer ∷ []
unfolding replies
replies_one counts l = refl

after_one : (counts l : List ℕ) → after counts (l ∷ []) ≡ (fed counts l).counts
unfolding after
after_one counts l = refl

-- no line
pub after_none : (counts : List ℕ) → after counts [] ≡ counts
unfolding after
after_none counts = refl

-- a line is answered by one answer
pub replies_length : (counts : List ℕ) (ls : List (List ℕ)) → length (replies counts ls) ≡ length ls
unfolding replies
replies_length counts [] = refl
replies_length counts (l ∷ ls) = omega (arith, replies_length (fed counts l).counts ls)

-- ---- the loop

left_fed : (counts line : List ℕ) → length counts ≡ tally_size → left_in (fed counts line).counts ≡ left_in counts - 1
unfolding left_in
left_fed counts line size =
    by_full counts (λ h. rw (fed_refused counts line h) (omega arith))
    (λ h.
    let small : cell_of (answer_of line) < length counts = omega (arith, cell_small (answer_of line)) in
    rw (fed_taken counts line h) (omega (arith, total_more counts (cell_of (answer_of line)) small)))

-- `counts₀` has become `counts` by the lines that are done, and so many more are counted as `more` says
pub record Running (counts₀ counts : List ℕ) (more : ℕ) (done : List (List ℕ)) : Type 0 where
  pub counted : counts ≡ after counts₀ done
  pub known : more ≡ left_in counts
  pub size : length counts ≡ tally_size

pub running_none : (counts : List ℕ) (more : ℕ) → more ≡ left_in counts → length counts ≡ tally_size → Running counts counts more []
running_none counts more e size = record { counted = sym (after_none counts); known = e; size = size }

module _ {counts₀ counts counts' : List ℕ} {more : ℕ} {done : List (List ℕ)} {a : Answer} (line : List ℕ) (r : Running counts₀ counts more done)
    (e : fed_in a counts' ≡ fed_if (eqb more 0) counts line) where
  is_fed : fed_in a counts' ≡ fed counts line
  is_fed = e ∙ fed_by_left counts line more r.known

  pub running_reply : replies counts₀ (done ++ line ∷ []) ≡ replies counts₀ done ++ a ∷ []
  running_reply =
      replies_append counts₀ done (line ∷ [])
      ∙ rw (← r.counted, replies_one counts line, ← is_fed)

  pub running_line : {more' : ℕ} → more' ≡ more - 1 → Running counts₀ counts' more' (done ++ line ∷ [])
  running_line eo =
      let c : counts' ≡ (fed counts line).counts = ap (λ (f : Fed). f.counts) is_fed in
      record {
        counted = sym (after_append counts₀ done (line ∷ []) ∙ rw (← r.counted, after_one counts line) (sym c));
        known = rw c (eo ∙ ap (λ (n : ℕ). n - 1) r.known ∙ sym (left_fed counts line r.size));
        size = rw c (fed_length counts line ∙ r.size);
      }
