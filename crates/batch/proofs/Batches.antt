-- Many lines at once: what is written for the first of them, and what remains. Assumes nothing.
use Rattle.std.proofs.Common.{slice_set, slice_index_or, ◌≡◌, sym, ◌⊎◌, inl, inr, ℕ, suc, ◌+◌, ◌-◌, ◌*◌, ◌/◌, ◌<◌, ◌≤◌, List, [], ◌∷◌, ◌++◌, length, take, drop, refl, ap, ◌∙◌, true, arith, length-append, eqb}
use Rattle.std.proofs.lemmas.Fn.{FoldsTo-push, chained_keeps}
use Rattle.std.specs.List.{FoldsTo}
use Rattle.ascii.specs.Area.{Put}
use Rattle.ascii.proofs.Area.{put_stores}
use Rattle.answer.specs.declared.record.Answer.{Answer}
use Rattle.answer.specs.Answers.{answer_numbers, in_turn}
use Rattle.lines.specs.Line.{answer_of}
use Rattle.lines.specs.Lines.{lines_of, answers_to}
use Rattle.lines.proofs.Feeding.{First, Through, through_none, through_line, through_ended, Said, said_none, said_more, said_size, none_left, end_left}
use Rattle.tally.specs.Tally.{replies}
use Rattle.tally.specs.Inner.{fed_if, fed_in}
use Rattle.tally.proofs.Running.{Running, running_reply, running_line}
use Rattle.batch.specs.Batch.{numbers_each, batched, BatchRight, TallyRight}
use Rattle.batch.specs.Inner.{AnswersNext, EachRight}

-- ---- the numbers of an answer

-- stored one behind the other
pub put_numbers : (a : Answer) (l ns : List ℕ) (at : ℕ) → at + numbers_each ≤ length l → ns ≡ answer_numbers a
    → Put numbers_each l at (answer_numbers a) (at + 4)
    (slice_set (slice_set (slice_set (slice_set l at (slice_index_or ns 0 0)) (at + 1) (slice_index_or ns 1 0)) (at + 2) (slice_index_or ns 2 0)) (at + 3) (slice_index_or ns 3 0))
unfolding answer_numbers
put_numbers a l ns at h e =
    let one : at + 1 ≡ suc at = omega arith in
    let two : at + 2 ≡ suc (suc at) = omega arith in
    let three : at + 3 ≡ suc (suc (suc at)) = omega arith in
    rw (e, one, two, three) (put_stores refl (omega arith) (omega arith) (omega arith))

numbers_long : (xs : List Answer) → length (in_turn answer_numbers xs) ≡ numbers_each * length xs
unfolding in_turn answer_numbers
numbers_long [] = refl
numbers_long (a ∷ xs) = omega (arith, numbers_long xs)

-- ---- line by line

-- calls have answered the lines that are done, and there is room for so many more as are left
pub record Batching {F : Type 0} (called : F → List ℕ → Answer → F → Type 0) (f f' : F) (s o new : List ℕ) (used put : ℕ) : Type 0 where
  pub left : ℕ
  pub done : List (List ℕ)
  pub answers : List Answer
  pub through : Through true (length o / numbers_each) s used left done
  pub said : Said answer_numbers numbers_each o answers put new
  pub each : length answers ≡ length done
  pub calls : FoldsTo (AnswersNext called) (f, []) done (f', answers)

pub batching_none : {F : Type 0} (called : F → List ℕ → Answer → F → Type 0) (f : F) (s o : List ℕ) → Batching called f f s o o 0 0
batching_none called f s o =
    record {
      left = length o / numbers_each;
      done = [];
      answers = [];
      through = through_none true (length o / numbers_each) s;
      said = said_none answer_numbers numbers_each o;
      each = refl;
      calls = refl;
    }

module _ {F : Type 0} {called : F → List ℕ → Answer → F → Type 0} {f f' : F} {s o new : List ℕ} {used put : ℕ} (b : Batching called f f' s o new used put) where
  put_exact : put ≡ numbers_each * length b.done
  put_exact = omega (arith, b.said.ends, numbers_long b.answers, b.each)

  in_room : numbers_each * length b.answers ≤ length o
  in_room = omega (arith, b.each, b.through.number)

  batching_size : length new ≡ length o
  batching_size = said_size answer_numbers numbers_each b.answers in_room b.said

  pub batching_line : (l : List ℕ) (m : ℕ) (a : Answer) (f'' : F) {put' : ℕ} {new' : List ℕ} → First true (drop used s) l m → numbers_each ≤ length new - put
      → called f' l a f'' → Put numbers_each new put (answer_numbers a) put' new' → Batching called f f'' s o new' (used + m) put'
  batching_line l m a f'' t h c p =
      let one_left : b.left ≡ suc (b.left - 1) = omega (arith, put_exact, batching_size, b.through.number) in
      record {
        left = b.left - 1;
        done = b.done ++ l ∷ [];
        answers = b.answers ++ a ∷ [];
        through = through_line true (length o / numbers_each) s used b.left b.done b.through l m (b.left - 1) t one_left;
        said = said_more answer_numbers numbers_each b.answers a in_room b.said p;
        each = omega (arith, length-append b.answers (a ∷ []), length-append b.done (l ∷ []), b.each);
        calls = FoldsTo-push (AnswersNext called) (f, []) b.done (f', b.answers) l (f'', b.answers ++ a ∷ []) b.calls (a, c, refl);
      }

  -- no line is left, or no room
  last : (length s ≤ used) ⊎ (length new - put < numbers_each) → take b.left (lines_of (drop used s)) ≡ []
  last (inl h) = end_left b.left used true s h
  last (inr h) = none_left b.left _ (omega (arith, put_exact, batching_size, b.through.number))

  pub batching_right : (length s ≤ used) ⊎ (length new - put < numbers_each) → EachRight called f f' s o new (put / numbers_each) used
  unfolding batched
  batching_right e =
      let d = through_ended true (length o / numbers_each) s used b.left b.done b.through (last e) in
      record {
        answers = b.answers;
        calls = rw (← d.all) b.calls;
        batch = record { wrote = b.said.now; counted = rw (← d.all) (omega (arith, put_exact)); spans = d.bytes };
      }

-- ---- what the calls answer

answers_more : (ls : List (List ℕ)) (l : List ℕ) → answers_to (ls ++ l ∷ []) ≡ answers_to ls ++ answer_of l ∷ []
unfolding answers_to
answers_more [] l = refl
answers_more (k ∷ ls) l = ap (λ (xs : List Answer). answer_of k ∷ xs) (answers_more ls l)

module _ {F : Type 0} {called : F → List ℕ → Answer → F → Type 0} {f f' : F} {s o new : List ℕ} {n used : ℕ} (e : EachRight called f f' s o new n used) where
  -- where each call answers its line by itself
  pub each_alone : ((p q : F) (l : List ℕ) (a : Answer) → called p l a q → a ≡ answer_of l) → BatchRight answers_to s o new n used
  unfolding answers_to
  each_alone says =
      let same : e.answers ≡ answers_to (batched (length o) s) =
      chained_keeps (AnswersNext called) (λ ls q. q.1 ≡ answers_to ls) (λ ls q l v h c. c.2 ∙ rw (h, says q.0 v.0 l c.0 c.1, ← answers_more ls l) refl)
      (batched (length o) s) (f, []) (f', e.answers) refl e.calls in
      record { wrote = rw same at e.batch.wrote; counted = e.batch.counted; spans = e.batch.spans }

  -- what no call changes
  pub each_keeps : {X : Type 0} (part : F → X) → ((p q : F) (l : List ℕ) (a : Answer) → called p l a q → part q ≡ part p) → part f' ≡ part f
  each_keeps part keeps =
      chained_keeps (AnswersNext called) (λ ls q. part q.0 ≡ part f) (λ ls q l v h c. keeps q.0 v.0 l c.0 c.1 ∙ h)
      (batched (length o) s) (f, []) (f', e.answers) refl e.calls

  -- where each call feeds its line to a tally, which the state of the calls holds, and how many more lines are counted
  module _ (counts : F → List ℕ) (more : F → ℕ)
      (feeds : (p q : F) (l : List ℕ) (a : Answer) → called p l a q → (fed_in a (counts q) ≡ fed_if (eqb (more p) 0) (counts p) l) × (more q ≡ more p - 1)) where
    record Fed (ls : List (List ℕ)) (q : F × List Answer) : Type 0 where
      pub answered : q.1 ≡ replies (counts f) ls
      pub running : Running (counts f) (counts q.0) (more q.0) ls

    fed_next : (ls : List (List ℕ)) (q : F × List Answer) (l : List ℕ) (v : F × List Answer) → Fed ls q → AnswersNext called q l v → Fed (ls ++ l ∷ []) v
    fed_next ls q l v h c =
        let k = feeds q.0 v.0 l c.0 c.1 in
        record { answered = c.2 ∙ rw h.answered (sym (running_reply l h.running k.0)); running = running_line l h.running k.0 k.1 }

    pub each_tallied : {counts' : List ℕ} → counts' ≡ counts f' → Running (counts f) (counts f) (more f) [] → TallyRight s (counts f) counts' o new n used
    unfolding replies
    each_tallied left r =
        let h = chained_keeps (AnswersNext called) Fed fed_next (batched (length o) s) (f, []) (f', e.answers) (record { answered = refl; running = r }) e.calls in
        record {
          batch = record { wrote = rw h.answered at e.batch.wrote; counted = e.batch.counted; spans = e.batch.spans };
          tallied = left ∙ h.running.counted;
        }
