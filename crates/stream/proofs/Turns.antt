-- A turn by the tests of the code. Assumes nothing.
use mathlib.Core.Path.{◌≡◌, refl, sym, ◌∙◌, ap}
use mathlib.Core.Bool.{true, false, ◌&&◌}
use mathlib.Core.List.{List, [], ◌∷◌, ◌++◌, append-nil}
use Prim.Native.Nat.{ℕ, ◌≤◌, ◌<◌, min}
use native.Mathlib.Nat.{zero-add}
use native.Mathlib.Omega.{arith}
use lib.Dec.{leb, ltb, eqb}
use lib.ListN.{length, take, length-append}
use borrow.Author.Tests.{eqb-true, eqb-false, ne_eqb, leb-true, ltb-true, ltb-false}
use Rattle.ascii.specs.Pick.{pick}
use Rattle.ascii.proofs.Tests.{and_true}
use Rattle.ascii.proofs.Area.{put_nil, put_front, put_size, put_most}
use Rattle.answer.specs.declared.record.Answer.{Answer}
use Rattle.answer.specs.Answers.{answer_numbers, in_turn}
use Rattle.answer.specs.Text.{numbers_text, field, numeral, answer_text, answer_room}
use Rattle.lines.specs.Line.{line_bytes}
use Rattle.lines.specs.Lines.{lines_of, extent, spanned}
use Rattle.lines.specs.Inner.{upto}
use Rattle.std.proofs.lemmas.List.{take_min}
use Rattle.lines.proofs.Splits.{by, Open, upto_le, open_take}
use Rattle.tally.specs.Tally.{fed, replies, after}
use Rattle.tally.proofs.Running.{after_none}
use Rattle.stream.specs.Output.{answers_text, told}
use Rattle.stream.specs.Turn.{fitting, kept_of, is_over, closing_room, closes, turn_lines, turn_counts, turn_writes, TurnRight}
use Rattle.stream.specs.Inner.{StepRight, ClosedRight}
use Rattle.stream.proofs.Windows.{fitting_some, clipped_open}

-- ---- no line, no text

some : (d t : List ℕ) (b : ℕ) → 0 < length ((d ++ b ∷ []) ++ t)
some d t b = omega (arith, length-append (d ++ b ∷ []) t, length-append d (b ∷ []))

text_some : (a : Answer) → 0 < length (answer_text a)
unfolding answer_text answer_numbers numbers_text field
text_some a = some (numeral _) _ _

pub answers_none : (counts : List ℕ) → answers_text counts [] ≡ []
unfolding in_turn replies
answers_none counts = refl

none_tested : (counts : List ℕ) (ls : List (List ℕ)) → eqb (length (answers_text counts ls)) 0 ≡ eqb (length ls) 0
unfolding in_turn replies
none_tested counts [] = refl
none_tested counts (l ∷ ls) =
    let a = (fed counts l).answer in
    let t = answers_text (fed counts l).counts ls in
    let long : 0 < length (answer_text a ++ t) = omega (arith, text_some a, length-append (answer_text a) t) in
    ne_eqb (length (answer_text a ++ t)) 0 (λ z. absurd (omega (arith, z, long)))
    ∙ sym (ne_eqb (length (l ∷ ls)) 0 (λ z. absurd (omega (arith, z))))

empty : (ls : List (List ℕ)) → length ls ≡ 0 → ls ≡ []
empty [] e = refl
empty (l ∷ ls) e = absurd (omega arith)

module _ (room fresh : ℕ) (s : List ℕ) where
  pub over_none : is_over room fresh s ≡ true → fitting room s ≡ []
  unfolding is_over
  over_none e = empty (fitting room s) (eqb-true _ _ (and_true (eqb fresh 0) (eqb (length (fitting room s)) 0) e).1)

  pub closes_over : closes room fresh s ≡ true → is_over room fresh s ≡ true
  unfolding closes
  closes_over e = (and_true (is_over room fresh s) (leb closing_room room) e).0

  pub closes_room : closes room fresh s ≡ true → closing_room ≤ room
  unfolding closes
  closes_room e = leb-true closing_room room (and_true (is_over room fresh s) (leb closing_room room) e).1

  pub closes_lines : closes room fresh s ≡ true → turn_lines room fresh s ≡ lines_of (kept_of room s)
  unfolding turn_lines pick
  closes_lines e = rw e

  pub next_lines : closes room fresh s ≡ false → turn_lines room fresh s ≡ fitting room s
  unfolding turn_lines pick
  next_lines e = rw e

  module _ (counts : List ℕ) where
    pub closes_writes : closes room fresh s ≡ true → turn_writes counts room fresh s ≡ told counts (lines_of (kept_of room s))
    unfolding turn_writes turn_counts pick
    closes_writes e = rw (e, closes_lines e)

    pub next_writes : closes room fresh s ≡ false → turn_writes counts room fresh s ≡ answers_text counts (fitting room s)
    unfolding turn_writes pick
    next_writes e = rw (e, next_lines e) (append-nil (answers_text counts (fitting room s)))

    pub next_counts : closes room fresh s ≡ false → turn_counts counts room fresh s ≡ after counts (fitting room s)
    unfolding turn_counts
    next_counts e = rw (next_lines e)

pub not_over : (room : ℕ) (s : List ℕ) → is_over room 0 s ≡ false → fitting room s ≡ [] → ⊥
unfolding is_over
not_over room s e w = eqb-false (length (fitting room s)) 0 e (rw w)

-- where no line fits although there is room, no newline is there
pub nothing_open : (room : ℕ) (s : List ℕ) → answer_room ≤ room → fitting room s ≡ [] → Open s
nothing_open room s h e =
    by (ltb (upto s) (length s))
    (λ k. absurd (omega (arith, ap length (sym e ∙ fitting_some room s h (ltb-true _ _ k)))))
    (λ k. omega (arith, upto_le s, ltb-false (upto s) (length s) k))

pub kept_none : (room : ℕ) (s : List ℕ) → answer_room ≤ room → fitting room s ≡ [] → kept_of room s ≡ take line_bytes s
unfolding kept_of spanned extent
kept_none room s h e =
    let z : min (length s) 0 ≡ 0 = omega arith in
    rw (e, z) (clipped_open s (nothing_open room s h e))

-- ---- the turn

module _ (s b b' o o' counts counts' : List ℕ) (fresh kept put : ℕ) (st : StepRight s b b' o o' counts counts' kept put) where
  tested : (eqb fresh 0 && eqb put 0) ≡ is_over (length o) fresh s
  unfolding is_over
  tested = rw (st.written.ends, zero-add (length (answers_text counts (fitting (length o) s))), none_tested counts (fitting (length o) s))

  same_room : length o' ≡ length o
  same_room = put_size st.written (omega (arith, st.written.few))

  closing : ((eqb fresh 0 && eqb put 0) && leb closing_room (length o')) ≡ closes (length o) fresh s
  unfolding closes
  closing = rw (tested, same_room)

  pub turn_next : ((eqb fresh 0 && eqb put 0) && leb closing_room (length o')) ≡ false → TurnRight s fresh b b' o o' counts counts' kept put (eqb fresh 0 && eqb put 0)
  turn_next e =
      let n : closes (length o) fresh s ≡ false = sym closing ∙ e in
      record {
        writes = rw (next_writes (length o) fresh s counts n) st.written;
        tallies = rw (next_counts (length o) fresh s counts n) st.tallied;
        keeps = st.held;
        ends = tested;
        moves = st.moves;
      }

  module _ (e : ((eqb fresh 0 && eqb put 0) && leb closing_room (length o')) ≡ true) where
    ends_here : closes (length o) fresh s ≡ true
    ends_here = sym closing ∙ e

    none_fits : fitting (length o) s ≡ []
    none_fits = over_none (length o) fresh s (closes_over (length o) fresh s ends_here)

    kept_here : take kept b' ≡ kept_of (length o) s
    kept_here = put_front st.held refl

    pub close_asks : (Open (take kept b')) × (closing_room ≤ length o')
    close_asks =
        let room = closes_room (length o) fresh s ends_here in
        let big : answer_room ≤ length o = omega (arith, room) in
        let k = kept_here ∙ kept_none (length o) s big none_fits in
        (rw k (open_take line_bytes s (nothing_open (length o) s big none_fits)), omega (arith, room, same_room))

    pub turn_over : (o'' counts'' : List ℕ) (end : ℕ) → ClosedRight (take kept b') counts' counts'' o' o'' end
        → TurnRight s fresh b b' o o'' counts counts'' kept end (eqb fresh 0 && eqb put 0)
    unfolding turn_counts
    turn_over o'' counts'' end p =
        let same : o' ≡ o = st.written.now ∙ rw (none_fits, answers_none counts) (put_nil o 0) in
        let before : counts' ≡ counts = st.tallied ∙ rw none_fits (after_none counts) in
        let q : ClosedRight (kept_of (length o) s) counts counts'' o o'' end = rw (same, before, kept_here) at p in
        record {
          writes = rw (closes_writes (length o) fresh s counts ends_here) (put_most q.written (omega (arith, q.written.few, closes_room (length o) fresh s ends_here)));
          tallies = rw (closes_lines (length o) fresh s ends_here) q.tallied;
          keeps = st.held;
          ends = tested;
          moves = st.moves;
        }

-- the part of the buffer that is input
pub same_window : (b : List ℕ) (n m : ℕ) → n ≡ min m (length b) → take n b ≡ take m b
same_window b n m e = rw (e, take_min m b)
