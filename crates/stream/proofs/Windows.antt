-- One step over a window, and the end: what is written, counted and kept. Assumes nothing.
use mathlib.Core.Path.{◌≡◌, refl, sym, ◌∙◌, ap}
use mathlib.Core.Bool.{true, false}
use mathlib.Core.List.{List, [], ◌∷◌, ◌++◌, append-nil}
use Prim.Native.Nat.{ℕ, suc, ◌+◌, ◌-◌, ◌*◌, ◌/◌, ◌≤◌, ◌<◌, min}
use native.Mathlib.Omega.{arith}
use lib.Dec.{leb, ltb}
use lib.ListN.{length, take, drop, length-take, length-drop}
use lib.Seq.{take-length, take-take, length-take-le}
use borrow.Author.Tests.{le-leb, ltb-true, ltb-false}
use Rattle.ascii.specs.Area.{Put}
use Rattle.ascii.specs.Pick.{pick}
use Rattle.ascii.proofs.Area.{put_none, put_size, put_more, put_most, put_paste}
use Rattle.answer.specs.Answers.{in_turn}
use Rattle.answer.specs.Text.{answer_text, answer_room}
use Rattle.lines.specs.Line.{line_bytes}
use Rattle.lines.specs.Lines.{lines_of, ended, extent, spanned}
use Rattle.lines.specs.Inner.{upto}
use Rattle.std.proofs.lemmas.List.{drop-take, take_min}
use Rattle.std.specs.List.{copy_within}
use Rattle.ascii.specs.Class.{among}
use Rattle.ascii.specs.Written.{newline}
use Rattle.lines.proofs.Splits.{by, Open, upto_le, split_none, ended_line, among_line, among_open, lines_open, fronted_alone}
use Rattle.lines.proofs.Feeding.{First, Through, through_none, through_line, through_within, through_ended, Said, said_none, said_more, said_size, part_tail, open_left}
use Rattle.tally.specs.declared.counts.Fed.{Fed}
use Rattle.tally.specs.Tally.{replies, after}
use Rattle.tally.specs.Text.{tally_text, tally_room}
use Rattle.tally.specs.Inner.{left_in}
use Rattle.tally.proofs.Feeding.{fed_by_left}
use Rattle.tally.proofs.Running.{Running, running_reply, running_line, replies_length}
use Rattle.stream.specs.Turn.{fitting, clipped, kept_of, closing_room}
use Rattle.stream.specs.Inner.{LineRight, FedRight, StepRight, LastRight, ClosedRight}

-- ---- feeding, line by line

pub record Streaming (s counts₀ counts o new : List ℕ) (more room used put : ℕ) : Type 0 where
  pub done : List (List ℕ)
  pub through : Through false (length o / answer_room) s used room done
  pub said : Said answer_text answer_room o (replies counts₀ done) put new
  pub running : Running counts₀ counts more done

pub streaming_none : (s counts o : List ℕ) (more room : ℕ) → room ≡ length o / answer_room → Running counts counts more [] → Streaming s counts counts o o more room 0 0
unfolding replies
streaming_none s counts o more room e r =
    rw e
    (record {
      done = [];
      through = through_none false (length o / answer_room) s;
      said = said_none answer_text answer_room o;
      running = r;
    })

module _ {s counts₀ counts o new : List ℕ} {more room used put : ℕ} (i : Streaming s counts₀ counts o new more room used put) where
  each : length (replies counts₀ i.done) ≡ length i.done
  each = replies_length counts₀ i.done

  in_room : answer_room * length (replies counts₀ i.done) ≤ length o
  in_room = omega (arith, each, i.through.number)

  pub streaming_size : length new ≡ length o
  streaming_size = said_size answer_text answer_room (replies counts₀ i.done) in_room i.said

  pub streaming_within : used ≤ length s
  streaming_within = through_within false (length o / answer_room) s used room i.done i.through

  pub streaming_room : 0 < room → put + answer_room ≤ length new
  streaming_room h = omega (arith, i.said.ends, i.said.few, each, i.through.number, streaming_size)

  pub streaming_line : (l : List ℕ) (m : ℕ) {counts' new' : List ℕ} {more' room' used' put' : ℕ} → used' ≡ used + m → First false (drop used s) l m → 0 < room → room' ≡ room - 1
      → more' ≡ more - 1 → LineRight more l counts counts' new new' put put'
      → Streaming s counts₀ counts' o new' more' room' used' put'
  streaming_line l m {room' = room'} eu f h er em p =
      record {
        done = i.done ++ l ∷ [];
        through = rw eu (through_line false (length o / answer_room) s used room i.done i.through l m room' f (omega arith));
        said = rw (running_reply l i.running p.fed) (said_more answer_text answer_room (replies counts₀ i.done) p.answer in_room i.said p.written);
        running = running_line l i.running p.fed em;
      }

  -- no whole line is left, or no room
  pub streaming_right : take room (ended (drop used s)) ≡ [] → FedRight s counts₀ counts o new used put
  unfolding fitting
  streaming_right e =
      let d = through_ended false (length o / answer_room) s used room i.done i.through e in
      record {
        spans = d.bytes;
        written = rw (← d.all) (put_most i.said (omega (arith, i.said.few, in_room)));
        tallied = rw (← d.all) i.running.counted;
      }

-- a part that is the whole rest and has no newline
pub part_open : (s rest : List ℕ) (used n : ℕ) → rest ≡ take (length s - used) (drop used s) → n ≡ upto rest → n ≡ length rest → Open (drop used s)
part_open s rest used n e u l = let k : rest ≡ drop used s = e ∙ part_tail s used in rw k at (sym u ∙ l)

-- ---- a rest that is kept

pub clipped_line : (s : List ℕ) → upto s < length s → clipped s ≡ s
unfolding clipped pick
clipped_line s h = rw (among_line s h)

pub clipped_open : (s : List ℕ) → Open s → clipped s ≡ take line_bytes s
unfolding clipped pick
clipped_open s o = rw (among_open s o)

pub clipped_le : (s : List ℕ) → length (clipped s) ≤ length s
unfolding clipped pick
clipped_le s = by (among newline s) (λ e. rw e (omega arith)) (λ e. rw e (omega (arith, length-take line_bytes s)))

clipped_front : (s : List ℕ) → take (length (clipped s)) s ≡ clipped s
unfolding clipped pick
clipped_front s = by (among newline s) (λ e. rw e (take-length s)) (λ e. rw (e, length-take line_bytes s) (take_min line_bytes s))

-- by where the first newline stands
pub clipped_ended : (s : List ℕ) (n : ℕ) → n ≡ upto s → n < length s → s ≡ clipped s
clipped_ended s n e h = sym (clipped_line s (omega arith))

pub clipped_part : (s : List ℕ) (n m : ℕ) → n ≡ upto s → length s ≤ n → m ≡ min (length s) line_bytes → take m s ≡ clipped s
clipped_part s n m e h k =
    let o : m ≡ min line_bytes (length s) = omega arith in
    rw (o, take_min line_bytes s) (sym (clipped_open s (omega (arith, upto_le s))))

-- ---- one step

-- where a line is ended and there is room, one is answered
pub fitting_some : (room : ℕ) (s : List ℕ) → answer_room ≤ room → upto s < length s → fitting room s ≡ take (upto s) s ∷ take (room / answer_room - 1) (ended (drop (upto s + 1) s))
unfolding fitting
fitting_some room s h k =
    let n : room / answer_room ≡ suc (room / answer_room - 1) = omega arith in
    ap (λ (i : ℕ). take i (ended s)) n ∙ ap (λ (ls : List (List ℕ)). take (suc (room / answer_room - 1)) ls) (ended_line s k)

pub fitting_open : (room : ℕ) (s : List ℕ) → Open s → fitting room s ≡ []
unfolding fitting
fitting_open room s o = open_left (room / answer_room) s o

spans_some : (room : ℕ) (s : List ℕ) → answer_room ≤ room → upto s < length s → 0 < spanned s (fitting room s)
unfolding spanned extent
spans_some room s h k = rw (fitting_some room s h k) (omega arith)

spans_open : (room : ℕ) (s : List ℕ) → Open s → spanned s (fitting room s) ≡ 0
unfolding spanned extent
spans_open room s o = rw (fitting_open room s o) (omega arith)

-- what is kept of the window stands in the buffer
pub keep_fits : (b k : List ℕ) (n used : ℕ) → n ≤ length b → used ≤ length (take n b) → k ≡ clipped (take (n - used) (drop used b)) → used + length k ≤ length b
keep_fits b k n used h within e =
    let part = take (n - used) (drop used b) in
    omega (arith, ap length e, clipped_le part, length-take (n - used) (drop used b), length-take-le n b h)

module _ (b b' o o' counts counts' : List ℕ) (n used put keep : ℕ) (h : n ≤ length b)
    (fed : FedRight (take n b) counts counts' o o' used put) (within : used ≤ length (take n b))
    (ek : keep ≡ length (clipped (take (n - used) (drop used b)))) (moved : b' ≡ copy_within b used (used + keep) 0) where
  n_length : length (take n b) ≡ n
  n_length = length-take-le n b h

  rest : drop used (take n b) ≡ take (n - used) (drop used b)
  rest =
      let e : n ≡ used + (n - used) = omega (arith, within, n_length) in
      ap (λ (k : ℕ). drop used (take k b)) e ∙ drop-take used (n - used) b

  keep_le : keep ≤ n - used
  keep_le = omega (arith, ek, clipped_le (take (n - used) (drop used b)), ap length rest, length-drop used (take n b), n_length)

  kept : kept_of (length o) (take n b) ≡ take keep (drop used b)
  unfolding kept_of
  kept =
      let front : take keep (take (n - used) (drop used b)) ≡ clipped (take (n - used) (drop used b)) = rw ek (clipped_front _) in
      rw (← fed.spans, rest) (sym front ∙ take-take keep (n - used) (drop used b) keep_le)

  held : Put keep b 0 (take keep (drop used b)) keep b'
  held =
      let room : keep ≤ length (drop used b) = omega (arith, keep_le, h, length-drop used b) in
      let k : used + keep - used ≡ keep = omega arith in
      record {
        now = rw k at moved ∙ put_paste b 0 (drop used b) keep room;
        ends = omega (arith, length-take-le keep (drop used b) room);
        few = omega (arith, length-take-le keep (drop used b) room);
      }

  moves : line_bytes < length b → answer_room ≤ length o → keep < length b
  moves big room =
      by (ltb (upto (take n b)) (length (take n b)))
      (λ e. omega (arith, spans_some (length o) (take n b) room (ltb-true _ _ e), fed.spans, keep_le, within, n_length))
      (λ e.
      let op : Open (take n b) = omega (arith, upto_le (take n b), ltb-false (upto (take n b)) (length (take n b)) e) in
      let z : used ≡ 0 = fed.spans ∙ spans_open (length o) (take n b) op in
      let c : clipped (take (n - used) (drop used b)) ≡ take line_bytes (take n b) =
      ap clipped (sym rest ∙ ap (λ (k : ℕ). drop k (take n b)) z) ∙ clipped_open (take n b) op in
      omega (arith, ek, ap length c, length-take line_bytes (take n b)))

  pub step_right : StepRight (take n b) b b' o o' counts counts' keep put
  step_right =
      record {
        written = fed.written;
        tallied = fed.tallied;
        held = rw kept (put_most held (omega (arith, held.few, keep_le)));
        moves = moves;
      }

-- ---- the end

lines_last : (s : List ℕ) → Open s → (length s ≡ 0 → ⊥) → lines_of s ≡ s ∷ []
lines_last [] o n = absurd (n refl)
lines_last (b ∷ s) o n = rw (append-nil s, split_none true) at (lines_open (b ∷ s) [] o) ∙ fronted_alone b s

lines_empty : (s : List ℕ) → length s ≡ 0 → lines_of s ≡ []
lines_empty [] e = split_none true
lines_empty (b ∷ s) e = absurd (omega arith)

pub last_none : (s counts o : List ℕ) → length s ≡ 0 → LastRight s counts counts o o 0
unfolding replies after in_turn
last_none s counts o e =
    record { written = rw (lines_empty s e) (put_none answer_room o 0); tallied = rw (lines_empty s e) }

pub last_line : (s counts o : List ℕ) {counts' o' : List ℕ} {left put : ℕ} → Open s → (length s ≡ 0 → ⊥)
    → left ≡ left_in counts → LineRight left s counts counts' o o' 0 put → LastRight s counts counts' o o' put
unfolding replies after in_turn
last_line s counts o {left = left} op n el p =
    let e = p.fed ∙ fed_by_left counts s left el in
    record {
      written = rw (lines_last s op n, ← e, append-nil (answer_text p.answer)) p.written;
      tallied = rw (lines_last s op n) (ap (λ (f : Fed). f.counts) e);
    }

pub close_right : (s counts counts' : List ℕ) {o o' o'' : List ℕ} {put end : ℕ} → closing_room ≤ length o → LastRight s counts counts' o o' put
    → Put tally_room o' put (pick (leb (put + tally_room) (length o')) (tally_text counts') []) end o'' → ClosedRight s counts counts' o o'' end
unfolding pick
close_right s counts counts' {o} {o'} {put = put} h l p =
    let room : put + tally_room ≤ length o' = omega (arith, l.written.ends, l.written.few, put_size l.written (omega (arith, l.written.few))) in
    let q = rw (le-leb (put + tally_room) (length o') room, l.tallied) at p in
    record {
      written = put_more l.written q (omega (arith, l.written.few));
      tallied = l.tallied;
    }
