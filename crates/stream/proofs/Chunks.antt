-- However the input is cut into chunks, what is written in all is what the definition says. Assumes nothing.
use mathlib.Core.Path.{◌≡◌, refl, sym, ◌∙◌, ap}
use mathlib.Core.Bool.{true, false}
use mathlib.Core.List.{List, [], ◌∷◌, ◌++◌, append_assoc, append-nil}
use Prim.Native.Nat.{ℕ, zero, suc, ◌+◌, ◌/◌, ◌≤◌, ◌<◌, min}
use native.Mathlib.Omega.{arith}
use lib.Dec.{ltb}
use lib.ListN.{length, take, drop, length-append, length-drop}
use lib.Seq.{drop-drop, length-take-le}
use borrow.Author.Tests.{le-leb, ltb-true, ltb-false}
use Rattle.ascii.specs.Area.{joined}
use Rattle.answer.specs.Text.{answer_text, answer_room}
use Rattle.lines.specs.Line.{line_bytes, answer_of}
use Rattle.lines.specs.Lines.{lines_of, ended, extent, spanned}
use Rattle.lines.specs.Inner.{upto}
use Rattle.lines.proofs.Heads.{answer_cut}
use Rattle.lines.proofs.Feeding.{in_turn_append}
use Rattle.lines.proofs.Splits.{by, Open, upto_le, split_line, ended_line, ended_open, open_take, fronted, lines_open, fronted_first, fronted_alone}
use Rattle.tally.specs.Tally.{fresh, fed, replies, after}
use Rattle.tally.specs.Text.{tally_text}
use Rattle.tally.proofs.Running.{replies_append, after_append}
use Rattle.stream.specs.Output.{answers_text, told, output}
use Rattle.stream.specs.Turn.{fitting, clipped, kept_of, is_over, closing_room, closes, turn_counts, turn_writes, Run, over, next}
use Rattle.stream.proofs.Windows.{fitting_some, fitting_open, clipped_line, clipped_open, clipped_le}
use Rattle.stream.proofs.Turns.{over_none, closes_writes, next_writes, next_counts, not_over, nothing_open, kept_none}

-- ---- lines that are told one after the other

told_append : (counts : List ℕ) (ls ms : List (List ℕ)) → told counts (ls ++ ms) ≡ answers_text counts ls ++ told (after counts ls) ms
told_append counts ls ms =
    rw (replies_append counts ls ms, in_turn_append answer_text (replies counts ls) (replies (after counts ls) ms), after_append counts ls ms)
    (append_assoc (answers_text counts ls) (answers_text (after counts ls) ms) (tally_text (after (after counts ls) ms)))

-- ---- a line that is cut

take_cut : (n : ℕ) (p r : List ℕ) → take n (take n p ++ r) ≡ take n (p ++ r)
take_cut zero p r = refl
take_cut (suc n) [] r = refl
take_cut (suc n) (x ∷ p) r = ap (λ (l : List ℕ). x ∷ l) (take_cut n p r)

line_cut : (p r : List ℕ) → answer_of (take line_bytes p ++ r) ≡ answer_of (p ++ r)
line_cut p r = sym (answer_cut (take line_bytes p ++ r)) ∙ ap answer_of (take_cut line_bytes p r) ∙ answer_cut (p ++ r)

-- lines with the same answer are told alike
told_same : (counts l m : List ℕ) (ls : List (List ℕ)) → answer_of l ≡ answer_of m → told counts (l ∷ ls) ≡ told counts (m ∷ ls)
unfolding replies after fed
told_same counts l m ls e = rw e

fronted_cut : (counts p : List ℕ) (ls : List (List ℕ)) → told counts (fronted (take line_bytes p) ls) ≡ told counts (fronted p ls)
fronted_cut counts [] [] = refl
fronted_cut counts (b ∷ p) [] =
    ap (told counts) (fronted_alone b (take 1032 p))
    ∙ told_same counts (b ∷ take 1032 p) (b ∷ p) [] (rw (append-nil (take 1032 p), append-nil p) at (line_cut (b ∷ p) []))
    ∙ sym (ap (told counts) (fronted_alone b p))
fronted_cut counts p (l ∷ ls) =
    ap (told counts) (fronted_first (take line_bytes p) l ls)
    ∙ told_same counts (take line_bytes p ++ l) (p ++ l) ls (line_cut p l)
    ∙ sym (ap (told counts) (fronted_first p l ls))

-- ---- what is kept serves as the rest itself

kept_open : (counts p t : List ℕ) → Open p → told counts (lines_of (take line_bytes p ++ t)) ≡ told counts (lines_of (p ++ t))
kept_open counts p t o =
    ap (told counts) (lines_open (take line_bytes p) t (open_take line_bytes p o))
    ∙ fronted_cut counts p (lines_of t)
    ∙ sym (ap (told counts) (lines_open p t o))

kept_same : (counts rest t : List ℕ) → told counts (lines_of (clipped rest ++ t)) ≡ told counts (lines_of (rest ++ t))
kept_same counts rest t =
    by (ltb (upto rest) (length rest))
    (λ e. ap (λ (l : List ℕ). told counts (lines_of (l ++ t))) (clipped_line rest (ltb-true _ _ e)))
    (λ e.
    let o : Open rest = omega (arith, upto_le rest, ltb-false (upto rest) (length rest) e) in
    ap (λ (l : List ℕ). told counts (lines_of (l ++ t))) (clipped_open rest o) ∙ kept_open counts rest t o)

-- ---- one step

-- however the input goes on, its lines are those that are answered and then the lines of what is left
abbrev Parted : ℕ → List ℕ → List ℕ → Type 0
Parted n s t = lines_of (s ++ t) ≡ take n (ended s) ++ lines_of (drop (spanned s (take n (ended s))) s ++ t)

parted_none : (n : ℕ) (s t : List ℕ) → take n (ended s) ≡ [] → Parted n s t
unfolding spanned extent
parted_none n s t e =
    let z : min (length s) 0 ≡ 0 = omega arith in
    rw (e, z)

parted_line : (n : ℕ) (s t : List ℕ) → upto s < length s → Parted n (drop (upto s + 1) s) t → Parted (suc n) s t
unfolding spanned extent
parted_line n s t h p =
    let s' : List ℕ = drop (upto s + 1) s in
    let ls : List (List ℕ) = take n (ended s') in
    let l : List ℕ = take (upto s) s in
    let k : upto s + 1 + min (length s') (extent ls) ≡ min (length s) (length l + 1 + extent ls) =
    omega (arith, length-drop (upto s + 1) s, length-take-le (upto s) s (omega arith)) in
    rw (split_line true s t h, ended_line s h, ← k, ← drop-drop (min (length s') (extent ls)) (upto s + 1) s)
    (ap (λ (x : List (List ℕ)). l ∷ x) p)

parted : (n : ℕ) (s t : List ℕ) → Parted n s t
parted zero s t = parted_none zero s t refl
parted (suc n) s t =
    by (ltb (upto s) (length s))
    (λ e. parted_line n s t (ltb-true _ _ e) (parted n (drop (upto s + 1) s) t))
    (λ e.
    let o : Open s = omega (arith, upto_le s, ltb-false (upto s) (length s) e) in
    parted_none (suc n) s t (rw (ended_open s o)))

-- however the input goes on, what is told of it is what is written and then what is told of what is kept and goes on
pub continue : (counts : List ℕ) (room : ℕ) (s t : List ℕ) → told counts (lines_of (s ++ t)) ≡ answers_text counts (fitting room s) ++ told (after counts (fitting room s)) (lines_of (kept_of room s ++ t))
unfolding kept_of fitting
continue counts room s t =
    let ls : List (List ℕ) = take (room / answer_room) (ended s) in
    let rest : List ℕ = drop (spanned s ls) s in
    ap (told counts) (parted (room / answer_room) s t)
    ∙ told_append counts ls (lines_of (rest ++ t))
    ∙ ap (λ (x : List ℕ). answers_text counts ls ++ x) (sym (kept_same (after counts ls) rest t))

-- ---- the end of the input

-- where no line is answered, what is told of what is kept is told of what was read
pub finish : (counts : List ℕ) (room : ℕ) (s : List ℕ) → closing_room ≤ room → fitting room s ≡ [] → told counts (lines_of (kept_of room s)) ≡ told counts (lines_of s)
finish counts room s h e =
    let big : answer_room ≤ room = omega arith in
    let k = rw (append-nil (take line_bytes s), append-nil s) at (kept_open counts s [] (nothing_open room s big e)) in
    rw (kept_none room s big e) k

-- ---- turn by turn

closed : (room n : ℕ) (s : List ℕ) → closing_room ≤ room → is_over room n s ≡ true → closes room n s ≡ true
unfolding closes
closed room n s h e = rw (e, le-leb closing_room room h)

not_closed : (room n : ℕ) (s : List ℕ) → is_over room n s ≡ false → closes room n s ≡ false
unfolding closes
not_closed room n s e = rw e

run_on : {room : ℕ} {counts kept : List ℕ} {chunks : List (List ℕ)} {out : List ℕ} → closing_room ≤ room → Run room counts kept chunks out → out ≡ told counts (lines_of (kept ++ joined chunks))
unfolding joined
run_on {room} {counts} {kept} h (over {chunk = c} e) =
    closes_writes room (length c) (kept ++ c) counts (closed room (length c) (kept ++ c) h e)
    ∙ finish counts room (kept ++ c) h (over_none room (length c) (kept ++ c) e)
    ∙ rw (append-nil c)
run_on {room} {counts} {kept} h (next {chunk = c} {chunks = cs} {out = out} e r) =
    let n = not_closed room (length c) (kept ++ c) e in
    rw (next_writes room (length c) (kept ++ c) counts n, run_on h r, next_counts room (length c) (kept ++ c) counts n)
    (sym (continue counts room (kept ++ c) (joined cs)) ∙ rw (append_assoc kept c (joined cs)))

-- Whatever the chunks, the turns up to the one that is over write the output of the whole input.
pub whole_run : {room : ℕ} {chunks : List (List ℕ)} {out : List ℕ} → closing_room ≤ room → Run room fresh [] chunks out → out ≡ output (joined chunks)
whole_run h r = run_on h r

-- ---- the turns come to an end

-- reads behind the end of the input
abbrev pub silent : ℕ → List (List ℕ)
silent zero = []
silent (suc n) = [] ∷ silent n

pub record Ends (room : ℕ) (counts kept : List ℕ) : Type 0 where
  pub turns : ℕ
  pub out : List ℕ
  pub run : Run room counts kept (silent turns) out

-- a turn that answers a line keeps less
shorter : (room : ℕ) (s : List ℕ) → answer_room ≤ room → upto s < length s → length (kept_of room s) < length s
unfolding kept_of spanned extent
shorter room s h e =
    let f = fitting_some room s h e in
    omega (
      arith,
      clipped_le (drop (min (length s) (extent (fitting room s))) s),
      length-drop (min (length s) (extent (fitting room s))) s,
      ap extent f,
    )

ends_within : (n room : ℕ) (counts kept : List ℕ) → answer_room ≤ room → length kept < n → Ends room counts kept
ends_within zero room counts kept h k = absurd (omega arith)
ends_within (suc n) room counts kept h k =
    by (is_over room 0 (kept ++ []))
    (λ e. record { turns = 1; out = turn_writes counts room 0 (kept ++ []); run = over e })
    (λ e.
    let s : List ℕ = kept ++ [] in
    let line : upto s < length s = by (ltb (upto s) (length s)) (λ l. ltb-true _ _ l) (λ l. absurd (not_over room s e (fitting_open room s (omega (arith, upto_le s, ltb-false (upto s) (length s) l))))) in
    let less = shorter room s h line in
    let rest = ends_within n room (turn_counts counts room 0 s) (kept_of room s) h (omega (arith, less, length-append kept [])) in
    record { turns = suc rest.turns; out = turn_writes counts room 0 (kept ++ []) ++ rest.out; run = next e rest.run })

-- Where the input has ended, the turns come to one that is over.
pub run_ends : (room : ℕ) (counts kept : List ℕ) → answer_room ≤ room → Ends room counts kept
run_ends room counts kept h = ends_within (suc (length kept)) room counts kept h (omega arith)
