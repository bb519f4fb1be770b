-- A loop that goes through the lines of a text and writes an answer for each. Assumes nothing.
use mathlib.Core.Path.{◌≡◌, refl, sym, ◌∙◌, ap}
use mathlib.Core.Bool.{Bool, true}
use mathlib.Core.List.{List, [], ◌∷◌, ◌++◌, append_assoc, append-nil}
use Prim.Native.Nat.{ℕ, suc, ◌+◌, ◌-◌, ◌*◌, ◌≤◌, ◌<◌, min}
use native.Mathlib.Nat.{mul-suc}
use native.Mathlib.Numerals.{add-one}
use native.Mathlib.Omega.{arith}
use lib.Dec.{ltb}
use lib.ListN.{length, take, drop, length-append, length-drop, drop_of_length-le}
use lib.Seq.{take_all, drop-drop, length-take-le}
use borrow.Author.Tests.{ltb-true, ltb-false}
use Rattle.ascii.specs.Area.{Put}
use Rattle.ascii.proofs.Area.{put_none, put_more, put_size}
use Rattle.answer.specs.declared.record.Answer.{Answer}
use Rattle.answer.specs.Answers.{in_turn}
use Rattle.lines.specs.Lines.{split, lines_of, ended, extent, spanned}
use Rattle.lines.specs.Inner.{upto}
use Rattle.lines.proofs.Splits.{by, Open, upto_le, split_line, split_none, ended_open, fronted, lines_open, fronted_alone}

pub part_tail : (s : List ℕ) (n : ℕ) → take (length s - n) (drop n s) ≡ drop n s
part_tail s n = take_all (length s - n) (drop n s) (omega (arith, length-drop n s))

pub part_len : (s : List ℕ) (used : ℕ) → length (take (length s - used) (drop used s)) ≡ length s - used
part_len s used = rw (part_tail s used, length-drop used s)

-- ---- the first line of a text

-- where a newline ends it
pub first_ended : (c : Bool) (s : List ℕ) → upto s < length s → split c s ≡ take (upto s) s ∷ split c (drop (upto s + 1) s)
first_ended c s h = rw (append-nil s, append-nil (drop (upto s + 1) s)) at (split_line c s [] h)

-- with a newline or without
lines_first : (s : List ℕ) → 0 < length s → lines_of s ≡ take (upto s) s ∷ lines_of (drop (upto s + 1) s)
lines_first [] h = absurd (omega arith)
lines_first (b ∷ s) h =
    by (ltb (upto (b ∷ s)) (length (b ∷ s))) (λ e. first_ended true (b ∷ s) (ltb-true _ _ e))
    (λ e.
    let o : Open (b ∷ s) = omega (arith, upto_le (b ∷ s), ltb-false (upto (b ∷ s)) (length (b ∷ s)) e) in
    let past_all : length (b ∷ s) ≤ upto (b ∷ s) + 1 = omega (arith, o) in
    let d : drop (upto (b ∷ s) + 1) (b ∷ s) ≡ [] = drop_of_length-le (b ∷ s) past_all in
    let all : length (b ∷ s) ≤ upto (b ∷ s) = omega (arith, o) in
    (rw (append-nil (b ∷ s)) at (lines_open (b ∷ s) [] o))
    ∙ ap (λ (ls : List (List ℕ)). fronted (b ∷ s) ls) (split_none true)
    ∙ fronted_alone b s
    ∙ rw (d, split_none true, take_all (upto (b ∷ s)) (b ∷ s) all))

-- l is the first line of s, of m bytes with its newline, if it has one
pub record First (c : Bool) (s l : List ℕ) (m : ℕ) : Type 0 where
  pub here : split c s ≡ l ∷ split c (drop m s)
  pub bytes : m ≡ min (length s) (length l + 1)
  pub some : 0 < length s

pub first_whole : (c : Bool) (s : List ℕ) (n : ℕ) → n ≡ upto s → n < length s → First c s (take n s) (n + 1)
first_whole c s n e h =
    record {
      here = rw (← e) at (first_ended c s (rw (← e) h));
      bytes = omega (arith, length-take-le n s (omega arith));
      some = omega arith;
    }

module _ (s : List ℕ) (n m : ℕ) (en : n ≡ upto s) (em : m ≡ min (n + 1) (length s)) where
  past : drop (n + 1) s ≡ drop m s
  past =
      by (ltb n (length s))
      (λ e.
      let k : n + 1 ≡ m = omega (arith, em, ltb-true n (length s) e) in
      ap (λ (i : ℕ). drop i s) k)
      (λ e.
      let h : length s ≤ n + 1 = omega (arith, ltb-false n (length s) e) in
      let h' : length s ≤ m = omega (arith, em, ltb-false n (length s) e) in
      drop_of_length-le s h ∙ sym (drop_of_length-le s h'))

  pub first_any : 0 < length s → First true s (take n s) m
  first_any h =
      record {
        here = rw (← en, past) at (lines_first s h);
        bytes = omega (arith, em, length-take-le n s (omega (arith, en, upto_le s)));
        some = h;
      }

-- where s is what remains of a text
module _ (s rest : List ℕ) (used n : ℕ) (e : rest ≡ take (length s - used) (drop used s)) (en : n ≡ upto rest) where
  same : rest ≡ drop used s
  same = e ∙ part_tail s used

  pub rest_whole : (c : Bool) → n < length rest → First c (drop used s) (take n rest) (n + 1)
  rest_whole c h = rw (← same) (first_whole c rest n en h)

  pub rest_any : (m : ℕ) → m ≡ min (n + 1) (length rest) → used < length s → First true (drop used s) (take n rest) m
  rest_any m em h = rw (← same) (first_any rest n m en em (omega (arith, ap length same, length-drop used s)))

-- ---- line by line

extent_more : (ls : List (List ℕ)) (l : List ℕ) → extent (ls ++ l ∷ []) ≡ extent ls + (length l + 1)
unfolding extent
extent_more [] l = omega arith
extent_more (k ∷ ls) l = omega (arith, extent_more ls l)

-- the first lines of s, so many as `most`, are those that are done and then the first of what remains, so many as are left
pub record Through (c : Bool) (most : ℕ) (s : List ℕ) (used left : ℕ) (done : List (List ℕ)) : Type 0 where
  pub parts : take most (split c s) ≡ done ++ take left (split c (drop used s))
  pub number : length done + left ≡ most
  pub spans : used ≡ min (length s) (extent done)

pub through_none : (c : Bool) (most : ℕ) (s : List ℕ) → Through c most s 0 most []
unfolding extent
through_none c most s = record { parts = refl; number = omega arith; spans = omega arith }

module _ (c : Bool) (most : ℕ) (s : List ℕ) (used left : ℕ) (done : List (List ℕ)) (t : Through c most s used left done) where
  pub through_within : used ≤ length s
  through_within = omega (arith, t.spans)

  module _ (l : List ℕ) (m left' : ℕ) (f : First c (drop used s) l m) (el : left ≡ suc left') where
    rest : take left (split c (drop used s)) ≡ (l ∷ []) ++ take left' (split c (drop (used + m) s))
    rest = rw (el, f.here, drop-drop m used s)

    pub through_line : Through c most s (used + m) left' (done ++ l ∷ [])
    through_line =
        record {
          parts =
              t.parts
              ∙ ap (λ (ls : List (List ℕ)). done ++ ls) rest
              ∙ sym (append_assoc done (l ∷ []) (take left' (split c (drop (used + m) s))));
          number = omega (arith, t.number, el, length-append done (l ∷ []));
          spans = omega (arith, t.spans, f.bytes, f.some, length-drop used s, extent_more done l);
        }

  pub record Ended : Type 0 where
    pub all : done ≡ take most (split c s)
    pub bytes : used ≡ spanned s (take most (split c s))

  -- where no line is left
  pub through_ended : take left (split c (drop used s)) ≡ [] → Ended
  unfolding spanned
  through_ended e =
      let d : done ≡ take most (split c s) = sym (t.parts ∙ ap (λ (ls : List (List ℕ)). done ++ ls) e ∙ append-nil done) in
      record { all = d; bytes = rw (← d) t.spans }

-- why none is left
pub none_left : (left : ℕ) (ls : List (List ℕ)) → left ≡ 0 → take left ls ≡ []
none_left left ls e = rw e

pub open_left : (left : ℕ) (s : List ℕ) → Open s → take left (ended s) ≡ []
open_left left s o = rw (ended_open s o) (take_all left [] (omega arith))

pub end_left : (left used : ℕ) (c : Bool) (s : List ℕ) → length s ≤ used → take left (split c (drop used s)) ≡ []
end_left left used c s h = rw (drop_of_length-le s h, split_none c) (take_all left [] (omega arith))

-- ---- an answer for each

pub in_turn_append : (says : Answer → List ℕ) (xs ys : List Answer) → in_turn says (xs ++ ys) ≡ in_turn says xs ++ in_turn says ys
unfolding in_turn
in_turn_append says [] ys = refl
in_turn_append says (a ∷ xs) ys =
    ap (λ (l : List ℕ). says a ++ l) (in_turn_append says xs ys)
    ∙ sym (append_assoc (says a) (in_turn says xs) (in_turn says ys))

in_turn_more : (says : Answer → List ℕ) (xs : List Answer) (a : Answer) → in_turn says (xs ++ a ∷ []) ≡ in_turn says xs ++ says a
unfolding in_turn
in_turn_more says xs a = in_turn_append says xs (a ∷ []) ∙ ap (λ (l : List ℕ). in_turn says xs ++ l) (append-nil (says a))

-- what is said of answers, each in so many bytes or numbers as `each`, stands in an area
abbrev pub Said : (Answer → List ℕ) → ℕ → List ℕ → List Answer → ℕ → List ℕ → Type 0
Said says each old xs put new = Put (each * length xs) old 0 (in_turn says xs) put new

pub said_none : (says : Answer → List ℕ) (each : ℕ) (o : List ℕ) → Said says each o [] 0 o
unfolding in_turn
said_none says each o = put_none (each * 0) o 0

pub said_more : (says : Answer → List ℕ) (each : ℕ) {o new new' : List ℕ} (xs : List Answer) {put put' : ℕ} (a : Answer)
    → each * length xs ≤ length o → Said says each o xs put new → Put each new put (says a) put' new' → Said says each o (xs ++ a ∷ []) put' new'
said_more says each xs a h p q =
    let few : each * length (xs ++ a ∷ []) ≡ each * length xs + each =
    ap (λ (n : ℕ). each * n) (length-append xs (a ∷ []) ∙ add-one (length xs)) ∙ mul-suc each (length xs) in
    rw (in_turn_more says xs a, few) (put_more p q (omega (arith, p.few)))

-- the area keeps its length
pub said_size : (says : Answer → List ℕ) (each : ℕ) {o new : List ℕ} (xs : List Answer) {put : ℕ}
    → each * length xs ≤ length o → Said says each o xs put new → length new ≡ length o
said_size says each xs h p = put_size p (omega (arith, p.few))
