-- How an input is split into lines: one line after the other, and a line that no newline ends yet. Assumes nothing.
use mathlib.Core.Path.{◌≡◌, refl, sym, ◌∙◌, ap}
use mathlib.Core.Bool.{Bool, true, false, ◌||◌}
use mathlib.Core.List.{List, [], ◌∷◌, ◌++◌, append-nil}
use Prim.Native.Nat.{ℕ, zero, suc, ◌+◌, ◌≤◌, ◌<◌}
use native.Mathlib.Nat.{suc-add}
use native.Mathlib.Omega.{arith}
use lib.Dec.{eqb}
use lib.ListN.{length, take, drop, get_or}
use borrow.Author.Tests.{eq-eqb, ne_eqb, eqb-false}
use Rattle.ascii.proofs.Tests.{false_true}
use Rattle.std.proofs.Common.{Option, None, Some, unwrap_or, add-one, drop-cons}
use Rattle.std.proofs.lemmas.Bool.{false_from_ne_true}
use Rattle.std.proofs.lemmas.List.Sums.{position_or_len_is, prefix_len-le-length}
use Rattle.memchr.specs.Find.{IsFirstByte, is_byte}
use Rattle.ascii.specs.Pick.{pick}
use Rattle.ascii.specs.Class.{among}
use Rattle.ascii.specs.Written.{newline}
use Rattle.lines.specs.Lines.{in_front, split, lines_of, ended}
use Rattle.lines.specs.Inner.{upto}

pub by : {P : Type 0} (x : Bool) → (x ≡ true → P) → (x ≡ false → P) → P
by true f g = f refl
by false f g = g refl

-- no newline is in s
abbrev pub Open : List ℕ → Type 0
Open s = upto s ≡ length s

-- ---- a byte, by whether it is a newline

module _ (b : ℕ) (s : List ℕ) (e : eqb b 10 ≡ true) where
  upto_newline : upto (b ∷ s) ≡ 0
  unfolding upto pick
  upto_newline = rw e

  split_newline : (c : Bool) → split c (b ∷ s) ≡ [] ∷ split c s
  unfolding split pick
  split_newline c = rw e

  among_newline : among 10 (b ∷ s) ≡ true
  unfolding among
  among_newline = rw e

module _ (b : ℕ) (s : List ℕ) (e : eqb b 10 ≡ false) where
  upto_byte : upto (b ∷ s) ≡ suc (upto s)
  unfolding upto
  upto_byte = rw e (omega arith)

  split_byte : (c : Bool) → split c (b ∷ s) ≡ in_front c b (split c s)
  unfolding split pick
  split_byte c = rw e

  among_byte : among 10 (b ∷ s) ≡ among 10 s
  unfolding among
  among_byte = rw e

upto_none : upto [] ≡ 0
unfolding upto
upto_none = refl

among_none : among 10 [] ≡ false
unfolding among
among_none = refl

pub split_none : (c : Bool) → split c [] ≡ []
unfolding split
split_none c = refl

front_first : (c : Bool) (b : ℕ) (l : List ℕ) (ls : List (List ℕ)) → in_front c b (l ∷ ls) ≡ (b ∷ l) ∷ ls
unfolding in_front
front_first c b l ls = refl

-- ---- the first newline

-- what a search for it finds
pub upto_found : (s : List ℕ) (r : Option ℕ) → IsFirstByte (is_byte newline) s r → unwrap_or r (length s) ≡ upto s
unfolding upto
upto_found s None f =
    sym (position_or_len_is (is_byte newline) s (length s) 0 (omega arith) (λ k h. false_from_ne_true _ (f k (omega arith) h)) (λ h. absurd (omega arith)))
upto_found s (Some n) f =
    sym (position_or_len_is (is_byte newline) s n 0 (omega arith) (λ k h. false_from_ne_true _ (f.0.before k (omega arith) h)) (λ h. f.1))

-- byte by byte

pub upto_here : (s : List ℕ) (i : ℕ) → i < length s → get_or s i 0 ≡ 10 → upto (drop i s) ≡ 0
upto_here s i h e = rw (drop-cons s i 0 h) (upto_newline (get_or s i 0) (drop (suc i) s) (eq-eqb _ _ e))

pub upto_past : (s : List ℕ) (i : ℕ) → i < length s → (get_or s i 0 ≡ 10 → ⊥) → upto (drop i s) ≡ suc (upto (drop (i + 1) s))
upto_past s i h n = rw (drop-cons s i 0 h, add-one i) (upto_byte (get_or s i 0) (drop (suc i) s) (ne_eqb _ _ n))

-- eight bytes that are tested together
or_false : (a b : Bool) → (a || b) ≡ false → (a ≡ false) × (b ≡ false)
or_false true b e = false_true (sym e)
or_false false b e = (refl, e)

past_one : (s : List ℕ) (i : ℕ) → i < length s → eqb (get_or s i 0) 10 ≡ false → upto (drop i s) ≡ suc (upto (drop (i + 1) s))
past_one s i h e = upto_past s i h (eqb-false (get_or s i 0) 10 e)

past_two : (s : List ℕ) (i j : ℕ) → j ≡ i + 1 → i + 2 ≤ length s → (eqb (get_or s i 0) 10 || eqb (get_or s j 0) 10) ≡ false
    → upto (drop i s) ≡ 2 + upto (drop (i + 2) s)
past_two s i j ej h e =
    let t = or_false (eqb (get_or s i 0) 10) (eqb (get_or s j 0) 10) e in
    let f : eqb (get_or s (i + 1) 0) 10 ≡ false = rw ej at t.1 in
    let n : i + 1 + 1 ≡ i + 2 = omega arith in
    let last : upto (drop (i + 1 + 1) s) ≡ upto (drop (i + 2) s) = ap (λ (k : ℕ). upto (drop k s)) n in
    omega (arith, past_one s i (omega arith) t.0, past_one s (i + 1) (omega arith) f, last)

pub past_eight : (s : List ℕ) (i : ℕ) → i + 8 ≤ length s
    → (((eqb (get_or s i 0) 10 || eqb (get_or s (i + 1) 0) 10) || (eqb (get_or s (i + 2) 0) 10 || eqb (get_or s (i + 3) 0) 10))
    || ((eqb (get_or s (i + 4) 0) 10 || eqb (get_or s (i + 5) 0) 10) || (eqb (get_or s (i + 6) 0) 10 || eqb (get_or s (i + 7) 0) 10)))
    ≡ false
    → upto (drop i s) ≡ 8 + upto (drop (i + 8) s)
past_eight s i h e =
    let a = eqb (get_or s i 0) 10 || eqb (get_or s (i + 1) 0) 10 in
    let b = eqb (get_or s (i + 2) 0) 10 || eqb (get_or s (i + 3) 0) 10 in
    let c = eqb (get_or s (i + 4) 0) 10 || eqb (get_or s (i + 5) 0) 10 in
    let d = eqb (get_or s (i + 6) 0) 10 || eqb (get_or s (i + 7) 0) 10 in
    let t = or_false (a || b) (c || d) e in
    let l = or_false a b t.0 in
    let r = or_false c d t.1 in
    let at : (j k : ℕ) → j ≡ k → upto (drop j s) ≡ upto (drop k s) = λ j k q. ap (λ (n : ℕ). upto (drop n s)) q in
    omega (
      arith,
      past_two s i (i + 1) refl (omega arith) l.0,
      past_two s (i + 2) (i + 3) (omega arith) (omega arith) l.1,
      past_two s (i + 4) (i + 5) (omega arith) (omega arith) r.0,
      past_two s (i + 6) (i + 7) (omega arith) (omega arith) r.1,
      at (i + 2 + 2) (i + 4) (omega arith),
      at (i + 4 + 2) (i + 6) (omega arith),
      at (i + 6 + 2) (i + 8) (omega arith),
    )

pub upto_end : (s : List ℕ) (i : ℕ) → length s ≤ i → upto (drop i s) ≡ 0
upto_end [] zero h = upto_none
upto_end [] (suc i) h = upto_none
upto_end (b ∷ s) zero h = absurd (omega arith)
upto_end (b ∷ s) (suc i) h = upto_end s i (omega arith)

pub upto_le : (s : List ℕ) → upto s ≤ length s
unfolding upto
upto_le s = prefix_len-le-length _ s

-- ---- a whole line

pub split_line : (c : Bool) (s t : List ℕ) → upto s < length s
    → split c (s ++ t) ≡ take (upto s) s ∷ split c (drop (upto s + 1) s ++ t)
split_line c [] t h = absurd (omega (arith, upto_none))
split_line c (b ∷ s) t h =
    by (eqb b 10)
    (λ e. split_newline b (s ++ t) e c ∙ rw (upto_newline b s e))
    (λ e.
    let k : upto s < length s = omega (arith, upto_byte b s e) in
    split_byte b (s ++ t) e c
    ∙ ap (in_front c b) (split_line c s t k)
    ∙ front_first c b (take (upto s) s) (split c (drop (upto s + 1) s ++ t))
    ∙ rw (upto_byte b s e, suc-add (upto s) 1))

pub ended_line : (s : List ℕ) → upto s < length s → ended s ≡ take (upto s) s ∷ ended (drop (upto s + 1) s)
ended_line s h = rw (append-nil s, append-nil (drop (upto s + 1) s)) at (split_line false s [] h)

pub among_line : (s : List ℕ) → upto s < length s → among 10 s ≡ true
among_line [] h = absurd (omega (arith, upto_none))
among_line (b ∷ s) h =
    by (eqb b 10) (λ e. among_newline b s e)
    (λ e. among_byte b s e ∙ among_line s (omega (arith, upto_byte b s e)))

-- ---- a rest with no newline

-- by the first byte of one
module _ {P : Type 0} (b : ℕ) (s : List ℕ) (o : Open (b ∷ s)) where
  opened : (eqb b 10 ≡ false → Open s → P) → P
  opened f =
      by (eqb b 10) (λ e. absurd (omega (arith, upto_newline b s e)))
      (λ e. f e (omega (arith, upto_byte b s e)))

pub among_open : (s : List ℕ) → Open s → among 10 s ≡ false
among_open [] o = among_none
among_open (b ∷ s) o = opened b s o (λ e p. among_byte b s e ∙ among_open s p)

front_none : (b : ℕ) → in_front false b [] ≡ []
unfolding in_front pick
front_none b = refl

pub ended_open : (s : List ℕ) → Open s → ended s ≡ []
ended_open [] o = split_none false
ended_open (b ∷ s) o =
    opened b s o (λ e p. split_byte b s e false ∙ ap (in_front false b) (ended_open s p) ∙ front_none b)

pub open_take : (n : ℕ) (s : List ℕ) → Open s → Open (take n s)
open_take zero s o = upto_none
open_take (suc n) [] o = upto_none
open_take (suc n) (b ∷ s) o = opened b s o (λ e p. upto_byte b (take n s) e ∙ ap suc (open_take n s p))

-- bytes of a line in front of lines
abbrev pub fronted : List ℕ → List (List ℕ) → List (List ℕ)
fronted [] ls = ls
fronted (b ∷ p) ls = in_front true b (fronted p ls)

pub lines_open : (p t : List ℕ) → Open p → lines_of (p ++ t) ≡ fronted p (lines_of t)
lines_open [] t o = refl
lines_open (b ∷ p) t o =
    opened b p o (λ e q. split_byte b (p ++ t) e true ∙ ap (in_front true b) (lines_open p t q))

pub fronted_first : (p l : List ℕ) (ls : List (List ℕ)) → fronted p (l ∷ ls) ≡ (p ++ l) ∷ ls
fronted_first [] l ls = refl
fronted_first (b ∷ p) l ls = ap (in_front true b) (fronted_first p l ls) ∙ front_first true b (p ++ l) ls

front_alone : (b : ℕ) → in_front true b [] ≡ (b ∷ []) ∷ []
unfolding in_front pick
front_alone b = refl

pub fronted_alone : (b : ℕ) (p : List ℕ) → fronted (b ∷ p) [] ≡ (b ∷ p) ∷ []
fronted_alone b [] = front_alone b
fronted_alone b (x ∷ p) = ap (in_front true b) (fronted_alone x p) ∙ front_first true b (x ∷ p) []
