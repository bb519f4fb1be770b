-- How a walk over the places of a list follows its content: at each place the code points that are left.
use mathlib.Core.Path.{◌≡◌, refl, sym, ap, subst, ◌∙◌}
use mathlib.Core.List.{List, [], ◌∷◌, ◌++◌, map}
use mathlib.Core.Bool.{Bool, true, false}
use Prim.Native.Nat.{ℕ, zero, suc, ◌+◌, ◌-◌, ◌≤◌, ◌<◌}
use native.Mathlib.Nat.{add-zero, suc-add, add-suc}
use native.Mathlib.Omega.{arith}
use borrow.Author.Tests.{leb-true}
use lib.Dec.{leb}
use lib.ListN.{length, take, drop, length-drop, drop_of_length-le}
use lib.Seq.{drop-nil, drop-drop}
use Rattle.text.specs.declared.utf8.Point.{Point}
use Rattle.std.specs.Prelude.{Option, None, Ok}
use Rattle.std.proofs.lemmas.Option.{same_Some}
use Rattle.text.specs.Utf8.{point}
use Rattle.ascii.specs.Pick.{pick}
use Rattle.ascii.specs.Class.{all}
use Rattle.ascii.proofs.Class.{all_first, all_rest}
use Rattle.text.specs.Utf8.{two, three, four, step_of}
use Rattle.text.specs.Content.{Piece, Cell, Content, malformed, content, with_first, content_from, cells}
use Rattle.text.specs.Answer.{why_refused, on_content}
use Rattle.text.proofs.Rows.{row_1}

-- ---- a point takes one byte at least, no more than there are, and is read from its own bytes, whatever follows

-- what a step x of m bytes says of the steps y, by the number of bytes that are kept
record Own (m : ℕ) (x : Option Point) (y : ℕ → Option Point) : Type 0 where
  get : (c n : ℕ) → x ≡ point c n → (1 ≤ n) × (n ≤ m) × (y n ≡ point c n)

own_refused : (m : ℕ) (y : ℕ → Option Point) → Own m None y
own_refused m y = record { get = λ c n e. absurd (let z : ◌≡◌ {A = ℕ} 0 1 = cc in omega arith) }

own_pick : (t : Bool) {m : ℕ} {x x' : Option Point} {y y' : ℕ → Option Point} → Own m x y → Own m x' y' → Own m (pick t x x') (λ n. pick t (y n) (y' n))
unfolding pick
own_pick true p q = p
own_pick false p q = q

own_one : (c k : ℕ) {m : ℕ} (y : ℕ → Option Point) → 1 ≤ k → k ≤ m → y k ≡ point c k → Own m (point c k) y
own_one c k {m} y h l e =
    record { get = λ d n f. let g : k ≡ n = ap (λ (p : Point). p.len) (same_Some _ _ f) in subst (λ (j : ℕ). (1 ≤ j) × (j ≤ m) × (y j ≡ point d n)) g (h, l, e ∙ f) }

own_point : (t : Bool) (c k : ℕ) {m : ℕ} (y : ℕ → Option Point) → 1 ≤ k → k ≤ m → y k ≡ pick t (point c k) None → Own m (pick t (point c k) None) y
unfolding pick
own_point true c k y h l e = own_one c k y h l e
own_point false c k y h l e = own_refused _ y

module _ (r : List ℕ) (a : ℕ) where
  own_two : (l : List ℕ) → Own (suc (length l)) (two a l) (λ n. two a (take (n - 1) l ++ r))
  unfolding two
  own_two [] = own_refused _ _
  own_two (b ∷ l) = own_point _ _ 2 _ (omega arith) (omega arith) refl

  own_three : (low high : ℕ) (l : List ℕ) → Own (suc (length l)) (three a low high l) (λ n. three a low high (take (n - 1) l ++ r))
  unfolding three
  own_three low high [] = own_refused _ _
  own_three low high (b ∷ []) = own_refused _ _
  own_three low high (b ∷ c ∷ l) = own_point _ _ 3 _ (omega arith) (omega arith) refl

  own_four : (low high : ℕ) (l : List ℕ) → Own (suc (length l)) (four a low high l) (λ n. four a low high (take (n - 1) l ++ r))
  unfolding four
  own_four low high [] = own_refused _ _
  own_four low high (b ∷ []) = own_refused _ _
  own_four low high (b ∷ c ∷ []) = own_refused _ _
  own_four low high (b ∷ c ∷ d ∷ l) = own_point _ _ 4 _ (omega arith) (omega arith) refl

own_step : (r : List ℕ) (a : ℕ) (l : List ℕ) → Own (suc (length l)) (step_of (a ∷ l)) (λ n. step_of (a ∷ (take (n - 1) l ++ r)))
unfolding step_of
own_step r a l =
    own_pick _ (own_one a 1 _ (omega arith) (omega arith) refl)
    (own_pick _ (own_two r a l)
    (own_pick _ (own_three r a _ _ l)
    (own_pick _ (own_three r a _ _ l)
    (own_pick _ (own_three r a _ _ l)
    (own_pick _ (own_three r a _ _ l)
    (own_pick _ (own_four r a _ _ l)
    (own_pick _ (own_four r a _ _ l)
    (own_pick _ (own_four r a _ _ l) (own_refused _ _)))))))))

pub point_good : (l : List ℕ) (c n : ℕ) → point c n ≡ step_of l → (1 ≤ n) × (n ≤ length l)
unfolding step_of
point_good [] c n e = absurd (let z : ◌≡◌ {A = ℕ} 0 1 = cc in omega arith)
point_good (a ∷ l) c n e = let p = (own_step [] a l).get c n (sym e) in (p.0, p.1)

pub own_bytes : (r l : List ℕ) (c n : ℕ) → point c n ≡ step_of l → step_of (take n l ++ r) ≡ point c n
own_bytes r [] c n e = absurd (let h = point_good [] c n e in omega arith)
own_bytes r (a ∷ l) c zero e = absurd (let h = point_good (a ∷ l) c zero e in omega arith)
own_bytes r (a ∷ l) c (suc m) e =
    let f : suc m - 1 ≡ m = omega arith in
    rw f at ((own_step r a l).get c (suc m) (sym e)).2

-- ---- the walk

-- bytes that are passed over
skip : (o k : ℕ) (l : List ℕ) → content_from o k l ≡ content_from (o + k) 0 (drop k l)
unfolding content_from
skip o k [] = rw drop-nil
skip o zero (a ∷ l) = rw add-zero
skip o (suc k) (a ∷ l) = rw (add-suc, ← suc-add) (skip (suc o) k l)

pub unroll_list : (o c n : ℕ) (l : List ℕ) → point c n ≡ step_of l
    → content_from o 0 l ≡ with_first (record { at = o; code = c; bytes = take n l }) (content_from (o + n) 0 (drop n l))
unfolding content_from
unroll_list o c n [] e = absurd (let h = point_good [] c n e in omega arith)
unroll_list o c zero (a ∷ l) e = absurd (let h = point_good (a ∷ l) c zero e in omega arith)
unroll_list o c (suc m) (a ∷ l) e =
    let f : suc m - 1 ≡ m = omega arith in
    rw (← e, f, skip (suc o) m l, suc-add, ← add-suc)

unread_first : (p : Piece) (c : Content) → why_refused c ≡ why_refused (with_first p c)
unread_first p malformed = refl
unread_first p (content ps) = refl

-- a byte that is a code point by itself
abbrev pub single : ℕ → Bool
single b = leb b 0x7f

-- such bytes can be read
pub unread_ascii : (o : ℕ) (s : List ℕ) → all single s ≡ true → why_refused (content_from o 0 s) ≡ Ok tt
unfolding content_from
unread_ascii o [] e = refl
unread_ascii o (a ∷ l) e =
    rw (row_1 a l (leb-true a 0x7f (all_first _ a l e)))
    (sym (unread_first _ (content_from (suc o) 0 l)) ∙ unread_ascii (suc o) l (all_rest _ a l e))

pub unread_on : (o c n : ℕ) (l : List ℕ) → point c n ≡ step_of l → why_refused (content_from (o + n) 0 (drop n l)) ≡ why_refused (content_from o 0 l)
unread_on o c n l e = rw (unroll_list o c n l e) (unread_first _ (content_from (o + n) 0 (drop n l)))

pub stuck : (o : ℕ) (l : List ℕ) → 1 ≤ length l → None ≡ step_of l → content_from o 0 l ≡ malformed
unfolding content_from
stuck o [] h e = absurd (omega arith)
stuck o (a ∷ l) h e = rw (← e)

pub none_left : (o : ℕ) (l : List ℕ) → length l < 1 → content_from o 0 l ≡ content []
unfolding content_from
none_left o [] h = refl
none_left o (a ∷ l) h = absurd (omega arith)

module _ (s : List ℕ) (at : ℕ) where
  abbrev pub rest : Content
  rest = content_from at 0 (drop at s)

  pub point_fits : at ≤ length s → (c n : ℕ) → point c n ≡ step_of (drop at s) → (1 ≤ n) × (at + n ≤ length s)
  point_fits p c n e = let h = point_good (drop at s) c n e in let k = rw length-drop at h.1 in (h.0, omega arith)

  pub unroll : (c n : ℕ) → point c n ≡ step_of (drop at s)
      → rest ≡ with_first (record { at = at; code = c; bytes = take n (drop at s) }) (content_from (at + n) 0 (drop (at + n) s))
  unroll c n e = rw (← drop-drop n at s) (unroll_list at c n (drop at s) e)

  pub at_refused : at < length s → None ≡ step_of (drop at s) → rest ≡ malformed
  at_refused h e = stuck at (drop at s) (simp length-drop (omega arith)) e

  pub at_last : length s ≤ at → rest ≡ content []
  unfolding content_from
  at_last h = rw (drop_of_length-le s h)

on_content_first : (p : Piece) (c : Content) (f g : List Piece → List Cell) → ((ps : List Piece) → f (p ∷ ps) ≡ g ps)
    → on_content (with_first p c) f ≡ on_content c g
on_content_first p malformed f g e = refl
on_content_first p (content ps) f g e = rw (e ps)

-- one turn: the point that was read goes from what is left to what is done
pub advance : (o c n : ℕ) (l : List ℕ) (f g : List Piece → List Cell) → point c n ≡ step_of l
    → ((ps : List Piece) → f (record { at = o; code = c; bytes = take n l } ∷ ps) ≡ g ps)
    → on_content (content_from (o + n) 0 (drop n l)) g ≡ on_content (content_from o 0 l) f
advance o c n l f g e h = rw (unroll_list o c n l e) (sym (on_content_first _ (content_from (o + n) 0 (drop n l)) f g h))

-- what stands in the area
abbrev pub texts : List Cell → List ℕ
texts cs = map (λ (c : Cell). c.byte) cs

pub texts_cells : (o : ℕ) (l : List ℕ) → texts (cells o l) ≡ l
unfolding cells
texts_cells o [] = refl
texts_cells o (b ∷ l) = ap (λ (r : List ℕ). b ∷ r) (texts_cells (suc o) l)

pub length_cells : (o : ℕ) (l : List ℕ) → length (cells o l) ≡ length l
unfolding cells
length_cells o [] = refl
length_cells o (b ∷ l) = ap suc (length_cells (suc o) l)
