-- How the code reads an integer text: past the white points, past a sign, past one digit or more, and past the white points to the end. Assumes nothing.
use mathlib.Core.Path.{◌≡◌, refl, ◌∙◌, sym, ap}
use mathlib.Core.Bool.{Bool, true, false, not, ◌&&◌, ◌||◌}
use mathlib.Core.List.{List, [], ◌∷◌}
use Prim.Native.Nat.{ℕ, suc, ◌≤◌, ◌<◌}
use native.Mathlib.Omega.{arith}
use borrow.Author.Tests.{eqb-true, ne_eqb, not-true, lt-ltb, le-ltb}
use lib.Dec.{eqb, ltb}
use lib.ListN.{length}
use Rattle.ascii.specs.Pick.{pick}
use Rattle.ascii.specs.Class.{within, is_digit, all, among}
use Rattle.ascii.proofs.Tests.{false_true, implies, implies_use, below, below_at}
use Rattle.ascii.proofs.Class.{digit_bounds}
use Rattle.text.specs.White.{white_points, is_white}
use Rattle.codice.specs.Integer.{is_empty, past, trim_end, is_sign, unsigned, one_or_more_digits, integer_text}

-- ---- digits and signs are not white, and a digit is no sign

-- two tests that never pass together, computed over the points that pass the first
apart : (p q : ℕ → Bool) → below 58 (λ c. implies (p c) (not (q c))) ≡ true → (c : ℕ) → c < 58 → p c ≡ true → q c ≡ false
apart p q h c l e = not-true (q c) (implies_use (p c) (not (q c)) (below_at 58 (λ x. implies (p x) (not (q x))) h c l) e)

pub digit_dark : (c : ℕ) → is_digit c ≡ true → is_white c ≡ false
unfolding within is_digit among white_points is_white
digit_dark c e = apart is_digit is_white refl c (let b = digit_bounds c e in omega arith) e

pub digit_unsigned : (c : ℕ) → is_digit c ≡ true → is_sign c ≡ false
unfolding within is_digit is_sign
digit_unsigned c e = apart is_digit is_sign refl c (let b = digit_bounds c e in omega arith) e

sign_small : (c : ℕ) → is_sign c ≡ true → c < 58
unfolding is_sign
sign_small c h = go (eqb c 43) (eqb c 45) refl refl h
  where
    go : (a b : Bool) → eqb c 43 ≡ a → eqb c 45 ≡ b → (a || b) ≡ true → c < 58
    go true b e f t = let g = eqb-true c 43 e in omega arith
    go false true e f t = let g = eqb-true c 45 f in omega arith
    go false false e f t = false_true t

pub sign_dark : (c : ℕ) → is_sign c ≡ true → is_white c ≡ false
unfolding is_sign among white_points is_white
sign_dark c e = apart is_sign is_white refl c (sign_small c e) e

-- ---- one or more digits, and only white after them

-- only white is left exactly when nothing is left after trimming
white_step : (c : ℕ) (m : List ℕ) (w n : Bool) → is_white c ≡ w → is_empty (trim_end m) ≡ n → is_empty (past is_white m) ≡ n
    → is_empty (past is_white (c ∷ m)) ≡ is_empty (trim_end (c ∷ m))
unfolding past trim_end is_empty pick
white_step c m true true e f h = rw (e, f) h
white_step c m true false e f h = rw (e, f) h
white_step c m false n e f h = rw e refl

white_left : (l : List ℕ) → is_empty (past is_white l) ≡ is_empty (trim_end l)
unfolding past trim_end is_empty
white_left [] = refl
white_left (c ∷ m) = white_step c m (is_white c) (is_empty (trim_end m)) refl refl (white_left m)

-- what begins with no digit is all digits after trimming exactly when nothing is left
other_step : (c : ℕ) (m : List ℕ) (t : Bool) → is_digit c ≡ false → (is_white c && is_empty (trim_end m)) ≡ t
    → (is_empty (trim_end (c ∷ m)) ≡ all is_digit (trim_end (c ∷ m))) × (one_or_more_digits (trim_end (c ∷ m)) ≡ false)
unfolding trim_end is_empty all one_or_more_digits pick
other_step c m true d e = rw e (refl, refl)
other_step c m false d e = rw e (rw d refl, rw d refl)

digits_step : (c : ℕ) (m : List ℕ) (d : Bool) → is_digit c ≡ d → is_empty (past is_white (past is_digit m)) ≡ all is_digit (trim_end m)
    → is_empty (past is_white (past is_digit (c ∷ m))) ≡ all is_digit (trim_end (c ∷ m))
unfolding past trim_end all pick
digits_step c m true e h = rw (e, digit_dark c e) (rw e h)
digits_step c m false e h = rw e (white_left (c ∷ m) ∙ (other_step c m (is_white c && is_empty (trim_end m)) e refl).0)

digits_left : (l : List ℕ) → is_empty (past is_white (past is_digit l)) ≡ all is_digit (trim_end l)
unfolding past trim_end is_empty all
digits_left [] = refl
digits_left (c ∷ m) = digits_step c m (is_digit c) refl (digits_left m)

pub some_first : (c : ℕ) (m : List ℕ) → is_digit c ≡ true → one_or_more_digits (trim_end (c ∷ m)) ≡ is_empty (past is_white (past is_digit m))
unfolding trim_end one_or_more_digits all pick
some_first c m e = rw (digit_dark c e) (rw e (sym (digits_left m)))

some_not : (c : ℕ) (m : List ℕ) → is_digit c ≡ false → one_or_more_digits (trim_end (c ∷ m)) ≡ false
some_not c m e = (other_step c m (is_white c && is_empty (trim_end m)) e refl).1

-- past some digits a list is shorter
past_step : (p : ℕ → Bool) (c : ℕ) (m : List ℕ) (t : Bool) → p c ≡ t → length (past p m) ≤ length m → length (past p (c ∷ m)) ≤ suc (length m)
unfolding past pick
past_step p c m true e h = rw e (omega arith)
past_step p c m false e h = rw e (omega arith)

past_length : (p : ℕ → Bool) (l : List ℕ) → length (past p l) ≤ length l
unfolding past
past_length p [] = omega arith
past_length p (c ∷ m) = past_step p c m (p c) refl (past_length p m)

nothing_left : (l : List ℕ) → is_empty l ≡ eqb (length l) 0
unfolding is_empty
nothing_left [] = refl
nothing_left (c ∷ l) = sym (ne_eqb (suc (length l)) 0 (λ e. omega arith))

number_step : (c : ℕ) (m : List ℕ) (t : Bool) → is_digit c ≡ t
    → (ltb (length (past is_digit (c ∷ m))) (suc (length m)) && eqb (length (past is_white (past is_digit (c ∷ m)))) 0) ≡ one_or_more_digits (trim_end (c ∷ m))
unfolding past pick
number_step c m true e = rw (e, lt-ltb (length (past is_digit m)) (suc (length m)) (let h = past_length is_digit m in omega arith)) (sym (some_first c m e ∙ nothing_left _))
number_step c m false e = rw (e, some_not c m e, le-ltb (suc (length m)) (suc (length m)) (omega arith)) refl

pub number_read : (l behind left : List ℕ) → behind ≡ past is_digit l → left ≡ past is_white behind
    → (ltb (length behind) (length l) && eqb (length left) 0) ≡ one_or_more_digits (trim_end l)
unfolding past trim_end one_or_more_digits
number_read [] behind left e f = rw (f, e) refl
number_read (c ∷ m) behind left e f = rw (f, e) (number_step c m (is_digit c) refl)

-- ---- the sign and the end do not meet

sign_step : (c : ℕ) (m : List ℕ) (s t : Bool) → is_sign c ≡ s → (is_white c && is_empty (trim_end m)) ≡ t
    → unsigned (trim_end (c ∷ m)) ≡ trim_end (unsigned (c ∷ m))
unfolding unsigned trim_end pick
sign_step c m true t e f = rw (sign_dark c e, e) refl
sign_step c m false true e f = rw (f, e) (rw f refl)
sign_step c m false false e f = rw (f, e) (rw f refl)

unsigned_trim : (l : List ℕ) → unsigned (trim_end l) ≡ trim_end (unsigned l)
unfolding unsigned trim_end
unsigned_trim [] = refl
unsigned_trim (c ∷ m) = sign_step c m (is_sign c) (is_white c && is_empty (trim_end m)) refl refl

pub integer_read : (l : List ℕ) → integer_text l ≡ one_or_more_digits (trim_end (unsigned (past is_white l)))
unfolding integer_text
integer_read l = ap one_or_more_digits (unsigned_trim (past is_white l))
