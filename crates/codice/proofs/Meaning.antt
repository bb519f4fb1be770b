-- What an answer of `codice_fault` means. Assumes nothing.
use mathlib.Core.Path.{◌≡◌, refl, ◌∙◌, ap}
use mathlib.Core.Bool.{Bool, true, false, ◌&&◌}
use mathlib.Core.Bool as bool
use mathlib.Core.List.{List, [], ◌∷◌}
use Prim.Native.Nat.{ℕ, ◌≤◌}
use native.Mathlib.Omega.{arith}
use borrow.Author.Tests.{eqb-true}
use lib.Dec.{eqb}
use lib.ListN.{length, get_or}
use lib.Seq.{take_all}
use Rattle.ascii.specs.Pick.{pick}
use Rattle.ascii.specs.Class.{is_digit, all}
use Rattle.ascii.proofs.Tests.{and_true, false_true}
use Rattle.text.specs.White.{is_white}
use Rattle.text.specs.Content.{Piece, malformed, content, content_of, codes}
use Rattle.forms.specs.declared.form.Fault.TheVariants.{Length, At}
use Rattle.std.specs.Prelude.{Err, is_ok}
use Rattle.forms.proofs.Follows.{fit_pick}
use Rattle.codice.specs.Integer.{is_empty, past, trim_end, is_sign, unsigned, one_or_more_digits, integer_text}
use Rattle.codice.specs.Codice.{Group, part, groups_of16, groups_of11, places, failing, codice_of, codice_fault}
use Rattle.codice.specs.Meaning.{all_pass, is_codice}
use Rattle.codice.proofs.Trim.{digit_dark, digit_unsigned, some_first, integer_read}

-- no group fails exactly when each passes
fit_passes : (gs : List Group) (ps : List Piece) → is_ok (failing gs ps) ≡ all_pass gs ps
unfolding failing all_pass
fit_passes [] ps = refl
fit_passes (g ∷ gs) ps =
    let t = g.test (codes (part g ps)) in
    fit_pick t (failing gs ps) (Err (At (get_or (places ps) g.first 0))) refl ∙ ap (λ (x : Bool). t && x) (fit_passes gs ps)

-- 11 points are one group
whole : (ps : List Piece) → length ps ≡ 11 → all_pass groups_of11 ps ≡ integer_text (codes ps)
unfolding all_pass
whole ps h = let l : length ps ≤ 11 = omega arith in rw (take_all 11 ps l) (bool.and-true (integer_text (codes ps)))

by_count : (ps : List Piece) (t u : Bool) → eqb (length ps) 11 ≡ u
    → is_ok (pick t (failing groups_of16 ps) (pick u (failing groups_of11 ps) (Err Length))) ≡ pick t (all_pass groups_of16 ps) (u && integer_text (codes ps))
unfolding pick
by_count ps true u f = fit_passes groups_of16 ps
by_count ps false true f = fit_passes groups_of11 ps ∙ whole ps (eqb-true (length ps) 11 f)
by_count ps false false f = refl

-- a text fits exactly when it is well-formed and its code points are a codice fiscale
pub codice_fits : (s : List ℕ) (ps : List Piece) → content_of s ≡ content ps → is_ok (codice_fault s) ≡ is_codice ps
unfolding codice_fault codice_of is_codice
codice_fits s ps e = rw e (by_count ps (eqb (length ps) 16) (eqb (length ps) 11) refl)

-- a text that is not well-formed has no number of points that fits
pub codice_malformed : (s : List ℕ) → content_of s ≡ malformed → codice_fault s ≡ Err Length
unfolding codice_fault codice_of
codice_malformed s e = rw e

-- ---- integer texts

one_step : (c : ℕ) (d w g : Bool) → is_digit c ≡ d → is_white c ≡ w → is_sign c ≡ g → integer_text (c ∷ []) ≡ d
unfolding integer_text past trim_end unsigned one_or_more_digits is_empty all pick
one_step c true w g e f h = rw (digit_dark c e) (rw (digit_dark c e) (rw (digit_unsigned c e) (rw e)))
one_step c false true g e f h = rw f
one_step c false false true e f h = rw f (rw f (rw h))
one_step c false false false e f h = rw f (rw f (rw h (rw e)))

-- one point is an integer text exactly when it is a digit
pub one_integer : (c : ℕ) → integer_text (c ∷ []) ≡ is_digit c
one_integer c = one_step c (is_digit c) (is_white c) (is_sign c) refl refl refl

past_all : (p : ℕ → Bool) (l : List ℕ) → all p l ≡ true → past p l ≡ []
unfolding all past pick
past_all p [] e = refl
past_all p (c ∷ l) e = let q = and_true (p c) (all p l) e in rw q.0 (past_all p l q.1)

-- digits alone are an integer text
pub digits_integer : (l : List ℕ) → one_or_more_digits l ≡ true → integer_text l ≡ true
unfolding past unsigned one_or_more_digits is_empty all pick
digits_integer [] e = false_true e
digits_integer (c ∷ l) e =
    let q = and_true (is_digit c) (all is_digit l) e in
    integer_read (c ∷ l)
    ∙ rw (digit_dark c q.0) (rw (digit_unsigned c q.0) (some_first c l q.0 ∙ ap (λ (m : List ℕ). is_empty (past is_white m)) (past_all is_digit l q.1)))
