-- What a text that fits a named form is, byte by byte. Assumes nothing.
use mathlib.Core.Path.{◌≡◌, refl, ◌∙◌, sym, ap}
use mathlib.Core.Bool.{Bool, true, false, ◌&&◌, ◌||◌, and-false, or-true, or-false}
use mathlib.Core.List.{List, [], ◌∷◌}
use Prim.Native.Nat.{ℕ, ◌≤◌}
use native.Mathlib.Omega.{arith}
use borrow.Author.Tests.{eqb-true, eqb-false}
use lib.Dec.{eqb}
use lib.ListN.{length, get_or, drop}
use Rattle.ascii.specs.Pick.{pick}
use Rattle.ascii.specs.Class.{within, is_digit, is_letter, is_plain, all}
use Rattle.ascii.proofs.Tests.{and_true, not_true}
use Rattle.ascii.proofs.Class.{below, bounds, all_cons}
use Rattle.forms.specs.Form.{Form, of_class, form_from, fault_of, fits}
use Rattle.forms.specs.Table.{form, digits, dk_and_eight, danish_of, italian_of, account}
use Rattle.forms.proofs.Follows.{fits_follows, fits_parts, rest_follows, unfit, all_digit, all_plain}

-- ---- a head and then digits

pub record Headed (h : List ℕ) (a b : ℕ) (s : List ℕ) : Type 0 where
  pub least : a ≤ length s
  pub most : length s ≤ b
  pub digit : all is_digit (drop (length h) s) ≡ true

pub headed : (h : List ℕ) (a b : ℕ) (s : List ℕ) → fits (form_from h 0x23 a b) s ≡ true → Headed h a b s
headed h a b s e =
    let p = fits_parts (form_from h 0x23 a b) s e in
    record { least = p.0.0; most = p.0.1; digit = sym (all_digit (drop (length h) s)) ∙ rest_follows h 0x23 s p.1 }

-- ---- 42

-- DK and 8 digits, or 8 digits
pub danish_either : (s : List ℕ) → fits (danish_of s) s ≡ fits dk_and_eight s || fits (digits 8 8) s
unfolding pick
danish_either s = go (eqb (length s) 8) refl
  where
    go : (t : Bool) → eqb (length s) 8 ≡ t → fits (pick t (digits 8 8) dk_and_eight) s ≡ fits dk_and_eight s || fits (digits 8 8) s
    go true e =
        let n = eqb-true (length s) 8 e in
        let w : fits dk_and_eight s ≡ false = unfit dk_and_eight s (below 10 10 (length s) (omega arith)) in
        rw w
    go false e =
        let w : fits (digits 8 8) s ≡ false = unfit (digits 8 8) s (not_true _ (λ h. let b = bounds 8 8 (length s) h in eqb-false (length s) 8 e (omega arith))) in
        rw w (sym (or-false (fits dk_and_eight s)))

-- ---- 47

abbrev pub upper : Form
upper = form "IT" "#" 13 13

abbrev pub lower : Form
lower = form "it" "#" 13 13

-- another first byte
unlike : (k : ℕ) (h : List ℕ) (r x y c : ℕ) (s : List ℕ) → of_class k c ≡ false → fits (form_from (k ∷ h) r x y) (c ∷ s) ≡ false
unlike k h r x y c s e = fits_follows (form_from (k ∷ h) r x y) (c ∷ s) ∙ rw e (and-false (within x y (length (c ∷ s))))

first_byte : (b : ℕ) (s : List ℕ) (t : Bool) → eqb b 0x69 ≡ t → fits (pick t lower upper) (b ∷ s) ≡ fits upper (b ∷ s) || fits lower (b ∷ s)
unfolding pick of_class
first_byte b s true e =
    let w : fits upper (b ∷ s) ≡ false = unlike 0x49 _ 0x23 13 13 b s (ap (λ (x : ℕ). eqb x 0x49) (eqb-true b 0x69 e)) in
    rw w
first_byte b s false e =
    let w : fits lower (b ∷ s) ≡ false = unlike 0x69 _ 0x23 13 13 b s e in
    rw w (sym (or-false (fits upper (b ∷ s))))

-- IT and 11 digits, or it and 11 digits
pub italian_either : (s : List ℕ) → fits (italian_of s) s ≡ fits upper s || fits lower s
unfolding fits fault_of within pick
italian_either [] = refl
italian_either (b ∷ s) = first_byte b s (eqb b 0x69) refl

-- ---- IBAN and creditor

pub fits_account : (lo hi a b c d : ℕ) (s : List ℕ)
    → fits (account lo hi) (a ∷ b ∷ c ∷ d ∷ s)
    ≡ within lo hi (length (a ∷ b ∷ c ∷ d ∷ s)) && (is_letter a && (is_letter b && (is_digit c && (is_digit d && all is_plain s))))
unfolding of_class pick
fits_account lo hi a b c d s =
    fits_follows (account lo hi) (a ∷ b ∷ c ∷ d ∷ s)
    ∙ ap (λ (x : Bool). within lo hi (length (a ∷ b ∷ c ∷ d ∷ s)) && (is_letter a && (is_letter b && (is_digit c && (is_digit d && x))))) (all_plain s)

pub record Account (lo hi : ℕ) (s : List ℕ) : Type 0 where
  pub least : lo ≤ length s
  pub most : length s ≤ hi
  pub plain : all is_plain s ≡ true
  pub letter : is_letter (get_or s 0 0) ≡ true
  pub letter2 : is_letter (get_or s 1 0) ≡ true
  pub digit : is_digit (get_or s 2 0) ≡ true
  pub digit2 : is_digit (get_or s 3 0) ≡ true

digit_plain : (b : ℕ) → is_digit b ≡ true → is_plain b ≡ true
unfolding is_plain
digit_plain b e = rw e

letter_plain : (b : ℕ) → is_letter b ≡ true → is_plain b ≡ true
unfolding is_plain
letter_plain b e = rw e (or-true (is_digit b))

pub account_fits : (lo hi : ℕ) (s : List ℕ) → 4 ≤ lo → fits (account lo hi) s ≡ true → Account lo hi s
account_fits lo hi [] l e = absurd (let p = (fits_parts (account lo hi) [] e).0 in omega arith)
account_fits lo hi (a ∷ []) l e = absurd (let p = (fits_parts (account lo hi) (a ∷ []) e).0 in omega arith)
account_fits lo hi (a ∷ b ∷ []) l e = absurd (let p = (fits_parts (account lo hi) (a ∷ b ∷ []) e).0 in omega arith)
account_fits lo hi (a ∷ b ∷ c ∷ []) l e = absurd (let p = (fits_parts (account lo hi) (a ∷ b ∷ c ∷ []) e).0 in omega arith)
account_fits lo hi (a ∷ b ∷ c ∷ d ∷ s) l e =
    let n = (fits_parts (account lo hi) (a ∷ b ∷ c ∷ d ∷ s) e).0 in
    let v = is_digit d && all is_plain s in
    let w = is_digit c && v in
    let x = is_letter b && w in
    let p = and_true (within lo hi (length (a ∷ b ∷ c ∷ d ∷ s))) (is_letter a && x) (sym (fits_account lo hi a b c d s) ∙ e) in
    let q = and_true (is_letter a) x p.1 in
    let r = and_true (is_letter b) w q.1 in
    let t = and_true (is_digit c) v r.1 in
    let u = and_true (is_digit d) (all is_plain s) t.1 in
    record {
      least = n.0;
      most = n.1;
      plain =
          all_cons is_plain a _ (letter_plain a q.0)
          (all_cons is_plain b _ (letter_plain b r.0)
          (all_cons is_plain c _ (digit_plain c t.0) (all_cons is_plain d s (digit_plain d u.0) u.1)));
      letter = q.0;
      letter2 = r.0;
      digit = t.0;
      digit2 = u.0;
    }
