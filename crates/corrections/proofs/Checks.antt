-- The check of a body from its total is the figure that completes it. Assumes nothing.
use mathlib.Core.Path.{◌≡◌, refl, sym, ap, ◌∙◌}
use mathlib.Core.Bool.{Bool, true, false, not, ◌&&◌}
use mathlib.Core.List.{List, [], ◌∷◌, ◌++◌}
use Rattle.std.specs.Prelude.{Option, Some, None, Result, Ok, Err}
use Prim.Native.Nat.{ℕ, ◌+◌, ◌≤◌}
use mir.Val.{bool_byte}
use native.Mathlib.Omega.{arith}
use lib.Dec.{eqb}
use Rattle.ascii.specs.Pick.{pick}
use Rattle.ascii.specs.Class.{is_digit, all}
use Rattle.ascii.proofs.Class.{all_append, all_cons, all_nil, digit_inside}
use Rattle.answer.specs.declared.reason.Reason.{Reason}
use Rattle.answer.specs.declared.reason.Reason.TheVariants.{Zero, NoFigure}
use Rattle.forms.proofs.OfDigits.{Digits}
use Rattle.figures.specs.Figures.{total_by, figure41, belgian_pair}
use Rattle.figures.specs.Rules.{all_zero}
use Rattle.figures.specs.Completing.{one_digit, check_figure}
use Rattle.figures.specs.Inner.{lacking, figure_for}
use Rattle.figures.specs.declared.kind.Kind.TheVariants.{Mod10, Mod11, Mod97, Luhn, Mod89}
use Rattle.figures.proofs.Digits.{by_powers}
use Rattle.figures.proofs.Zeros.{zeros41}
use Rattle.figures.proofs.Adding.{with_zero}
use Rattle.corrections.specs.declared.five.Five.{Five}
use Rattle.corrections.specs.declared.five.Five.TheVariants.{Gln, Norway, Belgium, Sweden, Australia}
use Rattle.corrections.specs.Five.{row}
use Rattle.corrections.specs.Completing.{no_figure}
use Rattle.corrections.specs.Inner.{adds_by}

-- the total as the code asks for it: with a 0 for a check digit, and without a check pair
abbrev pub body_total : Five → List ℕ → ℕ
body_total k body = total_by (adds_by k) (with_zero (not (row k).pair) body)

-- the check digit that is still to come has its place too
pub body_room : (k : Five) → (row k).longest + bool_byte (not (row k).pair) ≤ (row k).most
body_room Gln = omega arith
body_room Norway = omega arith
body_room Belgium = omega arith
body_room Sweden = omega arith
body_room Australia = omega arith

-- a reason that is given, or else the figure
abbrev pub given : Option Reason → ℕ → Result ℕ Reason
given None n = Ok n
given (Some why) n = Err why

pub none_given : (o : Option Reason) {n c : ℕ} → given o n ≡ Ok c → (o ≡ None) × (n ≡ c)
none_given None e = (refl, cc)
none_given (Some why) e = cc

pub some_given : (o : Option Reason) (n : ℕ) {r : Reason} → given o n ≡ Err r → o ≡ Some r
some_given None n e = cc
some_given (Some why) n e = cc

picked : (z t : Bool) (n : ℕ) → pick z (Err Zero) (pick t (Err NoFigure) (Ok n)) ≡ given (pick z (Some Zero) (pick t (Some NoFigure) None)) n
unfolding pick
picked true t n = refl
picked false true n = refl
picked false false n = refl

module _ (body : List ℕ) where
  zero_end : (u : List ℕ) → all_zero (u ++ one_digit 0) ≡ all_zero u
  unfolding all
  zero_end [] = refl
  zero_end (b ∷ u) = ap (λ x. eqb 48 b && x) (zero_end u)

  zeros_total : all is_digit body ≡ true → eqb (total_by figure41 (body ++ one_digit 0)) 0 ≡ all_zero body
  zeros_total h =
      zeros41 (body ++ one_digit 0) (all_append is_digit body (one_digit 0) h (all_cons is_digit 48 [] (digit_inside 48 (omega arith) (omega arith)) (all_nil is_digit)))
      ∙ zero_end body

  pub figure_is : (k : Five) → Digits (row k).shortest (row k).longest body
      → figure_for (row k).figure (body_total k body) ≡ given (no_figure k body) (check_figure (row k).figure body)
  unfolding pick
  figure_is Gln d = refl
  figure_is Norway d = rw (zeros_total d.digit) (picked (all_zero body) _ _)
  figure_is Belgium d = ap (λ n. Ok (belgian_pair n)) (by_powers body (omega (arith, d.most)))
  figure_is Sweden d = refl
  figure_is Australia d = refl

-- ---- how large a figure is

pub figure_small : (k : Five) (t : ℕ) {c : ℕ} → figure_for (row k).figure t ≡ Ok c → c ≤ 99
figure_small Gln t {c} e = let q : lacking Mod10 t ≡ c = cc in omega arith
figure_small Norway t {c} e = go (eqb t 0) (eqb (lacking Mod11 t) 10) e
  where
    go : (z y : Bool) → pick z (Err Zero) (pick y (Err NoFigure) (Ok (lacking Mod11 t))) ≡ Ok c → c ≤ 99
    go z y e = let q = (none_given _ (sym (picked z y (lacking Mod11 t)) ∙ e)).1 in omega arith
figure_small Belgium t {c} e = let q : lacking Mod97 t ≡ c = cc in omega arith
figure_small Sweden t {c} e = let q : lacking Luhn t ≡ c = cc in omega arith
figure_small Australia t {c} e = let q : lacking Mod89 t ≡ c = cc in omega arith
