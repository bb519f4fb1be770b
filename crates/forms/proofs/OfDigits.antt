-- What a text of digits is. Assumes nothing.
use mathlib.Core.Path.{◌≡◌, ◌∙◌, sym, ap}
use mathlib.Core.Bool.{Bool, true, ◌&&◌}
use mathlib.Core.List.{List}
use Prim.Native.Nat.{ℕ, ◌≤◌}
use lib.ListN.{length}
use Rattle.ascii.specs.Class.{within, is_digit, all}
use Rattle.ascii.proofs.Tests.{and_true, true_and}
use Rattle.ascii.proofs.Class.{inside, bounds}
use Rattle.std.specs.Prelude.{Ok}
use Rattle.forms.specs.Form.{fault_of, fits}
use Rattle.forms.specs.Table.{digits}
use Rattle.forms.proofs.Meaning.{fault_fits, fits_fault}
use Rattle.forms.proofs.Follows.{fits_follows, all_digit}

pub fits_digits : (a b : ℕ) (s : List ℕ) → fits (digits a b) s ≡ within a b (length s) && all is_digit s
fits_digits a b s = fits_follows (digits a b) s ∙ ap (λ (x : Bool). within a b (length s) && x) (all_digit s)

pub record Digits (a b : ℕ) (s : List ℕ) : Type 0 where
  pub least : a ≤ length s
  pub most : length s ≤ b
  pub digit : all is_digit s ≡ true

module _ (a b : ℕ) (s : List ℕ) where
  pub digits_true : fits (digits a b) s ≡ true → Digits a b s
  digits_true e =
      let p = and_true (within a b (length s)) (all is_digit s) (sym (fits_digits a b s) ∙ e) in
      let q = bounds a b (length s) p.0 in
      record { least = q.0; most = q.1; digit = p.1 }

  pub true_digits : Digits a b s → fits (digits a b) s ≡ true
  true_digits d = fits_digits a b s ∙ true_and _ _ (inside a b (length s) d.least d.most) d.digit

  -- the same of the code's answer
  pub digits_fit : fault_of (digits a b) s ≡ Ok tt → Digits a b s
  digits_fit e = digits_true (fault_fits (digits a b) s e)

  pub fit_digits : Digits a b s → fault_of (digits a b) s ≡ Ok tt
  fit_digits d = fits_fault (digits a b) s (true_digits d)
