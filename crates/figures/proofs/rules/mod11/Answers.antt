-- `figures::rules::mod11` meets its contract. Assumes nothing.
use Prim.Native.Nat.{◌%◌}
use mathlib.Core.Path.{◌≡◌, ◌∙◌, sym, ap}
use native.Mathlib.Omega.{arith}
use lib.Dec.{eqb}
use lib.ListN.{length}
use borrow.Author.Tests.{eq-eqb, ne_eqb}
use Rattle.ascii.specs.Class.{all}
use Rattle.forms.proofs.OfDigits.{digits_fit}
use Rattle.figures.specs.Rules.{mod11}
use Rattle.figures.proofs.Judging.{unmet_zero, met_zero, met_not_zero}
use Rattle.figures.proofs.Zeros.{zeros41}
use Rattle.figures.proofs.rules.mod11.Goals as goal

pub returns-in_err-n_digits : goal.returns-in_err-n_digits
unfolding mod11
returns-in_err-n_digits c = unmet_zero c.from_residual.ensures c.in_err-n_digits.ensures _ _

pub weighted-sum-requires : goal.weighted-sum-requires
unfolding all
weighted-sum-requires c =
    let s = c.args.s.now in
    let d = digits_fit 9 9 s (sym c.in_ok-n_digits.ensures) in
    let n : length s ≡ 9 = omega arith in
    record { digits = d.digit; few = omega arith; enough = omega arith }

pub returns-then-sum-eq0 : goal.returns-then-sum-eq0
unfolding mod11
returns-then-sum-eq0 c =
    let s = c.args.s.now in
    let f = c.in_ok-n_digits.ensures in
    met_zero _ f (sym (zeros41 s (digits_fit 9 9 s (sym f)).digit) ∙ eq-eqb _ _ (sym c.weighted-sum.ensures.exact ∙ c.if-sum-eq0.true))

pub returns : goal.returns
unfolding mod11
returns c =
    let s = c.args.s.now in
    let f = c.in_ok-n_digits.ensures in
    met_not_zero _ f
    (sym (zeros41 s (digits_fit 9 9 s (sym f)).digit) ∙ ne_eqb _ _ (λ e. c.if-sum-eq0.false (c.weighted-sum.ensures.exact ∙ e)))
    (ap (λ t. eqb (t % 11) 0) c.weighted-sum.ensures.exact) c.decided.ensures
