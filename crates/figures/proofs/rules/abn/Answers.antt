-- `figures::rules::abn` meets its contract. Assumes nothing.
use Prim.Native.Nat.{◌%◌}
use mathlib.Core.Path.{◌∙◌, sym, ap}
use native.Mathlib.Omega.{arith}
use lib.Dec.{eqb}
use lib.IntN.{nat_abs, pos}
use lib.Signed.{rem_z}
use mir.Syntax.{w64}
use mir.Val.{SFits, of_z, to_z}
use mir.Facts.{to_z-of_z}
use Rattle.forms.proofs.OfDigits.{digits_fit}
use Rattle.figures.specs.Rules.{abn}
use Rattle.figures.proofs.Judging.{unmet, met}
use Rattle.figures.proofs.Signed.{rem_zero}
use Rattle.figures.proofs.rules.abn.Goals as goal

pub returns-in_err-n_digits : goal.returns-in_err-n_digits
unfolding abn
returns-in_err-n_digits c = unmet c.from_residual.ensures c.in_err-n_digits.ensures _

pub abn_total-requires-clause-digits : goal.abn_total-requires-clause-digits
abn_total-requires-clause-digits c = (digits_fit 11 11 c.args.s.now (sym c.in_ok-n_digits.ensures)).digit

pub abn_total-requires-clause-eleven : goal.abn_total-requires-clause-eleven
abn_total-requires-clause-eleven c = omega (arith, digits_fit 11 11 c.args.s.now (sym c.in_ok-n_digits.ensures))

pub returns : goal.returns
unfolding abn
returns c =
    let z = c.abn_total.result in
    let f : SFits w64 z = record { sfits = c.abn_total.type_inv } in
    met {t = eqb (of_z w64 (rem_z (to_z w64 (of_z w64 z)) (pos 89))) 0} _
    c.in_ok-n_digits.ensures
    (rw (to_z-of_z f) (rem_zero z ∙ ap (λ y. eqb (nat_abs y % 89) 0) c.abn_total.ensures))
    c.decided.ensures
