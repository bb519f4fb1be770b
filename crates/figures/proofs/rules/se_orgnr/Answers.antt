-- `figures::rules::se_orgnr` meets its contract. Assumes nothing.
use Prim.Native.Nat.{◌%◌}
use mathlib.Core.Path.{sym, ap, ◌∙◌}
use native.Mathlib.Omega.{arith}
use lib.Dec.{eqb}
use Rattle.forms.proofs.OfDigits.{digits_fit}
use Rattle.figures.specs.Rules.{se_orgnr}
use Rattle.figures.proofs.Judging.{unmet, met}
use Rattle.figures.proofs.rules.se_orgnr.Goals as goal

pub returns-in_err-n_digits : goal.returns-in_err-n_digits
unfolding se_orgnr
returns-in_err-n_digits c = unmet c.from_residual.ensures c.in_err-n_digits.ensures _

pub alternating-requires-clause-digits : goal.alternating-requires-clause-digits
alternating-requires-clause-digits c = (digits_fit 10 10 c.args.s.now (sym c.in_ok-n_digits.ensures)).digit

pub alternating-requires-clause-few : goal.alternating-requires-clause-few
alternating-requires-clause-few c = omega (arith, digits_fit 10 10 c.args.s.now (sym c.in_ok-n_digits.ensures))

pub returns : goal.returns
unfolding se_orgnr
returns c = met _ c.in_ok-n_digits.ensures (ap (λ t. eqb (t % 10) 0) (c.from.ensures ∙ c.alternating.ensures)) c.decided.ensures
