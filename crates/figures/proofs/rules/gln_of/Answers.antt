-- `figures::rules::gln_of` meets its contract. Assumes nothing.
use Prim.Native.Nat.{◌%◌}
use mathlib.Core.Path.{sym, ap, ◌∙◌}
use lib.Dec.{eqb}
use Rattle.forms.proofs.OfDigits.{digits_fit}
use Rattle.figures.specs.Rules.{gln}
use Rattle.figures.proofs.Judging.{unmet, met}
use Rattle.figures.proofs.rules.gln_of.Goals as goal

pub returns-in_err-all_digits : goal.returns-in_err-all_digits
unfolding gln
returns-in_err-all_digits c = unmet c.from_residual.ensures c.in_err-all_digits.ensures _

pub alternating-requires-clause-digits : goal.alternating-requires-clause-digits
alternating-requires-clause-digits c = (digits_fit 1 1024 c.args.s.now (sym c.in_ok-all_digits.ensures)).digit

pub alternating-requires-clause-few : goal.alternating-requires-clause-few
alternating-requires-clause-few c = (digits_fit 1 1024 c.args.s.now (sym c.in_ok-all_digits.ensures)).most

pub returns : goal.returns
unfolding gln
returns c = met _ c.in_ok-all_digits.ensures (ap (λ t. eqb (t % 10) 0) (c.from.ensures ∙ c.alternating.ensures)) c.decided.ensures
