-- `figures::rules::mod97_0208` meets its contract. Assumes nothing.
use mathlib.Core.Path.{◌≡◌, ◌∙◌, sym, ap}
use mathlib.Core.Bool.{true}
use mathlib.Core.List.{List}
use Prim.Native.Nat.{ℕ}
use native.Mathlib.Omega.{arith}
use lib.Dec.{eqb}
use lib.ListN.{length, take, drop}
use Rattle.ascii.specs.Class.{is_digit, all}
use Rattle.forms.proofs.OfDigits.{digits_fit}
use Rattle.figures.specs.Total.{number}
use Rattle.figures.specs.Figures.{belgian_pair}
use Rattle.figures.specs.Inner.{total_passes}
use Rattle.figures.specs.Rules.{mod97}
use Rattle.figures.specs.declared.kind.Kind.TheVariants.{Mod97}
use Rattle.figures.proofs.Digits.{by_powers}
use Rattle.figures.proofs.Judging.{unmet, met}
use Rattle.figures.proofs.Pair.{by_total}
use Rattle.figures.proofs.rules.mod97_0208.Goals as goal

-- by the total, however the code comes to it
by_number : (t : ℕ) (s : List ℕ) → length s ≡ 10 → all is_digit s ≡ true → t ≡ number s
    → total_passes Mod97 t ≡ eqb (number (drop 8 s)) (belgian_pair (number (take 8 s)))
by_number t s n h e = ap (total_passes Mod97) e ∙ sym (by_total s n h)

pub returns-in_err-n_digits : goal.returns-in_err-n_digits
unfolding mod97
returns-in_err-n_digits c = unmet c.from_residual.ensures c.in_err-n_digits.ensures _

pub weighted-requires : goal.weighted-requires
weighted-requires c =
    let d = digits_fit 10 10 c.args.s.now (sym c.in_ok-n_digits.ensures) in
    record { digits = d.digit; few = omega arith; enough = omega arith }

pub returns : goal.returns
unfolding mod97
returns c =
    let s = c.args.s.now in
    let f = c.in_ok-n_digits.ensures in
    let d = digits_fit 10 10 s (sym f) in
    let n : length s ≡ 10 = omega arith in
    met _ f (c.passes.ensures ∙ by_number _ s n d.digit (omega (arith, c.weighted.ensures.exact, by_powers s d.most))) c.decided.ensures
