-- The figure that completes a body: a check digit or a check pair.
use Rattle.std.specs.Prelude.{◌≡◌, Bool, true, Option, Some, None, List, [], ◌∷◌, ◌++◌, ℕ, ◌+◌, ◌-◌, ◌/◌, ◌%◌, ◌≤◌, ◌==◌, length}
use Rattle.ascii.specs.Pick.{pick}
use Rattle.answer.specs.declared.reason.Reason.{Reason}
use Rattle.answer.specs.declared.reason.Reason.TheVariants.{Zero, NoFigure}
use Rattle.figures.specs.Total.{number}
use Rattle.figures.specs.Figures.{Figure, total_by, figure40, figure41, belgian_pair, luhn, figure50}
use Rattle.figures.specs.Rules.{all_zero}
use Rattle.figures.specs.declared.kind.Kind.{Kind}
use Rattle.figures.specs.declared.kind.Kind.TheVariants.{Mod10, Mod11, Mod97, Luhn, Mod89}

-- a number below 10, and one below 100, as text
abbrev pub one_digit : ℕ → List ℕ
one_digit n = (n + 48) ∷ []

abbrev pub two_digits : ℕ → List ℕ
two_digits n = (n / 10 + 48) ∷ (n % 10 + 48) ∷ []

-- what brings n to a multiple of m
abbrev pub complement : ℕ → ℕ → ℕ
complement m n = (m - n % m) % m

-- what a body lacks: the total is that with a 0 for the check
abbrev pub lacks : Figure → List ℕ → ℕ
lacks f body = complement f.modulus (total_by f (body ++ one_digit 0))

-- the pair of 0151, from 11 to 99, which goes in front
abbrev pub abn_pair : ℕ → ℕ
abn_pair n = 99 - n % figure50.modulus

-- the figure of a body as a number
abbrev pub check_figure : Kind → List ℕ → ℕ
check_figure Mod10 body = lacks figure40 body
check_figure Mod11 body = lacks figure41 body
check_figure Mod97 body = belgian_pair (number body)
check_figure Luhn body = lacks luhn body
check_figure Mod89 body = abn_pair (total_by figure50 body)

-- why a body of 0192 has none: ZERO for eight zeros, NO_FIGURE where the check would be 10
abbrev pub mod11_reason : List ℕ → Option Reason
mod11_reason body = pick (all_zero body) (Some Zero) (pick (check_figure Mod11 body == 10) (Some NoFigure) None)

-- `number_with` makes a number of the body and a figure: with x it is accepted, and with no other text of x's length that writes `least` or more
pub record Completes (accepts : List ℕ → Bool) (number_with : List ℕ → List ℕ) (least : ℕ) (x : List ℕ) : Type 0 where
  pub accepted : accepts (number_with x) ≡ true
  pub alone : (y : List ℕ) → length y ≡ length x → least ≤ number y → accepts (number_with y) ≡ true → y ≡ x
