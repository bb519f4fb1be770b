-- How large the totals can be: rule 40's is at most 18,432, an ABN's runs from -10 to 980. Assumes nothing.
use mathlib.Core.Path.{◌≡◌, refl}
use mathlib.Core.Bool.{true, false}
use mathlib.Core.List.{List, [], ◌∷◌}
use Prim.Native.Nat.{ℕ, zero, suc, ◌+◌, ◌-◌, ◌*◌, ◌%◌, ◌≤◌, ◌<◌}
use native.Mathlib.Nat.{mul-le-mul_left}
use native.Mathlib.Omega.{arith}
use lib.IntN.{pos, neg_ℤ, ◌-ℤ◌}
use lib.ListN.{length, get_or}
use Rattle.ascii.specs.Class.{is_digit, all}
use Rattle.ascii.specs.Written.{bytes}
use Rattle.ascii.proofs.Class.{digit_bounds, all_first, all_rest}
use Rattle.forms.specs.Form.{fits}
use Rattle.forms.specs.Table.{digits, some_digits}
use Rattle.forms.proofs.OfDigits.{digits_true}
use Rattle.figures.specs.Total.{total}
use Rattle.figures.specs.Figures.{adds, weight_at, total_by, figure40, figure50}
use Rattle.figures.specs.Rules.{abn_total}
use Rattle.figures.proofs.Links.{total_reduced}

-- the weights of the last n places, added
abbrev weight_sum : List ℕ → ℕ → ℕ
weight_sum ws zero = 0
weight_sum ws (suc n) = weight_at ws n + weight_sum ws n

at_most : (ws s : List ℕ) → all is_digit s ≡ true → total (adds false ws) s ≤ 9 * weight_sum ws (length s)
at_most ws [] h = omega arith
at_most ws (b ∷ s) h =
    let d = digit_bounds b (all_first is_digit b s h) in
    let e : b - 48 ≤ 9 = omega arith in
    omega (arith, at_most ws s (all_rest is_digit b s h), mul-le-mul_left (weight_at ws (length s)) e)

one_or_three : (r : ℕ) → r < 2 → get_or (1 ∷ 3 ∷ []) r 0 ≡ 1 + 2 * r
one_or_three zero l = refl
one_or_three (suc zero) l = refl
one_or_three (suc (suc r)) l = absurd (omega arith)

about_two : (n : ℕ) → weight_sum figure40.weights n + n % 2 ≡ 2 * n
about_two zero = refl
about_two (suc n) = omega (arith, about_two n, one_or_three (n % 2) (omega arith))

pub gln_range : (s : List ℕ) → fits some_digits s ≡ true → total_by figure40 s ≤ 18432
gln_range s h =
    let d = digits_true 1 1024 s h in
    omega (arith, at_most figure40.weights s d.digit, about_two (length s))

-- a number from 0 to 990, less 10
pub abn_range : (s : List ℕ) → fits (digits 11 11) s ≡ true → (n : ℕ) × (n ≤ 990) × (abn_total s ≡ pos n -ℤ pos 10)
abn_range s h =
    let d = digits_true 11 11 s h in
    let n : length s ≡ 11 = omega arith in
    (total_by figure50 s, rw n at (at_most figure50.weights s d.digit), total_reduced s n)

pub abn_least : abn_total (bytes "00000000000") ≡ neg_ℤ (pos 10)
abn_least = refl

pub abn_most : abn_total (bytes "99999999999") ≡ pos 980
abn_most = refl
