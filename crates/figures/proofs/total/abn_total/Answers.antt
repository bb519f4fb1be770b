-- `figures::total::abn_total` meets its contract. Assumes nothing.
use mathlib.Core.List.{List}
use mathlib.Core.Bool.{true}
use Prim.Native.Nat.{ℕ, ◌-◌, ◌≤◌}
use mathlib.Core.Path.{◌≡◌, ◌∙◌, ap}
use native.Mathlib.Omega.{arith}
use lib.IntN.{pos, ◌+ℤ◌, ◌-ℤ◌, ◌*ℤ◌}
use lib.ListN.{length, get_or, drop, length-drop}
use Rattle.ascii.specs.Class.{is_digit, all}
use Rattle.ascii.proofs.Class.{digit_bounds, all_at, all_drop}
use Rattle.figures.proofs.Digits.{cut}
use Rattle.figures.proofs.Signed.{fits_first, fits_ten, fits_total, total_value}
use Rattle.figures.proofs.total.abn_total.Goals.{After-weighted-rest}
use Rattle.figures.proofs.total.abn_total.Goals as goal

-- the first digit
first : (s : List ℕ) → all is_digit s ≡ true → length s ≡ 11 → (48 ≤ get_or s 0 0) × (get_or s 0 0 - 48 ≤ 9)
first s h e = let d = digit_bounds (get_or s 0 0) (all_at is_digit s 0 h (omega arith)) in (d.0, omega arith)

-- the bound of the weighted rest
few : (c : After-weighted-rest) → c.weighted-rest.result ≤ 386547056640
few c =
    let b = rw (cut 1 11 c.args.s.now c.requires.eleven) at c.weighted-rest.ensures.bound in
    omega (arith, c.requires.eleven, length-drop 1 c.args.s.now)

pub weighted-rest-requires : goal.weighted-rest-requires
unfolding all
weighted-rest-requires c =
    let s = c.args.s.now in
    let n : length (drop 1 s) ≡ 10 = omega (arith, length-drop 1 s) in
    rw (cut 1 11 s c.requires.eleven) record { digits = all_drop is_digit 1 s c.requires.digits; few = omega (arith, length-drop 1 s); enough = omega (arith, length-drop 1 s) }

pub overflow_sub-digit : goal.overflow_sub-digit
overflow_sub-digit c = (first c.args.s.now c.requires.digits c.requires.eleven).0

pub overflow_cast-first : goal.overflow_cast-first
overflow_cast-first c = record { sfits = omega (arith, first c.args.s.now c.requires.digits c.requires.eleven) }

pub overflow_sub-first : goal.overflow_sub-first
overflow_sub-first c = fits_first (get_or c.args.s.now 0 0 - 48) c.weighted-rest.result (first c.args.s.now c.requires.digits c.requires.eleven).1 (few (goal.at.overflow_sub-first c).After-weighted-rest)

pub overflow_mul-result : goal.overflow_mul-result
overflow_mul-result c = fits_ten (get_or c.args.s.now 0 0 - 48) c.weighted-rest.result (first c.args.s.now c.requires.digits c.requires.eleven).1 (few (goal.at.overflow_mul-result c).After-weighted-rest)

pub overflow_add-result : goal.overflow_add-result
overflow_add-result c = fits_total (get_or c.args.s.now 0 0 - 48) c.weighted-rest.result (first c.args.s.now c.requires.digits c.requires.eleven).1 (few (goal.at.overflow_add-result c).After-weighted-rest)

pub returns : goal.returns
returns c =
    let s = c.args.s.now in
    total_value (get_or s 0 0 - 48) c.weighted-rest.result (first c.args.s.now c.requires.digits c.requires.eleven).1 (few (goal.at.returns c).After-weighted-rest)
    ∙ ap (λ t. pos 10 *ℤ (pos (get_or s 0 0 - 48) -ℤ pos 1) +ℤ pos t) (rw (cut 1 11 s c.requires.eleven) at c.weighted-rest.ensures.exact)
