-- With no weight 0 only zeros add up to 0. Assumes nothing.
use mathlib.Core.Path.{◌≡◌, refl, ◌∙◌, ap}
use mathlib.Core.Bool.{Bool, true, false, ◌&&◌}
use mathlib.Core.List.{List, [], ◌∷◌}
use Prim.Native.Nat.{ℕ, ◌-◌, ◌*◌, ◌%◌, ◌≤◌}
use native.Mathlib.Nat.{mul-le-mul_right}
use native.Mathlib.Omega.{arith}
use borrow.Author.Tests.{eqb-true, eqb-false, ne_eqb, leb-true}
use lib.Dec.{eqb, leb}
use lib.ListN.{length, get_or}
use Rattle.ascii.specs.Class.{is_digit, all}
use Rattle.ascii.proofs.Tests.{below_at}
use Rattle.ascii.proofs.Class.{digit_bounds, all_first, all_rest}
use Rattle.figures.specs.Total.{total}
use Rattle.figures.specs.Figures.{adds, weight_at, total_by, figure41}
use Rattle.figures.specs.Rules.{all_zero}

module _ (ws : List ℕ) (some : (k : ℕ) → 1 ≤ weight_at ws k) where
  more : (b : ℕ) (s : List ℕ) → is_digit b ≡ true → eqb (total (adds false ws) s) 0 ≡ all_zero s
      → (t : Bool) → eqb 48 b ≡ t → eqb (total (adds false ws) (b ∷ s)) 0 ≡ t && all_zero s
  more b s h ih true e =
      let z : b - 48 ≡ 0 = omega (arith, eqb-true 48 b e) in
      ap (λ n. eqb n 0) (let t : total (adds false ws) (b ∷ s) ≡ total (adds false ws) s = omega (arith, ap (λ n. weight_at ws (length s) * n) z) in t)
      ∙ ih
  more b s h ih false e =
      let n = eqb-false 48 b e in
      let d = digit_bounds b h in
      ne_eqb (total (adds false ws) (b ∷ s)) 0 (omega (arith, mul-le-mul_right (b - 48) (some (length s))))

  pub only_zeros : (s : List ℕ) → all is_digit s ≡ true → eqb (total (adds false ws) s) 0 ≡ all_zero s
  unfolding all
  only_zeros [] h = refl
  only_zeros (b ∷ s) h = more b s (all_first is_digit b s h) (only_zeros s (all_rest is_digit b s h)) (eqb 48 b) refl

pub zeros41 : (s : List ℕ) → all is_digit s ≡ true → eqb (total_by figure41 s) 0 ≡ all_zero s
zeros41 s h =
    only_zeros figure41.weights
    (λ k. leb-true 1 (weight_at figure41.weights k) (below_at 9 (λ j. leb 1 (get_or figure41.weights j 0)) refl (k % 9) (omega arith)))
    s h
